use Rattle.std.proofs.Common.{◌∙◌, ◌++◌, [], ◌∷◌, List, ℕ, ap, append_assoc}
use Rattle.wad_file.specs.Placed.{Placed, sized}
use Rattle.wad_levels.specs.Levels.{lump_names}
use Rattle.wad_build.specs.Sizes.{with_sizes}
use Rattle.wad_build.proofs.sizes.list_level.Goals as goal

pub returns-clause-lumps : goal.returns-clause-lumps
returns-clause-lumps c =
    let old = c.args.list.now in
    let marker = sized c.args.named.now.name 0 in
    let sizes = c.sizes_of.result in
    c.in_ok-list_lumps.ensures.lumps ∙ ap (λ (ps : List Placed). ps ++ with_sizes lump_names sizes) c.in_ok-list_lump.ensures.lump ∙ append_assoc old (marker ∷ []) (with_sizes lump_names sizes)
    ∙ ap (λ (ns : List ℕ). old ++ (marker ∷ with_sizes lump_names ns)) c.sizes_of.ensures
