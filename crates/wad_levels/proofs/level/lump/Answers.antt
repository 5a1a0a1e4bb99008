use Rattle.std.proofs.Common.{◌≡◌, ◌∙◌, ◌+◌, cond, ap, false, Bool, [], List, ℕ}
use Rattle.wad_file.specs.Directory.{entry, is_outside, lump}
use Rattle.wad_file.proofs.DirectoryLemmas.{inside_at}
use Rattle.wad_levels.proofs.level.lump.Goals as goal

pub returns : goal.returns
returns c =
    let wad = c.args.wad.now in
    let k = c.args.at + 1 + c.args.n in
    let inside : is_outside wad (entry wad k) ≡ false = inside_at wad (c.args.at + 1) 10 c.args.n c.requires.level.inside c.requires.among in
    c.standing.ensures ∙ ap (λ (b : Bool). cond b [] (lump wad k)) inside
