use Rattle.std.proofs.Common.{◌∙◌, List, ℕ, subst, [], ◌∷◌}
use Rattle.lump_records.specs.declared.records.Name8.{Name8}
use Rattle.wad_file.specs.Directory.{entry}
use Rattle.wad_file.specs.Placed.{AtHand}
use Rattle.wad_rebuild.specs.Parts.{AddsPlaced, RefusesPut}
use Rattle.wad_rebuild.proofs.PartLemmas.{lump_stands}
use Rattle.wad_rebuild.proofs.parts.put_held.Goals as goal

pub returns-in-Ok : goal.returns-in-Ok
returns-in-Ok c =
    let wad = c.args.wad.now in
    let bytes = c.standing.ensures ∙ lump_stands wad c.args.k c.requires.wad c.requires.among in
    subst (λ (b : List ℕ). AddsPlaced c.args.to.now c.put_lump.new.to (record { name = (entry wad c.args.k).name; content = AtHand b } ∷ [])) bytes
    (subst (λ (n : Name8). AddsPlaced c.args.to.now c.put_lump.new.to (record { name = n; content = AtHand c.standing.result.now } ∷ [])) c.name.ensures c.in-Ok.ensures)

pub returns-in-Err : goal.returns-in-Err
returns-in-Err c =
    let wad = c.args.wad.now in
    let bytes = c.standing.ensures ∙ lump_stands wad c.args.k c.requires.wad c.requires.among in
    subst (λ (b : List ℕ). RefusesPut c.args.to.now (record { name = (entry wad c.args.k).name; content = AtHand b } ∷ []) c.in-Err.error) bytes
    (subst (λ (n : Name8). RefusesPut c.args.to.now (record { name = n; content = AtHand c.standing.result.now } ∷ []) c.in-Err.error) c.name.ensures c.in-Err.ensures)
