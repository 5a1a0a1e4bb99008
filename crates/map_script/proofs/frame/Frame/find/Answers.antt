use Rattle.std.proofs.Common.{◌∙◌, ℕ, List, ap, map, sym}
use Rattle.map_script.specs.Frames.{known_entry}
use Rattle.map_script.specs.Meant.{Meant, meant_by, meant_in}
use Rattle.map_script.proofs.Layering.{meant_front, or_else}
use Rattle.map_script.proofs.Table.{found_in}
use Rattle.map_script.proofs.frame.Frame.find.Goals as goal

pub returns-in-Some : goal.returns-in-Some
returns-in-Some c =
    let frame = c.args.self.now in
    let name : List ℕ = c.args.name.now in
    let others : List (List ℕ × Meant) = map known_entry frame.table.entries in
    ap (λ o. or_else o (meant_by others name)) c.in-Some.ensures ∙ sym (meant_front frame.held others name)

pub returns-in-None : goal.returns-in-None
returns-in-None c =
    let frame = c.args.self.now in
    let name : List ℕ = c.args.name.now in
    let others : List (List ℕ × Meant) = map known_entry frame.table.entries in
    ap meant_in c.get.ensures.value ∙ found_in frame.table.entries name ∙ ap (λ o. or_else o (meant_by others name)) c.in-None.ensures ∙ sym (meant_front frame.held others name)
