use Rattle.std.proofs.Common.{◌∙◌, ℕ, List, [], ap, sym, take}
use Rattle.std.specs.Prelude.{option_copied}
use Rattle.map_script.specs.Frames.{layers_in_front}
use Rattle.map_script.specs.Layers.{layered}
use Rattle.map_script.specs.Meant.{meant_by, meant_in}
use Rattle.map_script.specs.declared.frame.Frame.{Frame}
use Rattle.map_script.proofs.Layering.{found_more, or_else}
use Rattle.map_script.proofs.names.find_in.Goals as goal
use Rattle.map_script.proofs.names.find_in.Goals.{in-Some, in_default}

pub loop-frame-preserved : goal.loop-frame-preserved
loop-frame-preserved c =
    let fs : List Frame = c.args.frames.now in
    let i = c.loop-frame.frame-index in
    let name : List ℕ = c.args.name.now in
    let before = meant_by (layered (layers_in_front (take i fs) [])) name in
    let more = found_more fs i c.frame-item.result name c.frame-item.is c.loop-frame-test.true in
    elim c.match-find.branch [
      | in-Some w ↦ ap (λ o. meant_in (option_copied o)) w.found-is ∙ ap (λ o. or_else o before) w.in-Some.ensures ∙ sym more
      | in_default w ↦ ap (λ o. meant_in (option_copied o)) w.found-is ∙ c.loop-frame.invariant ∙ ap (λ o. or_else o before) w.in_default.ensures ∙ sym more
    ]
