use Rattle.std.proofs.Common.{List, ◌∷◌, [], ◌++◌, ap, true, false, sym, ◌∙◌}
use Rattle.std.proofs.lemmas.List.{append-nil}
use Rattle.map_checks.proofs.MarkSteps.{marked_more}
use Rattle.map_plane.specs.declared.places.PlacedLine.{PlacedLine}
use Rattle.map_play.specs.Points.{is_solid_at, solid_point}
use Rattle.map_play.proofs.crowds.solid_points.Goals as goal
use Rattle.map_play.proofs.crowds.solid_points.Goals.{then-is_solid_at+in_ok-push, else-is_solid_at}

pub loop-n-preserved : goal.loop-n-preserved
loop-n-preserved c =
    let m = c.args.map.now.tables in
    let n = c.loop-n.n in
    let points = c.loop-n.points.items in
    let more = marked_more (solid_point m) (is_solid_at m) n [] points c.loop-n.invariant in
    elim c.if-is_solid_at.branch [
      | then-is_solid_at+in_ok-push w ↦
          rw w.points-is
          (w.in_ok-push.ensures.items ∙ ap (λ (l : PlacedLine). points ++ l ∷ []) w.solid_point.ensures ∙ more true (sym c.is_solid_at.ensures ∙ w.if-is_solid_at.true))
      | else-is_solid_at w ↦ rw w.points-is (sym (append-nil points) ∙ more false (sym c.is_solid_at.ensures ∙ w.if-is_solid_at.false))
    ]
