use Rattle.std.proofs.Common.{◌≡◌, ◌+◌, Bool, not, false, true, ◌&&◌, suc, sym, ap, subst, ◌∙◌, refl, List, get_or, arith}
use Rattle.std.specs.List.{list_any}
use Rattle.std.proofs.lemmas.List.{take_all}
use Rattle.std.proofs.lemmas.Option.{slice_get-get_or}
use Rattle.map_plane.specs.declared.places.PlacedLine.{PlacedLine}
use Rattle.map_plane.specs.Meeting.{meets}
use Rattle.map_plane.proofs.Marks.{MarksFirst, none_first, all_first, line_alone, line_left, line_marked, no_line}
use Rattle.map_plane.proofs.crossed.mark_each.Goals.{then-not-is_marked+then-meets_one, else-not-is_marked, else-not-is_marked-via-then-not-is_marked+else-meets_one, else-not-is_marked-via-else-not-is_marked}
use Rattle.map_plane.proofs.crossed.mark_each.Goals as goal

pub loop-line-init : goal.loop-line-init
loop-line-init c = none_first c.args.lines.now c.args.marks.now

pub loop-line-preserved : goal.loop-line-preserved
loop-line-preserved c =
    let ls = c.args.lines.now in
    let old = c.args.marks.now in
    let i = c.loop-line.line-index in
    let at = λ (d : PlacedLine). slice_get-get_or ls i d (omega (arith, c.loop-line-test.true)) in
    let step : MarksFirst ls (suc i) old c.if-not-is_marked.marks =
    elim c.if-not-is_marked.branch [
      | then-not-is_marked+then-meets_one w ↦ subst (MarksFirst ls (suc i) old) (sym w.marks-is)
          (line_marked ls i _ old _ _ (at _) (sym w.if-meets_one.ensures) c.loop-line.invariant w.set_mark.ensures)
      | else-not-is_marked w ↦ subst (MarksFirst ls (suc i) old) (sym w.marks-is)
          (elim w.else-not-is_marked.branch [
            | else-not-is_marked-via-then-not-is_marked+else-meets_one v ↦ line_alone ls i _ old _ (at _) (sym v.if-meets_one.ensures) c.loop-line.invariant
            | else-not-is_marked-via-else-not-is_marked v ↦ line_left ls i (get_or ls i no_line) old _ (at no_line) (sym v.if-not-is_marked.ensures) c.loop-line.invariant
          ])
    ] in
    subst (λ n. MarksFirst ls n old c.if-not-is_marked.marks) (omega arith) step

pub returns : goal.returns
returns c =
    all_first c.args.lines.now c.loop-line.line-index c.args.marks.now c.loop-line.marks
    (take_all c.loop-line.line-index c.args.lines.now (omega (arith, c.loop-line-test.false))) c.loop-line.invariant
