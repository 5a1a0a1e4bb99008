use Rattle.std.proofs.Common.{◌≡◌, sym, subst, ◌∙◌, filter, List, Bool, arith}
use Rattle.map_plane.specs.declared.places.PlacedLine.{PlacedLine}
use Rattle.map_plane.specs.Crossed.{MarksMeeting, goes_left, goes_right}
use Rattle.map_plane.proofs.Marks.{all_marked, on_ok, parts_marked, some_before}
use Rattle.map_plane.proofs.crossed.+mark.Goals as goal

pub returns-then-are_marked : goal.returns-then-are_marked
returns-then-are_marked t c =
    some_before c.args.lines.now c.args.marks.now c.mark_by.new.marks c.mark_by.new.marks c.mark_by.ensures
    (all_marked c.args.lines.now c.mark_by.new.marks (sym c.if-are_marked.ensures))

pub returns : goal.returns
returns t c =
    let ls = c.args.lines.now in
    let d = c.divider_of.result in
    let right : c.deref.result.now ≡ filter (goes_right d) ls = c.deref.ensures.value ∙ c.in_ok-parts.ensures.right in
    let left : c.deref-2.result.now ≡ filter (goes_left d) ls = c.deref-2.ensures.value ∙ c.in_ok-parts.ensures.left in
    on_ok c.mark-2.result
    (λ (h : MarksMeeting c.deref-2.result.now c.mark.new.marks c.mark-2.new.marks).
    some_before ls c.args.marks.now c.mark_by.new.marks c.mark-2.new.marks c.mark_by.ensures
    (parts_marked d ls c.mark_by.new.marks c.mark.new.marks c.mark-2.new.marks
    (subst (λ (ks : List PlacedLine). MarksMeeting ks c.mark_by.new.marks c.mark.new.marks) right c.in_ok-mark.ensures)
    (subst (λ (ks : List PlacedLine). MarksMeeting ks c.mark.new.marks c.mark-2.new.marks) left h)))
    c.mark-2.ensures
