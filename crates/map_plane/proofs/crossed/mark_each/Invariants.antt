use Rattle.map_plane.proofs.Marks.{MarksFirst}
use Rattle.map_plane.proofs.crossed.mark_each.Given as goal

-- the lines so far are marked
abbrev pub invariant-loop-line : goal.invariant-loop-line
invariant-loop-line l = MarksFirst l.lines l.line-index l.initial.marks l.marks
