use Rattle.map_plane.specs.Crossed.{MarksSome}
use Rattle.map_plane.proofs.crossed.mark_by.Given as goal

-- only lines that meet one are marked
abbrev pub invariant-loop-line : goal.invariant-loop-line
invariant-loop-line l = MarksSome l.lines l.initial.marks l.marks
