use Rattle.std.proofs.Common.{◌≡◌, ◌+◌, ◌<◌, ◌≤◌, length}
use Rattle.map_blocks.specs.Blocks.{lines_between, order_fault, fault_within, with_places}
use Rattle.map_blocks.proofs.blocks.order_fault.Given as goal

-- the lines so far are in order
abbrev pub invariant-loop-place : goal.invariant-loop-place
invariant-loop-place l = record {
  fault : fault_within l.outer l.depth (lines_between (with_places l.lines) l.place (length l.lines)) ≡ order_fault l.lines;
  depth : l.depth ≤ l.place;
  outer : 0 < l.depth → l.outer < l.place;
}
