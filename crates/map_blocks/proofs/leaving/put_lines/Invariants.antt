use Rattle.std.proofs.Common.{◌≡◌, ◌++◌}
use Rattle.std.specs.List.{between}
use Rattle.map_blocks.proofs.leaving.put_lines.Given as goal

-- those so far stand behind the others
abbrev pub invariant-loop-place : goal.invariant-loop-place
invariant-loop-place l = l.rest ≡ l.fn.rest ++ between l.from l.place l.lines
