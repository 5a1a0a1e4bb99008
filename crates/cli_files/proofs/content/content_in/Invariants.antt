use Rattle.std.proofs.Common.{◌≤◌}
use Rattle.cli_files.proofs.content.content_in.Given as goal

-- what was read is a part of the head
abbrev pub invariant-loop : goal.invariant-loop
invariant-loop g l = l.len ≤ 512
