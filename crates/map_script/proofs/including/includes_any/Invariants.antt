use Rattle.std.proofs.Common.{◌≡◌, drop}
use Rattle.std.specs.List.{list_any}
use Rattle.map_script.specs.Includes.{is_include}
use Rattle.map_script.proofs.including.includes_any.Given as goal

-- the lines so far include no file
abbrev pub invariant-loop-place : goal.invariant-loop-place
invariant-loop-place l = list_any is_include (drop l.place l.lines) ≡ list_any is_include l.lines
