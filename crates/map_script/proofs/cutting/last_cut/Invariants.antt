use Rattle.std.proofs.Common.{◌≡◌, ◌==◌, take}
use Rattle.std.specs.List.{count_by}
use Rattle.map_script.specs.Cuts.{has_operand, last_cut}
use Rattle.map_script.proofs.cutting.last_cut.Given as goal

-- what was found in front of the byte, and what stands there
abbrev pub invariant-loop-i : goal.invariant-loop-i
invariant-loop-i l = record {
  found : l.found ≡ last_cut l.one l.other l.text l.i;
  operand : l.has_operand ≡ has_operand l.text l.i;
  opened : l.opened ≡ count_by (λ b. b == 40) (take l.i l.text);
  closed : l.closed ≡ count_by (λ b. b == 41) (take l.i l.text);
}
