use Rattle.std.proofs.Common.{◌≡◌, ◌-◌, ◌≤◌, ◌^◌, drop}
use Rattle.std.specs.Prelude.{min}
use Rattle.std.specs.List.{fold}
use Rattle.map_script.specs.Names.{value_of}
use Rattle.map_script.proofs.Replacing.{with_digit}
use Rattle.map_script.proofs.reference.value_of.Given as goal

-- the value so far, followed by the rest of the digits, is that of all digits
abbrev pub invariant-loop-b : goal.invariant-loop-b
invariant-loop-b l =
    (min (2 ^ 64 - 1) (fold with_digit l.value (drop l.b-index l.digits)) ≡ min (2 ^ 64 - 1) (value_of l.digits))
    × (l.value ≤ 2 ^ 64 - 1)
