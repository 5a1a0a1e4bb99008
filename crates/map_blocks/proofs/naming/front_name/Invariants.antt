use Rattle.std.proofs.Common.{◌≡◌, ℕ, ◌<◌, true, get_or}
use Rattle.map_script.specs.Names.{is_script_name_byte}
use Rattle.map_blocks.proofs.naming.front_name.Given as goal

-- none so far
abbrev pub invariant-loop-i : goal.invariant-loop-i
invariant-loop-i l = (k : ℕ) → k < l.i → is_script_name_byte (get_or l.text k 0) ≡ true
