use Rattle.std.proofs.Common.{◌≡◌, ℕ, ◌≤◌, ◌<◌, ◌&&◌, ◌||◌, false, get_or, length}
use Rattle.std.specs.Prelude.{nat_le, nat_lt}
use Rattle.lump_textures.proofs.marks.mark.Given as goal

-- the columns so far weren't marked, and now are
abbrev pub invariant-loop-x : goal.invariant-loop-x
invariant-loop-x l = record {
  apart : l.end ≤ l.first → l.x ≡ l.first;
  count : length l.marks ≡ length l.initial.marks;
  free : (k : ℕ) → l.first ≤ k → k < l.x → get_or l.initial.marks k false ≡ false;
  marked : (k : ℕ) → get_or l.marks k false ≡ (get_or l.initial.marks k false || (nat_le l.first k && nat_lt k l.x));
}
