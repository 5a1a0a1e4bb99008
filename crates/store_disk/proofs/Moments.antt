-- Runs of calls, one call at a time.
use Rattle.std.proofs.Common.{inl, inr, ⊎_elim, ℕ, List, arith}
use Rattle.store_disk.specs.Moments.{LeavesOnly}
use Rattle.store_disk.specs.Stops.{Elapses}
use Rattle.store_disk.specs.declared.disk.Disk.{Ghosts}

module _ {D : Type 0} (facts : Ghosts D) where
  -- before the first call
  pub started : (old : D) (P : List ℕ → Type 0) → ((file : List ℕ) → facts.left_since old (facts.moment old) file → P file) → LeavesOnly facts old old P
  started old P here = record { later = omega arith; each = here; before = λ t file le left. inl left }

  -- one more call, after which a stop leaves only files with P
  pub goes_on : (old mid new : D) (P may_leave : List ℕ → Type 0) → LeavesOnly facts old mid P → Elapses (facts.moment mid) (facts.moment new) (facts.left_since mid) (facts.left_since new) may_leave
      → ((file : List ℕ) → may_leave file → P file) → LeavesOnly facts old new P
  goes_on old mid new P may_leave so_far time here = record {
    later = omega (arith, so_far.later, time.later);
    each = λ file left. ⊎_elim (so_far.each file) (here file) (time.nothing_else (facts.moment old) file so_far.later left);
    before = λ t file le left. ⊎_elim (so_far.before t file le) (λ now. inr (here file now)) (time.nothing_else t file (omega (arith, le, so_far.later)) left);
  }

  pub weaker : (old new : D) (P Q : List ℕ → Type 0) → LeavesOnly facts old new P → ((file : List ℕ) → P file → Q file) → LeavesOnly facts old new Q
  weaker old new P Q leaves so = record {
    later = leaves.later;
    each = λ file left. so file (leaves.each file left);
    before = λ t file le left. ⊎_elim (λ was. inl was) (λ is. inr (so file is)) (leaves.before t file le left);
  }

  -- two runs, one after the other
  pub and_then : (old mid new : D) (P : List ℕ → Type 0) → LeavesOnly facts old mid P → LeavesOnly facts mid new P → LeavesOnly facts old new P
  and_then old mid new P first second = record {
    later = omega (arith, first.later, second.later);
    each = λ file left. ⊎_elim (first.each file) (λ is. is) (second.before (facts.moment old) file first.later left);
    before = λ t file le left. ⊎_elim (first.before t file le) (λ is. inr is) (second.before t file (omega (arith, le, first.later)) left);
  }
