-- Runs of calls that only read.
use Rattle.std.proofs.Common.{ℕ, List}
use Rattle.store_disk.specs.Stops.{Each, Elapses}
use Rattle.store_disk.proofs.Moments.{started, goes_on, weaker, and_then}
use Rattle.store_disk.specs.Reading.{OnlyReads}
use Rattle.store_disk.specs.declared.disk.Disk.{Ghosts}

module _ {D : Type 0} (facts : Ghosts D)
    (only_now : (disk : D) (file : List ℕ) → facts.left_since disk (facts.moment disk) file → facts.may_leave disk file) where
  -- one call
  pub one_call : (old new : D) → Each (facts.reads new) (facts.reads old) → Each (facts.reads old) (facts.reads new)
      → Each (facts.may_leave new) (facts.may_leave old) → Each (facts.may_leave old) (facts.may_leave new)
      → Elapses (facts.moment old) (facts.moment new) (facts.left_since old) (facts.left_since new) (facts.may_leave new) → OnlyReads facts old new
  one_call old new is still images kept time = record {
    no_other = is;
    still = still;
    images = images;
    kept = kept;
    any_moment = goes_on facts old old new (facts.may_leave old) (facts.may_leave new) (started facts old (facts.may_leave old) (only_now old)) time images;
  }

  -- one run, and then another
  pub both_runs : (old mid new : D) → OnlyReads facts old mid → OnlyReads facts mid new → OnlyReads facts old new
  both_runs old mid new first second = record {
    no_other = λ file is. first.no_other file (second.no_other file is);
    still = λ file is. second.still file (first.still file is);
    images = λ file is. first.images file (second.images file is);
    kept = λ file is. second.kept file (first.kept file is);
    any_moment = and_then facts old mid new (facts.may_leave old) first.any_moment (weaker facts mid new (facts.may_leave mid) (facts.may_leave old) second.any_moment first.images);
  }
