-- The file after a write that fails after a part of its bytes.
use Rattle.std.proofs.Common.{◌≤◌, ℕ, List, length, arith}
use Rattle.store_disk.specs.Files.{Failed, Torn, Written}
use Rattle.store_disk.specs.Stops.{Follows, LeadsBy}
use Rattle.store_disk.proofs.Bytes.{keeps_wider, written_torn}

pub torn_wider : (at m n : ℕ) (old new : List ℕ) → m ≤ n → Torn at m old new → Torn at n old new
torn_wider at m n old new le torn = record {
  keeps = keeps_wider at m at n old new (omega arith) (omega (arith, le)) torn.keeps;
  no_longer = omega (arith, torn.no_longer, le);
  nothing = λ none. torn.nothing (omega (arith, le, none));
}

pub failed_wider : (at m n : ℕ) (old new : List ℕ) → m ≤ n → Failed at m old new → Failed at n old new
failed_wider at m n old new le failed = record { torn = torn_wider at m n old new le failed.torn; gap = failed.gap }

pub written_failed : (at n : ℕ) (bytes old new : List ℕ) → length bytes ≤ n → Written at bytes old new → Failed at n old new
written_failed at n bytes old new le written =
    failed_wider at (length bytes) n old new le (record { torn = written_torn at bytes old new written; gap = written.gap })

-- a wider step
module _ (step wider : List ℕ → List ℕ → Type 0) (so : (old new : List ℕ) → step old new → wider old new) (old new : List ℕ → Type 0) where
  pub follows_by : Follows step old new → Follows wider old new
  follows_by follows file is = let was = follows file is in (was.0, was.1, so was.0 file was.2)

  pub leads_by : LeadsBy step old new → LeadsBy wider old new
  leads_by leads file is = let next = leads file is in (next.0, next.1, so file next.0 next.2)
