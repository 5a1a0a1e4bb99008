-- A gate after a write.
use Rattle.std.proofs.Common.{ℕ, List, [], ◌∷◌, sym, ◌∙◌, arith}
use Rattle.store_disk.specs.Files.{HasAt, Outside, KeepsOutside, Written}
use Rattle.store_disk.specs.Gates.{IsClosedAt}
use Rattle.store_disk.proofs.Bytes.{one_has}

-- a closed gate outside the range stays closed
pub closed_kept : (place at n : ℕ) (old new : List ℕ) → Outside at n place → KeepsOutside at n old new → IsClosedAt place old → IsClosedAt place new
closed_kept place at n old new out keeps is = record {
  within = omega (arith, is.within, keeps.no_shorter);
  closed = λ is_open. is.closed (sym (keeps.same place is.within out) ∙ is_open);
}

-- a gate that was written as 0 is closed
pub closed_now : (place : ℕ) (old new : List ℕ) → Written place (0 ∷ []) old new → IsClosedAt place new
closed_now place old new written =
    let has : HasAt place (0 ∷ []) new = written.has (omega arith) in
    record { within = omega (arith, has.within); closed = λ is_open. absurd (omega (arith, sym (one_has place 0 [] new has) ∙ is_open)) }
