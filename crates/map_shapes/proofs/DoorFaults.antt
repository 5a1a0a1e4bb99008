-- Why a sector can't become a door.
use Rattle.std.proofs.Common.{◌≡◌, ℕ, ◌<◌, ◌≤◌, Bool, true, false, cond, not, List, length, ltb, Some, ap, ◌∙◌, arith}
use Rattle.std.specs.List.{slice_get}
use Rattle.std.proofs.lemmas.Bool.Decides.{nat_tests}
use Rattle.std.proofs.lemmas.Option.{slice_get_within}
use Rattle.map_tables.specs.Faults.{lacks}

pub ltb_yes : (n m : ℕ) → n < m → ltb n m ≡ true
ltb_yes n m h = grind (arith, nat_tests)

pub ltb_no : (n m : ℕ) → m ≤ n → ltb n m ≡ false
ltb_no n m h = grind (arith, nat_tests)

-- an item that is there isn't lacking
pub present : {X : Type 0} (xs : List X) (n : ℕ) (x : X) → slice_get xs n ≡ Some x → lacks xs n ≡ false
present xs n x is = ap not (ltb_yes n (length xs) (slice_get_within xs n x is))
