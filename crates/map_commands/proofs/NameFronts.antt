-- A name in front of a text.
use Rattle.std.proofs.Common.{◌≡◌, ℕ, ◌≤◌, ◌<◌, true, false, List, length, get_or, take, sym, ◌∙◌, ap, arith, length-take-le}
use Rattle.std.specs.List.{list_all}
use Rattle.std.proofs.lemmas.List.{get_or-take}
use Rattle.std.proofs.lemmas.List.Folds.{list_all_at}
use Rattle.lump_records.specs.Names.{is_name_byte}

-- a space isn't among the bytes that a name may have
pub no-space-within : (w : List ℕ) (len k : ℕ) → len ≤ length w → list_all is_name_byte (take len w) ≡ true → k < len → get_or w k 0 ≡ 32 → ⊥
no-space-within w len k fits bytes before space =
    let no : is_name_byte (get_or (take len w) k 0) ≡ false = ap is_name_byte (get_or-take len w k 0 before ∙ space) in
    let not_all = list_all_at is_name_byte (take len w) k 0 (omega (arith, length-take-le len w fits, before)) no in
    let never : true ≡ false = sym bytes ∙ not_all in
    cc never
