-- Nothing is refused: what is then known of options and of items.
use Rattle.std.proofs.Common.{◌≡◌, ℕ, ◌≤◌, Bool, true, false, not, cond, List, length, get_or, Option, Some, None, refl, arith, All}
use Rattle.std.specs.Prelude.{nat_lt, position}
use Rattle.std.specs.List.{position_or_len}
use Rattle.std.specs.Option.{option_map, option_or}
use Rattle.std.proofs.lemmas.Bool.{ltb-false, not_from_false}
use Rattle.std.proofs.lemmas.List.Elements.{All-weaker}
use Rattle.std.proofs.lemmas.List.Sums.{fails_before_first}
use Rattle.map_tables.specs.declared.kind.Kind.{Kind}
use Rattle.wad_import.specs.declared.error.ImportError.{ImportError}
use Rattle.wad_import.specs.declared.error.ImportError.TheVariants.{TooMany}
use Rattle.wad_import.specs.Refused.{excess, first_without}

-- ---- No refusal

pub both_none : {T : Type 0} (a b : Option T) → option_or a b ≡ None → (a ≡ None) × (b ≡ None)
both_none None b h = (refl, h)
both_none (Some x) b h = absurd cc

pub none_mapped : {T U : Type 0} (f : T → U) (o : Option T) → option_map f o ≡ None → o ≡ None
none_mapped f None h = refl
none_mapped f (Some x) h = absurd cc

pub at_end : (n m : ℕ) (t : Bool) → nat_lt n m ≡ t → cond t (Some n) None ≡ None → m ≤ n
at_end n m true e h = absurd cc
at_end n m false e h = ltb-false n m e

-- where no item has a place, none passes
no_place : {X : Type 0} (p : X → Bool) (xs : List X) → position p xs ≡ None → All (λ x. not (p x) ≡ true) xs
no_place p xs h = λ k d l.
    let all = at_end (position_or_len p xs) (length xs) (nat_lt (position_or_len p xs) (length xs)) refl h in
    not_from_false (p (get_or xs k d)) (fails_before_first p xs k d (omega (arith, all, l)))

twice : (b : Bool) → not (not b) ≡ true → b ≡ true
twice true h = refl
twice false h = absurd cc

pub all_pass : {X : Type 0} (p : X → Bool) (xs : List X) → position (λ x. not (p x)) xs ≡ None → All (λ x. p x ≡ true) xs
all_pass p xs h = All-weaker (λ x. not (not (p x)) ≡ true) (λ x. p x ≡ true) (λ x e. twice (p x) e) xs (no_place (λ x. not (p x)) xs h)

pub all_have : {X : Type 0} (error : ℕ → ImportError) (p : X → Bool) (xs : List X) → first_without error p xs ≡ None → All (λ x. p x ≡ true) xs
all_have error p xs h = all_pass p xs (none_mapped error (position (λ x. not (p x)) xs) h)

enough : (kind : Kind) (limit count : ℕ) (t : Bool) → nat_lt limit count ≡ t → cond t (Some (TooMany kind)) None ≡ None → count ≤ limit
enough kind limit count true e h = absurd cc
enough kind limit count false e h = ltb-false limit count e

pub few : (kind : Kind) (limit count : ℕ) → excess kind limit count ≡ None → count ≤ limit
few kind limit count h = enough kind limit count (nat_lt limit count) refl h
