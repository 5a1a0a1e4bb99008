-- Marks of the tags in use, as one more item is read.
use Rattle.std.proofs.Common.{◌≡◌, ℕ, ◌+◌, ◌<◌, Bool, true, false, eqb, refl, ◌||◌, List, length, get_or, set, take, Some, sym, ap, ◌∙◌, ⊎_elim, arith}
use Rattle.std.specs.List.{list_any, slice_get}
use Rattle.std.proofs.lemmas.Bool.{cases_eq, eq-eqb, ne_eqb}
use Rattle.std.proofs.lemmas.List.{length-set, get_or-set_same, get_or-set_other}
use Rattle.std.proofs.lemmas.List.Folds.{list_any_more}
use Rattle.std.proofs.lemmas.Option.{slice_get_within, get_or_from_slice_get}
use Rattle.map_play.specs.Tags.{MarksTags}

pub or_false : (b : Bool) → b ≡ (b || false)
or_false true = refl
or_false false = refl

or_true : (b : Bool) → true ≡ (b || true)
or_true true = refl
or_true false = refl

pub get_or-set_mark : (marks : List Bool) (v k : ℕ) → v < length marks → get_or (set marks v true) k false ≡ (get_or marks k false || eqb v k)
get_or-set_mark marks v k h =
    ⊎_elim
    (λ e. ap (λ j. get_or (set marks v true) j false) e ∙ get_or-set_same marks v true false h
    ∙ or_true (get_or marks k false) ∙ ap (λ b. get_or marks k false || b) (sym (eq-eqb v k (sym e))))
    (λ ne. get_or-set_other marks v k true false ne
    ∙ or_false (get_or marks k false) ∙ ap (λ b. get_or marks k false || b) (sym (ne_eqb v k (λ e. ne (sym e)))))
    (cases_eq k v)

pub marks_more : {X : Type 0} (tag : X → ℕ) (xs : List X) (n : ℕ) (x : X) → slice_get xs n ≡ Some x → (marks : List Bool) → MarksTags tag (take n xs) marks
    → (v : ℕ) → v ≡ tag x → v < 65536 → MarksTags tag (take (n + 1) xs) (set marks v true)
marks_more tag xs n x is marks m v same small = record {
  count = length-set marks v true ∙ m.count;
  marked = λ t h.
      get_or-set_mark marks v t (omega (arith, m.count))
      ∙ ap (λ b. b || eqb v t) (m.marked t h)
      ∙ ap (λ w. list_any (λ y. eqb (tag y) t) (take n xs) || eqb w t) (same ∙ ap tag (sym (get_or_from_slice_get xs n x x is)))
      ∙ sym (list_any_more (λ y. eqb (tag y) t) xs n x (slice_get_within xs n x is));
}
