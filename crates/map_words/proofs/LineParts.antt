-- The parts of a line, found from its front.
use Rattle.std.proofs.Common.{◌≡◌, ℕ, zero, suc, ◌+◌, ◌-◌, ◌<◌, Bool, true, false, cond, List, [], ◌∷◌, length, get_or, take, drop, refl, ◌∙◌, ap, arith, add-one, nat_eq}
use Rattle.std.proofs.lemmas.List.{take_rest}
use Rattle.std.proofs.lemmas.Bool.{ne_eqb}
use Rattle.map_words.specs.Words.{parts, onto_first}

parts-space : (b : ℕ) (bs : List ℕ) → b ≡ 32 → parts (b ∷ bs) ≡ [] ∷ parts bs
parts-space b bs e = ap (λ x. parts (x ∷ bs)) e

pub parts-other : (b : ℕ) (bs : List ℕ) → (b ≡ 32 → ⊥) → parts (b ∷ bs) ≡ onto_first b (parts bs)
parts-other b bs ne = ap (λ t. cond t ([] ∷ parts bs) (onto_first b (parts bs))) (ne_eqb b 32 ne)

-- the first space stands at i
parts-suc : (bs : List ℕ) (i : ℕ) → ((k : ℕ) → k < i → get_or bs k 0 ≡ 32 → ⊥) → i < length bs → get_or bs i 0 ≡ 32 → parts bs ≡ take i bs ∷ parts (drop (suc i) bs)
parts-suc [] i before lt here = absurd (omega arith)
parts-suc (b ∷ bs) zero before lt here = parts-space b bs here
parts-suc (b ∷ bs) (suc i) before lt here =
    parts-other b bs (before 0 (omega arith))
    ∙ ap (onto_first b) (parts-suc bs i (λ k h. before (suc k) (omega arith)) (omega arith) here)

-- the same, as code says it
pub parts-at : (bs : List ℕ) (i : ℕ) → ((k : ℕ) → k < i → get_or bs k 0 ≡ 32 → ⊥) → i < length bs → get_or bs i 0 ≡ 32 → parts bs ≡ take i bs ∷ parts (take (length bs - (i + 1)) (drop (i + 1) bs))
parts-at bs i before lt here = rw (take_rest bs (i + 1), add-one) (parts-suc bs i before lt here)

-- there is no space
pub parts-none : (bs : List ℕ) → ((k : ℕ) → k < length bs → get_or bs k 0 ≡ 32 → ⊥) → parts bs ≡ bs ∷ []
parts-none [] before = refl
parts-none (b ∷ bs) before =
    parts-other b bs (before 0 (omega arith)) ∙ ap (onto_first b) (parts-none bs (λ k h. before (suc k) (omega arith)))

onto-some : (b : ℕ) (ws : List (List ℕ)) → 0 < length (onto_first b ws)
onto-some b [] = omega arith
onto-some b (w ∷ ws) = omega arith

if-some : (t : Bool) (ws : List (List ℕ)) (b : ℕ) → 0 < length (cond t ([] ∷ ws) (onto_first b ws))
if-some true ws b = omega arith
if-some false ws b = onto-some b ws

pub parts-some : (bs : List ℕ) → 0 < length (parts bs)
parts-some [] = omega arith
parts-some (b ∷ bs) = if-some (nat_eq b 32) (parts bs) b
