-- Appending a line to the lists of some blocks and then of others appends it to the lists of both.
use Rattle.std.proofs.Common.{refl, sym, ap, ◌∙◌, subst, ℕ, zero, suc, ◌<◌, ◌≤◌, ◌⊎◌, inl, inr, List, [], ◌∷◌, ◌++◌, length, get_or, arith}
use Rattle.std.specs.Prelude.{◌↔◌}
use Rattle.tree_blocks.specs.Filing.{Filed, Files}

pub lt_or_le : (m n : ℕ) → (m < n) ⊎ (n ≤ m)
lt_or_le m zero = inr (omega arith)
lt_or_le zero (suc n) = inl (omega arith)
lt_or_le (suc m) (suc n) = elim (lt_or_le m n) [ inl e ↦ inl (omega arith) | inr e ↦ inr (omega arith) ]

-- the line was appended to no list
pub files_none : (T : ℕ → Type 0) (line : ℕ) (lists : List (List ℕ)) → ((n : ℕ) → n < length lists → T n → ⊥) → Files T line lists lists
files_none T line lists none = record { count = refl; each = λ n below. inr (none n below, refl) }

both_filed : (P R Q : Type 0) (line : ℕ) (old mid new : List ℕ) → (P → R → ⊥) → Q ↔ (P ⊎ R) → Filed P line old mid → Filed R line mid new → Filed Q line old new
both_filed P R Q line old mid new apart either (inl p) (inl r) = absurd (apart p.0 r.0)
both_filed P R Q line old mid new apart either (inl p) (inr r) = inl (either.1 (inl p.0), r.1 ∙ p.1)
both_filed P R Q line old mid new apart either (inr p) (inl r) = inl (either.1 (inr r.0), r.1 ∙ ap (λ (xs : List ℕ). xs ++ line ∷ []) p.1)
both_filed P R Q line old mid new apart either (inr p) (inr r) = inr (λ q. elim (either.0 q) [ inl x ↦ p.0 x | inr x ↦ r.0 x ], r.1 ∙ p.1)

pub files_both :
    (P R Q : ℕ → Type 0) (line : ℕ) (old mid new : List (List ℕ)) → ((n : ℕ) → P n → R n → ⊥) → ((n : ℕ) → n < length old → Q n ↔ (P n ⊎ R n)) → Files P line old mid → Files R line mid new
    → Files Q line old new
files_both P R Q line old mid new apart either p r =
    record {
      count = r.count ∙ p.count;
      each = λ n h. both_filed (P n) (R n) (Q n) line (get_or old n []) (get_or mid n []) (get_or new n []) (apart n) (either n h) (p.each n h) (r.each n (subst (λ (k : ℕ). n < k) (sym p.count) h));
    }

-- the same blocks, described in another way
pub files_as : (P Q : ℕ → Type 0) (line : ℕ) (old new : List (List ℕ)) → ((n : ℕ) → n < length old → Q n ↔ P n) → Files P line old new → Files Q line old new
files_as P Q line old new same p =
    record { count = p.count; each = λ n h. as_filed (P n) (Q n) line (get_or old n []) (get_or new n []) (same n h) (p.each n h) }
  where
    as_filed : (P Q : Type 0) (line : ℕ) (old new : List ℕ) → Q ↔ P → Filed P line old new → Filed Q line old new
    as_filed P Q line old new same (inl p) = inl (same.1 p.0, p.1)
    as_filed P Q line old new same (inr p) = inr (λ q. p.0 (same.0 q), p.1)
