-- Each list of pieces has one tree of divisions: its choice is decided, and each choice leaves fewer unused lines.
use Rattle.std.proofs.Common.{◌≡◌, refl, sym, ap, ◌∙◌, subst, ℕ, zero, suc, ◌≤◌, ◌<◌, ◌⊎◌, inl, inr, ⊎_elim, List, [], ◌∷◌, length, Option, Some, None, Bool, true, false, arith, slice_get}
use Rattle.std.proofs.lemmas.Bool.{cases_lt, cases_order}
use Rattle.std.specs.Prelude.{slice_set}
use Rattle.tree_pieces.specs.declared.edge.Edge.{Edge}
use Rattle.tree_pieces.specs.declared.piece.Piece.{Piece}
use Rattle.tree_pieces.specs.Division.{right_parts, left_parts}
use Rattle.tree_pieces.specs.Tree.{cost, IsCandidate, IsBestAt, HasNoChoice, Tree, Leaf, Branch, Divides}

-- ---- the first of the least
pub record IsFirstLeast {X : Type 0} (P : X → Type 0) (weight : X → ℕ) (xs : List X) (i : ℕ) (x : X) : Type 0 where
  pub stands : slice_get xs i ≡ Some x
  pub holds : P x
  pub least : (j : ℕ) (y : X) → slice_get xs j ≡ Some y → P y → weight x ≤ weight y
  pub first : (j : ℕ) (y : X) → j < i → slice_get xs j ≡ Some y → P y → weight x < weight y

-- no element of the list passes
abbrev pub HasNone : {X : Type 0} → (X → Type 0) → List X → Type 0
HasNone {X} P xs = (i : ℕ) (x : X) → slice_get xs i ≡ Some x → P x → ⊥

-- the first of the least, or none at all
abbrev pub Found : {X : Type 0} → (X → Type 0) → (X → ℕ) → List X → Type 0
Found {X} P weight xs = ((i : ℕ) × (x : X) × IsFirstLeast P weight xs i x) ⊎ HasNone P xs

module _ {X : Type 0} (P : X → Type 0) (weight : X → ℕ) where
  -- a place behind x: nothing changes where x does not hold, or weighs more
  behind : (x : X) (xs : List X) (i : ℕ) (y : X) → IsFirstLeast P weight xs i y → (P x → weight y < weight x) → IsFirstLeast P weight (x ∷ xs) (suc i) y
  behind x xs i y f heavier = record { stands = f.stands; holds = f.holds; least = least; first = first }
    where
      heavier_at : (z : X) → Some x ≡ Some z → P z → weight y < weight z
      heavier_at z e h = let s : x ≡ z = cc in subst (λ (w : X). weight y < weight w) s (heavier (subst P (sym s) h))

      least : (j : ℕ) (z : X) → slice_get (x ∷ xs) j ≡ Some z → P z → weight y ≤ weight z
      least zero z e h = let l = heavier_at z e h in omega arith
      least (suc j) z e h = f.least j z e h

      first : (j : ℕ) (z : X) → j < suc i → slice_get (x ∷ xs) j ≡ Some z → P z → weight y < weight z
      first zero z l e h = heavier_at z e h
      first (suc j) z l e h = f.first j z (omega arith) e h

  -- x itself, where nothing behind it weighs less
  ahead : (x : X) (xs : List X) → P x → ((j : ℕ) (z : X) → slice_get xs j ≡ Some z → P z → weight x ≤ weight z) → IsFirstLeast P weight (x ∷ xs) 0 x
  ahead x xs holds rest = record { stands = refl; holds = holds; least = least; first = λ j z l e h. absurd (omega arith) }
    where
      least : (j : ℕ) (z : X) → slice_get (x ∷ xs) j ≡ Some z → P z → weight x ≤ weight z
      least zero z e h = let s : x ≡ z = cc in subst (λ (w : X). weight x ≤ weight w) s (omega arith)
      least (suc j) z e h = rest j z e h

  none_behind : (x : X) (xs : List X) → (P x → ⊥) → HasNone P xs → HasNone P (x ∷ xs)
  none_behind x xs fails none zero z e h = let s : x ≡ z = cc in fails (subst P (sym s) h)
  none_behind x xs fails none (suc j) z e h = none j z e h

  -- where the test is decided there is a first of the least, or none
  pub first_least : ((x : X) → P x ⊎ (P x → ⊥)) → (xs : List X) → Found P weight xs
  first_least decide [] = inr (λ i x e h. cc)
  first_least decide (x ∷ xs) = by_cases (decide x) (first_least decide xs)
    where
      by_cases : P x ⊎ (P x → ⊥) → Found P weight xs → Found P weight (x ∷ xs)
      by_cases (inr fails) (inr none) = inr (none_behind x xs fails none)
      by_cases (inr fails) (inl f) = inl (suc f.0, f.1, behind x xs f.0 f.1 f.2 (λ h. absurd (fails h)))
      by_cases (inl it) (inr none) = inl (0, x, ahead x xs it (λ j z e h. absurd (none j z e h)))
      by_cases (inl it) (inl f) =
          ⊎_elim (λ l. inl (suc f.0, f.1, behind x xs f.0 f.1 f.2 (λ h. l)))
          (λ l. inl (0, x, ahead x xs it (λ j z e h. let k = f.2.least j z e h in omega arith))) (cases_lt (weight f.1) (weight x))

-- ---- the choice
module _ (lines : List Edge) (ps : List Piece) (used : List Bool) where
  is_candidate : (p : Piece) → IsCandidate lines ps used p ⊎ (IsCandidate lines ps used p → ⊥)
  is_candidate p = by_line (slice_get used p.line) refl (cases_lt 0 (length (left_parts lines p ps)))
    where
      by_line : (o : Option Bool) → slice_get used p.line ≡ o → (0 < length (left_parts lines p ps))
          ⊎ (length (left_parts lines p ps) ≤ 0) → IsCandidate lines ps used p ⊎ (IsCandidate lines ps used p → ⊥)
      by_line None e s = inr (λ c. let d = c.0 in cc)
      by_line (Some true) e s = inr (λ c. let d = c.0 in cc)
      by_line (Some false) e (inl l) = inl (e, l)
      by_line (Some false) e (inr l) = inr (λ c. let d = c.1 in absurd (omega arith))

  -- a list has a best candidate or no choice
  pub best_or_none : ((i : ℕ) × (p : Piece) × IsBestAt lines ps used i p) ⊎ HasNoChoice lines ps used
  best_or_none =
      ⊎_elim (λ f. let b = f.2 in inl (f.0, f.1, record { stands = b.stands; candidate = b.holds; least = b.least; first = b.first }))
      (λ none. inr none) (first_least (IsCandidate lines ps used) (λ p. cost lines p ps) is_candidate ps)

  -- and not two best candidates
  pub one_best : (i j : ℕ) (p q : Piece) → IsBestAt lines ps used i p → IsBestAt lines ps used j q → p ≡ q
  one_best i j p q b d = by_order (cases_order i j)
    where
      by_order : (i ≡ j) ⊎ ((i < j) ⊎ (j < i)) → p ≡ q
      by_order (inl e) =
          let s = b.stands in
          let t = d.stands in
          let same : Some p ≡ Some q = sym s ∙ ap (slice_get ps) e ∙ t in
          cc
      by_order (inr (inl l)) = let a = b.least j q d.stands d.candidate in let f = d.first i p l b.stands b.candidate in absurd (omega arith)
      by_order (inr (inr l)) = let a = d.least i p b.stands b.candidate in let f = b.first j q l d.stands d.candidate in absurd (omega arith)

-- ---- the tree
-- how many lines no partition has used yet
pub left_over : List Bool → ℕ
left_over [] = 0
left_over (true ∷ used) = left_over used
left_over (false ∷ used) = suc (left_over used)

fewer_left : (used : List Bool) (k : ℕ) → slice_get used k ≡ Some false → suc (left_over (slice_set used k true)) ≡ left_over used
unfolding left_over
fewer_left [] k e = cc
fewer_left (true ∷ used) zero e = cc
fewer_left (false ∷ used) zero e = refl
fewer_left (true ∷ used) (suc k) e = fewer_left used k e
fewer_left (false ∷ used) (suc k) e = ap suc (fewer_left used k e)

-- a tree, by the number of lines that are left
pub tree_exists : (lines : List Edge) (n : ℕ) (ps : List Piece) (used : List Bool) → left_over used ≤ n → (t : Tree) × Divides lines ps used t
tree_exists lines zero ps used h = by_choice (best_or_none lines ps used)
  where
    by_choice : ((i : ℕ) × (p : Piece) × IsBestAt lines ps used i p) ⊎ HasNoChoice lines ps used → (t : Tree) × Divides lines ps used t
    by_choice (inr none) = (Leaf ps, (refl, none))
    by_choice (inl b) = let f = fewer_left used b.1.line b.2.candidate.0 in absurd (omega arith)
tree_exists lines (suc n) ps used h = by_choice (best_or_none lines ps used) (tree_exists lines n)
  where
    by_choice : ((i : ℕ) × (p : Piece) × IsBestAt lines ps used i p) ⊎ HasNoChoice lines ps used
        → ((ps : List Piece) (used : List Bool) → left_over used ≤ n → (t : Tree) × Divides lines ps used t)
        → (t : Tree) × Divides lines ps used t
    by_choice (inr none) below = (Leaf ps, (refl, none))
    by_choice (inl b) below =
        let f = fewer_left used b.1.line b.2.candidate.0 in
        let r = below (right_parts lines b.1 ps) (slice_set used b.1.line true) (omega arith) in
        let l = below (left_parts lines b.1 ps) (slice_set used b.1.line true) (omega arith) in
        (Branch b.1 r.0 l.0, ((b.0, b.2), r.1, l.1))

-- two trees of one list are one
pub one_tree : (lines : List Edge) (t u : Tree) (ps : List Piece) (used : List Bool) → Divides lines ps used t → Divides lines ps used u → t ≡ u
one_tree lines (Leaf ts) (Leaf us) ps used d e = ap Leaf (d.0 ∙ sym e.0)
one_tree lines (Leaf ts) (Branch q r l) ps used d e = absurd (d.1 e.0.0 q e.0.1.stands e.0.1.candidate)
one_tree lines (Branch p r l) (Leaf us) ps used d e = absurd (e.1 d.0.0 p d.0.1.stands d.0.1.candidate)
one_tree lines (Branch p r l) (Branch q r' l') ps used d e =
    let same = sym (one_best lines ps used d.0.0 e.0.0 p q d.0.1 e.0.1) in
    let right = one_tree lines r r' (right_parts lines p ps) (slice_set used p.line true) d.1
    (subst (λ (x : Piece). Divides lines (right_parts lines x ps) (slice_set used x.line true) r') same e.1) in
    let left = one_tree lines l l' (left_parts lines p ps) (slice_set used p.line true) d.2 (subst (λ (x : Piece). Divides lines (left_parts lines x ps) (slice_set used x.line true) l') same e.2) in
    cc
