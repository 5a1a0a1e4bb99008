-- One more piece is counted.
use Rattle.std.proofs.Common.{zero-add, ◌≡◌, refl, sym, ap, ◌∙◌, subst, ℕ, ◌+◌, ◌<◌, ◌≤◌, Bool, cond, ◌&&◌, List, [], ◌∷◌, ◌++◌, length, get_or, drop, Option, Some, None, add-one, arith, drop-cons}
use Rattle.std.specs.Prelude.{is_some}
use Rattle.std.specs.List.{cons_option}
use Rattle.tree_pieces.specs.declared.edge.Edge.{Edge}
use Rattle.tree_pieces.specs.declared.piece.Piece.{Piece}
use Rattle.tree_pieces.specs.declared.piece.Parts.{Parts}
use Rattle.tree_pieces.specs.Division.{parts_of}
use Rattle.tree_pieces.proofs.Stops.{rights, lefts, splits, Counted, block_counted}
use Rattle.tree_choice.specs.declared.counts.Counts.{Counts}
use Rattle.tree_choice.specs.Counts.{AreCounts}
use Rattle.tree_choice.proofs.BlockSteps.{counts_at_most}

-- one where the test holds
abbrev pub one : Bool → ℕ
one b = cond b 1 0

pub kept_one : (o : Option Piece) → length (cons_option o []) ≡ one (is_some o)
kept_one None = refl
kept_one (Some x) = refl

-- the counts of one piece, by its parts
pub piece_counts : (lines : List Edge) (p q : Piece) (parts : Parts) (c : Counts) → parts ≡ parts_of lines p q → c.right
    ≡ one (is_some parts.right) → c.left ≡ one (is_some parts.left) → c.splits
    ≡ one (is_some parts.right && is_some parts.left) → AreCounts lines p (q ∷ []) c
piece_counts lines p q parts c e r l s =
    let er : one (is_some parts.right) ≡ one (is_some (parts_of lines p q).right) = ap (λ (x : Parts). one (is_some x.right)) e in
    let el : one (is_some parts.left) ≡ one (is_some (parts_of lines p q).left) = ap (λ (x : Parts). one (is_some x.left)) e in
    let es : one (is_some parts.right && is_some parts.left)
    ≡ one (is_some (parts_of lines p q).right && is_some (parts_of lines p q).left) =
    ap (λ (x : Parts). one (is_some x.right && is_some x.left)) e in
    record { splits = s ∙ es ∙ sym (zero-add _); right = r ∙ er ∙ sym (kept_one (parts_of lines p q).right); left = l ∙ el ∙ sym (kept_one (parts_of lines p q).left) }

-- the counts after one more piece
pub record Stepped (lines : List Edge) (p : Piece) (ps : List Piece) (n : ℕ) (c : Counts) : Type 0 where
  pub counted : Counted lines p ps (drop (n + 1) ps) c.right c.left c.splits
  pub right : c.right ≤ n + 1
  pub left : c.left ≤ n + 1
  pub splits : c.splits ≤ n + 1

pub stepped : (lines : List Edge) (p : Piece) (ps : List Piece) (d : Piece) (n : ℕ) (before more after : Counts)
    → n < length ps → Counted lines p ps (drop n ps) before.right before.left before.splits → before.right ≤ n
    → before.left ≤ n → before.splits ≤ n → AreCounts lines p (get_or ps n d ∷ []) more → after.right ≡ before.right
    + more.right → after.left ≡ before.left + more.left → after.splits ≡ before.splits + more.splits
    → Stepped lines p ps n after
stepped lines p ps d n before more after h k hr hl hs a er el es =
    let q = get_or ps n d in
    let e : drop n ps ≡ (q ∷ []) ++ drop (n + 1) ps = drop-cons ps n d h ∙ ap (λ (i : ℕ). q ∷ drop i ps) (sym (add-one n)) in
    let k' = subst (λ (qs : List Piece). Counted lines p ps qs before.right before.left before.splits) e k in
    let f = block_counted lines p ps (q ∷ []) (drop (n + 1) ps) before.right before.left before.splits more.right more.left more.splits k' (sym a.right) (sym a.left) (sym a.splits) in
    let x = f.right in
    let y = f.left in
    let z = f.splits in
    let m = counts_at_most lines p (q ∷ []) more 1 (omega arith) a in
    let mr = m.right in
    let ml = m.left in
    let ms = m.splits in
    record {
      counted = record { right = omega arith; left = omega arith; splits = omega arith };
      right = omega arith;
      left = omega arith;
      splits = omega arith;
    }

-- nothing is left to count
pub counted_all : (lines : List Edge) (p : Piece) (ps qs : List Piece) (r l s : ℕ) → qs ≡ [] → Counted lines p ps qs r l s → (s ≡ splits lines p ps) × (r ≡ rights lines p ps) × (l ≡ lefts lines p ps)
counted_all lines p ps qs r l s e k =
    let k' = subst (λ (x : List Piece). Counted lines p ps x r l s) e k in
    let a = k'.right in
    let b = k'.left in
    let c = k'.splits in
    (omega arith, omega arith, omega arith)
