-- The first list: its pieces are pieces, and it covers each step of each side once.
use Rattle.std.proofs.Common.{◌≡◌, refl, sym, ap, subst, ◌∙◌, ℕ, zero, suc, ◌+◌, ◌-◌, ◌≤◌, ◌<◌, ⊎_elim, List, [], ◌∷◌, ◌++◌, length, Bool, true, false, cond, Some, arith, slice_get, All}
use Rattle.std.specs.Prelude.{ℤ, pos, ◌≤ℤ◌, ◌<ℤ◌, ◌-ℤ◌, ◌+ℤ◌, ◌*ℤ◌, neg_ℤ, nat_le, nat_lt, ◌&&◌, if◌then◌else◌, slice_index_or, IsTrue, unsigned_abs}
use Rattle.std.proofs.lemmas.Bool.{cases_eq, eq-eqb, ne_eqb, le-leb, lt-ltb, and_from}
use Rattle.std.proofs.lemmas.Int.{ints}
use Rattle.std.proofs.lemmas.List.Elements.{All-nil, All-cons, All-append}
use Rattle.std.proofs.lemmas.List.Sums.{sum_by-cons, sum_by-append}
use Rattle.lump_records.proofs.Signs.{linear}
use Rattle.lump_records.proofs.Ring.{by_ring, quotes}
use Rattle.lump_records.specs.declared.records.Vertex.{Vertex}
use Rattle.tree_pieces.specs.declared.edge.Edge.{Edge}
use Rattle.tree_pieces.specs.declared.edge.Facing.{Facing}
use Rattle.tree_pieces.specs.declared.edge.Facing.TheVariants.{Along, Against}
use Rattle.tree_pieces.specs.declared.piece.Piece.{Piece}
use Rattle.tree_pieces.specs.Plane.{ray, dot, IsEdge}
use Rattle.tree_pieces.specs.Fractions.{fraction, rounded, point_at, twice_error, steps_between, step_within, IsFraction}
use Rattle.tree_pieces.specs.Pieces.{no_edge, edge_at, first_end, last_end, same_side, same_place, covers, cover, IsPiece}
use Rattle.tree_pieces.specs.First.{whole, sides_of, pieces_from, first_pieces}
use Rattle.tree_pieces.proofs.Rounding.{error_bounds}
use Rattle.tree_pieces.proofs.Division.{same_vertex_is}
use Rattle.tree_pieces.proofs.Lists.{All-at}

-- a list stands in another one from a place on
abbrev pub StandsAt : {X : Type 0} → List X → List X → ℕ → Type 0
StandsAt {X} xs whole n = (k : ℕ) (x : X) → slice_get xs k ≡ Some x → slice_get whole (n + k) ≡ Some x

-- ---- the ends of a whole line are its vertices
starts : (a b : ℤ) → rounded a b (fraction (pos 0) (pos 1)) ≡ a
starts a b =
    let R = rounded a b (fraction (pos 0) (pos 1)) in
    let h = error_bounds a b (fraction (pos 0) (pos 1)) (omega (arith, ints)) in
    let e : twice_error a b (fraction (pos 0) (pos 1)) ≡ (R -ℤ a) +ℤ (R -ℤ a) = by_ring (a ∷ b ∷ R ∷ []) _ _ (search quotes depth 30 fits 20000) (search quotes depth 30 fits 20000) tt in
    let lo : neg_ℤ (pos 1) <ℤ twice_error a b (fraction (pos 0) (pos 1)) = h.0 in
    let hi : twice_error a b (fraction (pos 0) (pos 1)) ≤ℤ pos 1 = h.1 in
    omega (arith, linear)

stops : (a b : ℤ) → rounded a b (fraction (pos 1) (pos 1)) ≡ b
stops a b =
    let R = rounded a b (fraction (pos 1) (pos 1)) in
    let h = error_bounds a b (fraction (pos 1) (pos 1)) (omega (arith, ints)) in
    let e : twice_error a b (fraction (pos 1) (pos 1)) ≡ (R -ℤ b) +ℤ (R -ℤ b) = by_ring (a ∷ b ∷ R ∷ []) _ _ (search quotes depth 30 fits 20000) (search quotes depth 30 fits 20000) tt in
    let lo : neg_ℤ (pos 1) <ℤ twice_error a b (fraction (pos 1) (pos 1)) = h.0 in
    let hi : twice_error a b (fraction (pos 1) (pos 1)) ≤ℤ pos 1 = h.1 in
    omega (arith, linear)

pub starts_at : (e : Edge) → point_at e (fraction (pos 0) (pos 1)) ≡ e.v1
starts_at e = ap (λ (x : ℤ). let v : Vertex =
    record { x = x; y = rounded e.v1.y e.v2.y (fraction (pos 0) (pos 1)) } in v) (starts e.v1.x e.v2.x)
    ∙ ap (λ (y : ℤ). let v : Vertex = record { x = e.v1.x; y = y } in v) (starts e.v1.y e.v2.y)

pub stops_at : (e : Edge) → point_at e (fraction (pos 1) (pos 1)) ≡ e.v2
stops_at e = ap (λ (x : ℤ). let v : Vertex =
    record { x = x; y = rounded e.v1.y e.v2.y (fraction (pos 1) (pos 1)) } in v) (stops e.v1.x e.v2.x)
    ∙ ap (λ (y : ℤ). let v : Vertex = record { x = e.v2.x; y = y } in v) (stops e.v1.y e.v2.y)

no_steps : (v : Vertex) → steps_between v v ≡ 0
no_steps v = ap (λ (z : ℤ). unsigned_abs z + unsigned_abs (v.y -ℤ v.y)) (none v.x) ∙ ap (λ (z : ℤ). unsigned_abs (pos 0) + unsigned_abs z) (none v.y)
  where
    none : (x : ℤ) → x -ℤ x ≡ pos 0
    none x = omega (arith, linear)

pub step_there : (e : Edge) (k : ℕ) → k < steps_between e.v1 e.v2 → step_within e (point_at e (fraction (pos 0) (pos 1))) (point_at e (fraction (pos 1) (pos 1))) k ≡ true
step_there e k h =
    let a : steps_between e.v1 (point_at e (fraction (pos 0) (pos 1))) ≡ 0 = ap (steps_between e.v1) (starts_at e) ∙ no_steps e.v1 in
    let b : steps_between e.v1 (point_at e (fraction (pos 1) (pos 1))) ≡ steps_between e.v1 e.v2 = ap (steps_between e.v1) (stops_at e) in
    ap (λ (n : ℕ). nat_le n k && nat_lt k (steps_between e.v1 (point_at e (fraction (pos 1) (pos 1))))) a
    ∙ ap (λ (n : ℕ). nat_le 0 k && nat_lt k n) b
    ∙ and_from (nat_le 0 k) (nat_lt k (steps_between e.v1 e.v2)) (le-leb 0 k (omega arith)) (lt-ltb k (steps_between e.v1 e.v2) h)

pub index_is : {X : Type 0} (xs : List X) (i : ℕ) (d x : X) → slice_get xs i ≡ Some x → slice_index_or xs i d ≡ x
index_is [] i d x e = cc
index_is (y ∷ xs) zero d x e = cc
index_is (y ∷ xs) (suc i) d x e = index_is xs i d x e

-- ---- the first list
zero_and : (n : ℕ) → 0 + n ≡ n
zero_and n = omega arith

module _ (lines : List Edge) (line k : ℕ) (side : Facing) where
  one_piece : (p : Piece) (b : Bool) → covers lines line side k p ≡ b → cover lines line side k (p ∷ []) ≡ cond b 1 0
  one_piece p b e = sum_by-cons (λ (q : Piece). cond (covers lines line side k q) 1 0) p [] ∙ ap (λ (c : Bool). cond c 1 0 + 0) e ∙ by_bool b
    where
      by_bool : (b : Bool) → cond b 1 0 + 0 ≡ cond b 1 0
      by_bool true = refl
      by_bool false = refl

  two_pieces : (p q : Piece) (b c : Bool) → covers lines line side k p ≡ b → covers lines line side k q ≡ c → cover lines line side k (p ∷ q ∷ []) ≡ cond b 1 0 + cond c 1 0
  two_pieces p q b c e f = sum_by-cons (λ (q : Piece). cond (covers lines line side k q) 1 0) p (q ∷ [])
      ∙ ap (λ (c : Bool). cond c 1 0 + cover lines line side k (q ∷ [])) e
      ∙ ap (λ (n : ℕ). cond b 1 0 + n) (one_piece q c f)

  other : (n : ℕ) (f : Facing) → (n ≡ line → ⊥) → covers lines line side k (whole n f) ≡ false
  other n f ne = ap (λ (b : Bool). b && same_side f side && step_within (edge_at lines n) (first_end lines (whole n f)) (last_end lines (whole n f)) k) (ne_eqb n line ne)

  other_sides : (n : ℕ) (h : Bool) → (n ≡ line → ⊥) → cover lines line side k (if h then (whole n Along ∷ whole n Against ∷ []) else (whole n Along ∷ [])) ≡ 0
  other_sides n true ne = two_pieces (whole n Along) (whole n Against) false false (other n Along ne) (other n Against ne)
  other_sides n false ne = one_piece (whole n Along) false (other n Along ne)

  joined : (xs ys : List Piece) → cover lines line side k (xs ++ ys) ≡ cover lines line side k xs + cover lines line side k ys
  joined xs ys = sum_by-append (λ (q : Piece). cond (covers lines line side k q) 1 0) xs ys

  after : (es : List Edge) (n : ℕ) → line < n → cover lines line side k (pieces_from n es) ≡ 0
  after [] n l = refl
  after (e ∷ es) n l = joined (sides_of n e) (pieces_from (n + 1) es)
      ∙ ap (λ (c : ℕ). c + cover lines line side k (pieces_from (n + 1) es))
      (other_sides n e.has_left (λ s. omega arith)) ∙ zero_and (cover lines line side k (pieces_from (n + 1) es))
      ∙ after es (n + 1) (omega arith)

  pub found : (es : List Edge) (n : ℕ) → n ≤ line → line < n + length es → StandsAt es lines n
      → cover lines line side k (sides_of line (edge_at lines line)) ≡ 1 → cover lines line side k (pieces_from n es)
      ≡ 1
  found [] n lo hi at own = absurd (omega arith)
  found (e ∷ es) n lo hi at own =
      let rest = found es (n + 1) in
      let j = joined (sides_of n e) (pieces_from (n + 1) es) in
      ⊎_elim
      (λ (s : n ≡ line).
      let z : line ≡ n + 0 = omega arith in
      let g : edge_at lines line ≡ e = index_is lines line no_edge e (ap (slice_get lines) z ∙ at 0 e refl) in
      let o : cover lines line side k (sides_of n e) ≡ 1 = ap (λ (m : ℕ). cover lines line side k (sides_of m e)) s ∙ ap (λ (x : Edge). cover lines line side k (sides_of line x)) (sym g) ∙ own in
      j ∙ ap (λ (c : ℕ). c + cover lines line side k (pieces_from (n + 1) es)) o ∙ ap (λ (c : ℕ). 1 + c) (after es (n + 1) (omega arith)))
      (λ (ne : n ≡ line → ⊥).
      let o = other_sides n e.has_left ne in
      let below : n + 1 ≤ line = by_cases ne in
      let r = rest below (omega arith) (λ i x g. let z : n + 1 + i ≡ n + suc i = omega arith in ap (slice_get lines) z ∙ at (suc i) x g) own in
      j ∙ ap (λ (c : ℕ). c + cover lines line side k (pieces_from (n + 1) es)) o ∙ zero_and (cover lines line side k (pieces_from (n + 1) es)) ∙ r)
      (cases_eq n line)
    where
      by_cases : (n ≡ line → ⊥) → n + 1 ≤ line
      by_cases ne = by_difference (line - n) refl
        where
          by_difference : (d : ℕ) → line - n ≡ d → n + 1 ≤ line
          by_difference zero z = absurd (ne (omega arith))
          by_difference (suc d) z = omega arith

module _ (lines : List Edge) (line k : ℕ) (l : line < length lines) (h : k < steps_between (edge_at lines line).v1 (edge_at lines line).v2) where
  own : (f : Facing) → covers lines line f k (whole line f) ≡ true
  own Along = ap (λ (b : Bool). b && true && step_within (edge_at lines line) (first_end lines (whole line Along))
      (last_end lines (whole line Along)) k) (eq-eqb line line refl) ∙ step_there (edge_at lines line) k h
  own Against = ap (λ (b : Bool). b && true && step_within (edge_at lines line) (first_end lines (whole line Against))
      (last_end lines (whole line Against)) k) (eq-eqb line line refl) ∙ step_there (edge_at lines line) k h

  not_along : covers lines line Along k (whole line Against) ≡ false
  not_along = ap (λ (b : Bool). b && false && step_within (edge_at lines line) (first_end lines (whole line Against)) (last_end lines (whole line Against)) k) (eq-eqb line line refl)

  not_against : covers lines line Against k (whole line Along) ≡ false
  not_against = ap (λ (b : Bool). b && false && step_within (edge_at lines line) (first_end lines (whole line Along)) (last_end lines (whole line Along)) k) (eq-eqb line line refl)

  right_side : (b : Bool) → cover lines line Along k (if b then (whole line Along ∷ whole line Against ∷ []) else (whole line Along ∷ [])) ≡ 1
  right_side true = two_pieces lines line k Along (whole line Along) (whole line Against) true false (own Along) not_along
  right_side false = one_piece lines line k Along (whole line Along) true (own Along)

  left_side : (b : Bool) → b ≡ true → cover lines line Against k (if b then (whole line Along ∷ whole line Against ∷ []) else (whole line Along ∷ [])) ≡ 1
  left_side true e = two_pieces lines line k Against (whole line Along) (whole line Against) false true not_against (own Against)
  left_side false e = cc

  pub first_right : cover lines line Along k (first_pieces lines) ≡ 1
  first_right = found lines line k Along lines 0 (omega arith) (omega arith) (λ i x e. let z : 0 + i ≡ i = omega arith in ap (slice_get lines) z ∙ e) (right_side (edge_at lines line).has_left)

  pub first_left : IsTrue (edge_at lines line).has_left → cover lines line Against k (first_pieces lines) ≡ 1
  first_left t = found lines line k Against lines 0 (omega arith) (omega arith) (λ i x e. let z : 0 + i ≡ i = omega arith in ap (slice_get lines) z ∙ e) (left_side (edge_at lines line).has_left t)

-- ---- its pieces are pieces
-- the ends of a line differ
ends_apart : (e : Edge) → IsEdge e → (b : Bool) → same_place e.v1 e.v2 ≡ b → b ≡ false
ends_apart e h false s = refl
ends_apart e h true s =
    let same = same_vertex_is e.v1 e.v2 s in
    let x : e.v1.x ≡ e.v2.x = ap (λ (v : Vertex). v.x) same in
    let y : e.v1.y ≡ e.v2.y = ap (λ (v : Vertex). v.y) same in
    let dx : e.v2.x -ℤ e.v1.x ≡ pos 0 = omega (arith, ints) in
    let dy : e.v2.y -ℤ e.v1.y ≡ pos 0 = omega (arith, ints) in
    let a : dot (ray e Along) (ray e Along) ≡ pos 0 =
    ap (λ (d : ℤ). d *ℤ d +ℤ (e.v2.y -ℤ e.v1.y) *ℤ (e.v2.y -ℤ e.v1.y)) dx ∙ ap (λ (d : ℤ). pos 0 *ℤ pos 0 +ℤ d *ℤ d) dy in
    let p = h.apart in
    absurd (omega (arith, ints))

start_fraction : IsFraction (fraction (pos 0) (pos 1))
start_fraction = record { at_least_zero = omega (arith, ints); at_most_one = omega (arith, ints); positive = omega (arith, ints); small = omega (arith, ints) }

end_fraction : IsFraction (fraction (pos 1) (pos 1))
end_fraction = record { at_least_zero = omega (arith, ints); at_most_one = omega (arith, ints); positive = omega (arith, ints); small = omega (arith, ints) }

-- the whole of a side is a piece
pub whole_is_piece : (lines : List Edge) (n : ℕ) (f : Facing) → n < length lines → IsEdge (edge_at lines n) → IsPiece lines (whole n f)
whole_is_piece lines n f l h =
    let e = edge_at lines n in
    record {
      line_in = l;
      from_in = start_fraction;
      to_in = end_fraction;
      rising = omega (arith, ints);
      ends_differ =
          ap (λ (v : Vertex). same_place v (last_end lines (whole n f))) (starts_at e)
          ∙ ap (λ (v : Vertex). same_place e.v1 v) (stops_at e) ∙ ends_apart e h (same_place e.v1 e.v2) refl;
    }

sides_are : (lines : List Edge) (n : ℕ) (b : Bool) → n < length lines → IsEdge (edge_at lines n) → All (IsPiece lines) (if b then (whole n Along ∷ whole n Against ∷ []) else (whole n Along ∷ []))
sides_are lines n true l h =
    All-cons (IsPiece lines) (whole n Along) (whole n Against ∷ []) (whole_is_piece lines n Along l h)
    (All-cons (IsPiece lines) (whole n Against) [] (whole_is_piece lines n Against l h) (All-nil (IsPiece lines)))
sides_are lines n false l h = All-cons (IsPiece lines) (whole n Along) [] (whole_is_piece lines n Along l h) (All-nil (IsPiece lines))

within : (lines : List Edge) (n : ℕ) (e : Edge) → slice_get lines n ≡ Some e → n < length lines
within [] n e s = cc
within (x ∷ xs) zero e s = omega arith
within (x ∷ xs) (suc n) e s = let h = within xs n e s in omega arith

pieces_are : (lines : List Edge) → All IsEdge lines → (es : List Edge) (n : ℕ) → StandsAt es lines n → All (IsPiece lines) (pieces_from n es)
pieces_are lines all [] n at = All-nil (IsPiece lines)
pieces_are lines all (e ∷ es) n at =
    let z : n ≡ n + 0 = omega arith in
    let here : slice_get lines n ≡ Some e = ap (slice_get lines) z ∙ at 0 e refl in
    let is : edge_at lines n ≡ e = index_is lines n no_edge e here in
    let ok : IsEdge (edge_at lines n) = subst IsEdge (sym is) (All-at IsEdge lines n e all here) in
    All-append (IsPiece lines) (sides_of n e) (pieces_from (n + 1) es)
    (sides_are lines n e.has_left (within lines n e here) ok)
    (pieces_are lines all es (n + 1) (λ i x g. let s : n + 1 + i ≡ n + suc i = omega arith in ap (slice_get lines) s ∙ at (suc i) x g))

-- each piece of the first list is a piece
pub first_are_pieces : (lines : List Edge) → All IsEdge lines → All (IsPiece lines) (first_pieces lines)
first_are_pieces lines all = pieces_are lines all lines 0 (λ i x e. let z : 0 + i ≡ i = omega arith in ap (slice_get lines) z ∙ e)
