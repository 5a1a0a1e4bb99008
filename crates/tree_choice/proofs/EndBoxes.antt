-- Boxes round the ends of pieces: the pieces of boxes on one side go there whole, and boxes are noted one after another.
use Rattle.std.proofs.Common.{◌≡◌, ◌∙◌, refl, sym, ap, subst, ⊎_elim, inl, inr, ℕ, zero, suc, ◌+◌, ◌*◌, ◌-◌, ◌<◌, ◌≤◌, min, List, [], ◌∷◌, ◌++◌, length, take, drop, get_or, Some, None, arith, All}
use Rattle.std.proofs.lemmas.Bool.{cases_lt}
use Rattle.std.proofs.lemmas.Int.{ints}
use Rattle.std.proofs.lemmas.List.{take_all, length-drop, length-append}
use Rattle.std.proofs.lemmas.List.Elements.{All-head, All-tail}
use Rattle.std.specs.Prelude.{◌⊎◌, pos, ◌<ℤ◌}
use Rattle.lump_records.specs.declared.records.Bounds.{Bounds}
use Rattle.lump_records.specs.declared.records.Vertex.{Vertex}
use Rattle.lump_records.proofs.Signs.{linear, product_positive, times_below}
use Rattle.tree_pieces.specs.declared.edge.Edge.{Edge}
use Rattle.tree_pieces.specs.declared.piece.Piece.{Piece}
use Rattle.tree_pieces.specs.Plane.{dot}
use Rattle.tree_pieces.specs.Pieces.{edge_of, ray_of, first_end, last_end, IsPiece}
use Rattle.tree_pieces.specs.Division.{parts_of, parts_by, value_by}
use Rattle.tree_pieces.specs.Boxes.{least_value, greatest_value, IsWellIn}
use Rattle.tree_pieces.proofs.Boxes.{value_in_box}
use Rattle.tree_pieces.proofs.Stops.{rights_append, lefts_append, splits_append}
use Rattle.tree_choice.specs.declared.counts.Counts.{Counts}
use Rattle.tree_choice.specs.declared.end_boxes.EndBoxes.{EndBoxes}
use Rattle.tree_choice.specs.Blocks.{IsWithinBox, HoldsPlace, HoldEnds, HoldAllEnds}
use Rattle.tree_choice.specs.Counts.{AreCounts}
use Rattle.tree_choice.proofs.BoxLemmas.{no_box, one_more, place_wider, stands_in}
use Rattle.tree_choice.proofs.EndLemmas.{right_by_signs, left_by_signs}
use Rattle.tree_choice.proofs.OneMore.{piece_counts}

-- what is read where a list has no element
abbrev pub no_boxes : EndBoxes
no_boxes = record { west = no_box; east = no_box }

-- ---- pieces on one side
module _ (lines : List Edge) (p : Piece) where
  -- a piece with each end in a box on the right
  ends_right : (q : Piece) (a b : Bounds) → IsPiece lines q → IsWellIn a (first_end lines q) → IsWellIn b (last_end lines q)
      → pos 0 <ℤ least_value (ray_of lines p) a → pos 0 <ℤ least_value (ray_of lines p) b → parts_of lines p q ≡ record { right = Some q; left = None }
  ends_right q a b ok f l ha hb =
      let r = ray_of lines p in
      let e = edge_of lines q in
      let u = (value_in_box r e q.from a ok.from_in f).0 in
      let w = (value_in_box r e q.to b ok.to_in l).0 in
      let df = ok.from_in.positive in
      let dt = ok.to_in.positive in
      let uf = product_positive q.from.d (least_value r a) (omega (arith, linear)) ha in
      let wt = product_positive q.to.d (least_value r b) (omega (arith, linear)) hb in
      let s = right_by_signs (value_by lines p q q.from) (value_by lines p q q.to) (dot r (ray_of lines q)) (omega (arith, linear)) (omega (arith, linear)) in
      ap (parts_by lines p q) s

  -- and on the left
  ends_left : (q : Piece) (a b : Bounds) → IsPiece lines q → IsWellIn a (first_end lines q) → IsWellIn b (last_end lines q)
      → greatest_value (ray_of lines p) a <ℤ pos 0 → greatest_value (ray_of lines p) b <ℤ pos 0 → parts_of lines p q ≡ record { right = None; left = Some q }
  ends_left q a b ok f l ha hb =
      let r = ray_of lines p in
      let e = edge_of lines q in
      let u = (value_in_box r e q.from a ok.from_in f).1 in
      let w = (value_in_box r e q.to b ok.to_in l).1 in
      let df = ok.from_in.positive in
      let dt = ok.to_in.positive in
      let uf = times_below q.from.d (greatest_value r a) (pos 0) (omega (arith, linear)) ha in
      let wt = times_below q.to.d (greatest_value r b) (pos 0) (omega (arith, linear)) hb in
      let s = left_by_signs (value_by lines p q q.from) (value_by lines p q q.to) (dot r (ray_of lines q)) (omega (arith, ints)) (omega (arith, ints)) in
      ap (parts_by lines p q) s

  pair_right : (q : Piece) (b : EndBoxes) → IsPiece lines q → HoldEnds lines b q → pos 0 <ℤ least_value (ray_of lines p) b.west
      → pos 0 <ℤ least_value (ray_of lines p) b.east → parts_of lines p q ≡ record { right = Some q; left = None }
  pair_right q b ok (inl h) w e = ends_right q b.west b.east ok h.0 h.1 w e
  pair_right q b ok (inr h) w e = ends_right q b.east b.west ok h.1 h.0 e w

  pair_left : (q : Piece) (b : EndBoxes) → IsPiece lines q → HoldEnds lines b q → greatest_value (ray_of lines p) b.west <ℤ pos 0
      → greatest_value (ray_of lines p) b.east <ℤ pos 0 → parts_of lines p q ≡ record { right = None; left = Some q }
  pair_left q b ok (inl h) w e = ends_left q b.west b.east ok h.0 h.1 w e
  pair_left q b ok (inr h) w e = ends_left q b.east b.west ok h.1 h.0 e w

  -- one more piece is counted
  counted_more : (q : Piece) (qs : List Piece) (a b both : Counts) → AreCounts lines p (q ∷ []) a → AreCounts lines p qs b
      → both.splits ≡ a.splits + b.splits → both.right ≡ a.right + b.right → both.left ≡ a.left + b.left → AreCounts lines p (q ∷ qs) both
  counted_more q qs a b both x y s r l =
      let er = rights_append lines p (q ∷ []) qs in
      let el = lefts_append lines p (q ∷ []) qs in
      let es = splits_append lines p (q ∷ []) qs in
      let xs = x.splits in
      let xr = x.right in
      let xl = x.left in
      let ys = y.splits in
      let yr = y.right in
      let yl = y.left in
      record { splits = omega arith; right = omega arith; left = omega arith }

  all_right : (qs : List Piece) → All (λ q. parts_of lines p q ≡ record { right = Some q; left = None }) qs → AreCounts lines p qs (record { splits = 0; right = length qs; left = 0 })
  all_right [] h = record { splits = refl; right = refl; left = refl }
  all_right (q ∷ qs) h =
      let Q : Piece → Type 0 = λ x. parts_of lines p x ≡ record { right = Some x; left = None } in
      let one = piece_counts lines p q (record { right = Some q; left = None }) (record { splits = 0; right = 1; left = 0 }) (sym (All-head Q q qs h)) refl refl refl in
      counted_more q qs _ _ _ one (all_right qs (All-tail Q q qs h)) refl (omega arith) refl

  all_left : (qs : List Piece) → All (λ q. parts_of lines p q ≡ record { right = None; left = Some q }) qs → AreCounts lines p qs (record { splits = 0; right = 0; left = length qs })
  all_left [] h = record { splits = refl; right = refl; left = refl }
  all_left (q ∷ qs) h =
      let Q : Piece → Type 0 = λ x. parts_of lines p x ≡ record { right = None; left = Some x } in
      let one = piece_counts lines p q (record { right = None; left = Some q }) (record { splits = 0; right = 0; left = 1 }) (sym (All-head Q q qs h)) refl refl refl in
      counted_more q qs _ _ _ one (all_left qs (All-tail Q q qs h)) refl refl (omega arith)

  -- the pieces whose ends two boxes on one side hold
  pub held_right : (qs : List Piece) (b : EndBoxes) → All (IsPiece lines) qs → All (HoldEnds lines b) qs → pos 0 <ℤ least_value (ray_of lines p) b.west
      → pos 0 <ℤ least_value (ray_of lines p) b.east → AreCounts lines p qs (record { splits = 0; right = length qs; left = 0 })
  held_right qs b ok holds w e = all_right qs (λ k d l. pair_right _ b (ok k d l) (holds k d l) w e)

  pub held_left : (qs : List Piece) (b : EndBoxes) → All (IsPiece lines) qs → All (HoldEnds lines b) qs → greatest_value (ray_of lines p) b.west <ℤ pos 0
      → greatest_value (ray_of lines p) b.east <ℤ pos 0 → AreCounts lines p qs (record { splits = 0; right = 0; left = length qs })
  held_left qs b ok holds w e = all_left qs (λ k d l. pair_left _ b (ok k d l) (holds k d l) w e)

-- ---- the boxes of some pieces
-- one of two boxes holds one end of the piece, and the other box the other end
abbrev pub HoldPlaces : List Edge → Bounds → Bounds → Piece → Type 0
HoldPlaces lines a b p =
    (HoldsPlace a (first_end lines p) × HoldsPlace b (last_end lines p)) ⊎ (HoldsPlace a (last_end lines p) × HoldsPlace b (first_end lines p))

module _ (lines : List Edge) (a b c d : Bounds) where
  places_wider : (p : Piece) → IsWithinBox a c → IsWithinBox b d → HoldPlaces lines a b p → HoldPlaces lines c d p
  places_wider p v w (inl h) = inl (place_wider a c _ v h.0, place_wider b d _ w h.1)
  places_wider p v w (inr h) = inr (place_wider a c _ v h.0, place_wider b d _ w h.1)

  -- the ends of one more piece in the boxes round the first ones
  pub one_more_places : (ps : List Piece) (n : ℕ) (e : Piece) → IsWithinBox a c → IsWithinBox b d → n < length ps → All (HoldPlaces lines a b) (take n ps)
      → HoldPlaces lines c d (get_or ps n e) → All (HoldPlaces lines c d) (take (n + 1) ps)
  one_more_places ps n e v w h all one = one_more (HoldPlaces lines a b) (HoldPlaces lines c d) (λ p k. places_wider p v w k) ps n e h all one

-- the ends of a piece, in either order
pub places_of : (lines : List Edge) (a b : Bounds) (p : Piece) (f l x y : Vertex) → f ≡ first_end lines p → l ≡ last_end lines p
    → ((x ≡ f) × (y ≡ l)) ⊎ ((x ≡ l) × (y ≡ f)) → HoldsPlace a x → HoldsPlace b y → HoldPlaces lines a b p
places_of lines a b p f l x y ef el (inl e) h k = inl (subst (HoldsPlace a) (e.0 ∙ ef) h, subst (HoldsPlace b) (e.1 ∙ el) k)
places_of lines a b p f l x y ef el (inr e) h k = inr (subst (HoldsPlace a) (e.0 ∙ el) h, subst (HoldsPlace b) (e.1 ∙ ef) k)

-- wider boxes hold the ends well in them
pub all_held : (lines : List Edge) (a b : Bounds) (boxes : EndBoxes) → ((v : Vertex) → HoldsPlace a v → IsWellIn boxes.west v)
    → ((v : Vertex) → HoldsPlace b v → IsWellIn boxes.east v) → (ps : List Piece) → All (HoldPlaces lines a b) ps → All (HoldEnds lines boxes) ps
all_held lines a b boxes f g ps all = λ k d l. one (get_or ps k d) (all k d l)
  where
    one : (p : Piece) → HoldPlaces lines a b p → HoldEnds lines boxes p
    one p (inl h) = inl (f _ h.0, g _ h.1)
    one p (inr h) = inr (f _ h.0, g _ h.1)

-- ---- the boxes of a list
-- from a place on, so many pieces, or as many as there are
pub part_is : {X : Type 0} (xs : List X) (from size m : ℕ) → from ≤ length xs → m ≡ min (from + size) (length xs) → take (m - from) (drop from xs) ≡ take size (drop from xs)
part_is {X} xs from size m h e =
    let l = length-drop from xs in
    ⊎_elim (λ k. take_all (m - from) (drop from xs) (omega arith) ∙ sym (take_all size (drop from xs) (omega arith)))
    (λ k. let s : m - from ≡ size = omega arith in ap (λ (i : ℕ). take i (drop from xs)) s)
    (cases_lt (length xs) (from + size))

times_more : (n m : ℕ) → n * (m + 1) ≡ n * m + n
times_more zero m = omega arith
times_more (suc n) m = let i = times_more n m in omega (arith, i)

-- so many pieces are behind the boxes that are noted
pub one_more_long : (size : ℕ) (boxes : List EndBoxes) (b : EndBoxes) (from : ℕ) → from ≡ size * length boxes → from + size ≡ size * length (boxes ++ (b ∷ []))
one_more_long size boxes b from e =
    ap (λ (n : ℕ). n + size) e ∙ sym (times_more size (length boxes)) ∙ ap (λ (n : ℕ). size * n) (sym (length-append boxes (b ∷ [])))

pub one_more_held : (size : ℕ) (lines : List Edge) (ps : List Piece) (boxes : List EndBoxes) (b : EndBoxes) (from : ℕ) → from ≡ size * length boxes → HoldAllEnds size lines ps boxes
    → All (HoldEnds lines b) (take size (drop from ps)) → HoldAllEnds size lines ps (boxes ++ (b ∷ []))
one_more_held size lines ps boxes b from e k all =
    let here : All (HoldEnds lines b) (take size (drop (size * length boxes) ps)) = subst (λ (i : ℕ). All (HoldEnds lines b) (take size (drop i ps))) e all in
    λ j x at. stands_in boxes b j x at (λ i y. All (HoldEnds lines y) (take size (drop (size * i) ps))) k here
