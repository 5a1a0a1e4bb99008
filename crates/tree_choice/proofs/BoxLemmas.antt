-- Boxes hold places, ends and pieces, and the boxes of blocks and groups come one by one.
use Rattle.std.proofs.Common.{◌≡◌, sym, ap, ◌∙◌, subst, ℕ, zero, suc, ◌+◌, ◌*◌, ◌-◌, ◌<◌, ◌≤◌, ⊎_elim, min, List, [], ◌∷◌, ◌++◌, length, take, drop, get_or, Some, arith, All, slice_get}
use Rattle.std.proofs.lemmas.Bool.{cases_lt}
use Rattle.std.proofs.lemmas.List.{take_all, length-drop, length-take, drop-drop, get_or-take, get_or-drop}
use Rattle.std.proofs.lemmas.List.Elements.{All-nil, All-cons, All-head, All-tail, All-get_or, All-append}
use Rattle.std.specs.Prelude.{pos}
use Rattle.lump_records.specs.declared.records.Bounds.{Bounds}
use Rattle.lump_records.specs.declared.records.Vertex.{Vertex}
use Rattle.lump_records.proofs.Signs.{linear}
use Rattle.tree_pieces.specs.declared.edge.Edge.{Edge}
use Rattle.tree_pieces.specs.declared.edge.Facing.TheVariants.{Along}
use Rattle.tree_pieces.specs.declared.frac.Frac.{Frac}
use Rattle.tree_pieces.specs.declared.piece.Piece.{Piece}
use Rattle.tree_pieces.specs.Boxes.{IsWellIn, HoldsPiece}
use Rattle.tree_pieces.specs.Pieces.{IsPiece, first_end, last_end}
use Rattle.tree_choice.specs.Blocks.{AreBlocks, AreGroups, IsWithinBox, HoldsPlace}
use Rattle.tree_choice.proofs.Best.{before_within, stands_at}
use Rattle.tree_choice.proofs.OpenBlocks.{front}

-- ---- a box within a box
pub within_within : (a b c : Bounds) → IsWithinBox a b → IsWithinBox b c → IsWithinBox a c
within_within a b c v w =
    let vl = v.left in
    let vr = v.right in
    let vb = v.bottom in
    let vt = v.top in
    let wl = w.left in
    let wr = w.right in
    let wb = w.bottom in
    let wt = w.top in
    record { top = omega (arith, linear); bottom = omega (arith, linear); left = omega (arith, linear); right = omega (arith, linear) }

well_in_wider : (a b : Bounds) (v : Vertex) → IsWithinBox a b → IsWellIn a v → IsWellIn b v
well_in_wider a b v w h =
    let wl = w.left in
    let wr = w.right in
    let wb = w.bottom in
    let wt = w.top in
    let hl = h.left in
    let hr = h.right in
    let hb = h.bottom in
    let ht = h.top in
    record { left = omega (arith, linear); right = omega (arith, linear); bottom = omega (arith, linear); top = omega (arith, linear) }

pub holds_wider : (lines : List Edge) (a b : Bounds) (p : Piece) → IsWithinBox a b → HoldsPiece lines a p → HoldsPiece lines b p
holds_wider lines a b p w h = record { first = well_in_wider a b _ w h.first; last = well_in_wider a b _ w h.last }

-- and the places in them
pub place_wider : (a b : Bounds) (v : Vertex) → IsWithinBox a b → HoldsPlace a v → HoldsPlace b v
place_wider a b v w h =
    let wl = w.left in
    let wr = w.right in
    let wb = w.bottom in
    let wt = w.top in
    let hl = h.left in
    let hr = h.right in
    let hb = h.bottom in
    let ht = h.top in
    record { left = omega (arith, linear); right = omega (arith, linear); bottom = omega (arith, linear); top = omega (arith, linear) }

-- what is so of the first elements, and of one more
pub one_more : {X : Type 0} (P Q : X → Type 0) → ((x : X) → P x → Q x) → (xs : List X) (n : ℕ) (d : X) → n < length xs
    → All P (take n xs) → Q (get_or xs n d) → All Q (take (n + 1) xs)
one_more {X} P Q f xs n d h all one = let e : suc n ≡ n + 1 = omega arith in subst (λ (i : ℕ). All Q (take i xs)) e (first xs n h all one)
  where
    first : (xs : List X) (n : ℕ) → n < length xs → All P (take n xs) → Q (get_or xs n d) → All Q (take (suc n) xs)
    first [] n h all one = absurd (omega arith)
    first (x ∷ xs) zero h all one = All-cons Q x [] one (All-nil Q)
    first (x ∷ xs) (suc n) h all one =
        All-cons Q x (take (suc n) xs) (f x (All-head P x (take n xs) all))
        (first xs n (omega arith) (All-tail P x (take n xs) all) one)

-- one more box in the box round the first ones
pub one_more_within : (a b : Bounds) (xs : List Bounds) (n : ℕ) (d : Bounds) → IsWithinBox a b → n < length xs
    → All (λ x. IsWithinBox x a) (take n xs) → IsWithinBox (get_or xs n d) b
    → All (λ x. IsWithinBox x b) (take (n + 1) xs)
one_more_within a b xs n d w h all one = one_more (λ (x : Bounds). IsWithinBox x a) (λ (x : Bounds). IsWithinBox x b) (λ x k. within_within x a b k w) xs n d h all one

-- the box holds both rounded ends of the piece
pub record HoldsEnds (lines : List Edge) (b : Bounds) (p : Piece) : Type 0 where
  pub first : HoldsPlace b (first_end lines p)
  pub last : HoldsPlace b (last_end lines p)

-- the ends of one more piece in the box round the first ones
pub one_more_ends : (lines : List Edge) (a b : Bounds) (ps : List Piece) (n : ℕ) (d : Piece) → IsWithinBox a b → n < length ps
    → All (HoldsEnds lines a) (take n ps) → HoldsEnds lines b (get_or ps n d)
    → All (HoldsEnds lines b) (take (n + 1) ps)
one_more_ends lines a b ps n d w h all one =
    one_more (HoldsEnds lines a) (HoldsEnds lines b)
    (λ p k. record { first = place_wider a b (first_end lines p) w k.first; last = place_wider a b (last_end lines p) w k.last })
    ps n d h all one

-- a wider box holds the pieces whose ends the box holds
pub all_well_in : (lines : List Edge) (a b : Bounds) → ((v : Vertex) → HoldsPlace a v → IsWellIn b v) → (ps : List Piece) → All (HoldsEnds lines a) ps → All (HoldsPiece lines b) ps
all_well_in lines a b f [] all = All-nil (HoldsPiece lines b)
all_well_in lines a b f (p ∷ ps) all =
    let h = All-head (HoldsEnds lines a) p ps all in
    All-cons (HoldsPiece lines b) p ps (record { first = f (first_end lines p) h.first; last = f (last_end lines p) h.last })
    (all_well_in lines a b f ps (All-tail (HoldsEnds lines a) p ps all))

-- ---- the blocks of a list
-- the boxes of the first blocks are made
pub record AreFirstBlocks (lines : List Edge) (ps : List Piece) (blocks : List Bounds) (n : ℕ) : Type 0 where
  pub made : length blocks ≡ n
  pub holds : (k : ℕ) (b : Bounds) → slice_get blocks k ≡ Some b → All (HoldsPiece lines b) (take 16 (drop (16 * k) ps))

-- what stands in a list with one more element
pub stands_in : {X : Type 0} (xs : List X) (y : X) (k : ℕ) (x : X) → slice_get (xs ++ (y ∷ [])) k ≡ Some x
    → (P : ℕ → X → Type 0) → ((j : ℕ) (z : X) → slice_get xs j ≡ Some z → P j z) → P (length xs) y → P k x
stands_in [] y zero x e P f g = let s : y ≡ x = cc in subst (P zero) s g
stands_in [] y (suc k) x e P f g = cc
stands_in (z ∷ xs) y zero x e P f g = f zero x e
stands_in (z ∷ xs) y (suc k) x e P f g = stands_in xs y k x e (λ j. P (suc j)) (λ j. f (suc j)) g

-- a block that ends where its list does
shorter_block : {X : Type 0} (xs : List X) (j : ℕ) → j ≤ 16 → (j < 16 → length xs ≤ j) → take j xs ≡ take 16 xs
shorter_block xs j h k = ⊎_elim (λ l. take_all j xs (k l) ∙ sym (take_all 16 xs (let m = k l in omega arith))) (λ l. let e : j ≡ 16 = omega arith in ap (λ (i : ℕ). take i xs) e) (cases_lt j 16)

-- from a place to sixteen later, or to the end
pub block_is : {X : Type 0} (xs : List X) (n m : ℕ) → 16 * n ≤ length xs → m ≡ min (16 * n + 16) (length xs) → take (m - 16 * n) (drop (16 * n) xs) ≡ take 16 (drop (16 * n) xs)
block_is xs n m h e =
    let l = length-drop (16 * n) xs in
    shorter_block (drop (16 * n) xs) (m - 16 * n) (omega arith) (λ j. omega arith)

pub one_more_block : (lines : List Edge) (ps : List Piece) (blocks : List Bounds) (n m : ℕ) (b : Bounds) → AreFirstBlocks lines ps blocks n
    → 16 * n ≤ length ps → m ≡ min (16 * n + 16) (length ps)
    → All (HoldsPiece lines b) (take (m - 16 * n) (drop (16 * n) ps))
    → AreFirstBlocks lines ps (blocks ++ (b ∷ [])) (n + 1)
one_more_block lines ps blocks n m b k h e all =
    let made = k.made in
    let here : All (HoldsPiece lines b) (take 16 (drop (16 * n) ps)) = subst (All (HoldsPiece lines b)) (block_is ps n m h e) all in
    record {
      made = longer blocks ∙ ap (λ (i : ℕ). i + 1) made;
      holds = λ j x at. stands_in blocks b j x at (λ i y. All (HoldsPiece lines y) (take 16 (drop (16 * i) ps))) k.holds
          (subst (λ (i : ℕ). All (HoldsPiece lines b) (take 16 (drop (16 * i) ps))) (sym made) here);
    }
  where
    longer : (xs : List Bounds) → length (xs ++ (b ∷ [])) ≡ length xs + 1
    longer [] = omega arith
    longer (x ∷ xs) = let r = longer xs in omega arith

-- ---- the groups of a list
pub one_more_group : (lines : List Edge) (ps : List Piece) (groups : List Bounds) (n : ℕ) (b : Bounds) → AreGroups lines ps groups → length groups ≡ n
    → 256 * n + 256 ≤ length ps → All (HoldsPiece lines b) (take 256 (drop (256 * n) ps))
    → AreGroups lines ps (groups ++ (b ∷ []))
one_more_group lines ps groups n b k made h all =
    let l = longer groups b in
    record {
      within = omega arith;
      holds = λ j x at. stands_in groups b j x at (λ i y. All (HoldsPiece lines y) (take 256 (drop (256 * i) ps))) k.holds
          (subst (λ (i : ℕ). All (HoldsPiece lines b) (take 256 (drop (256 * i) ps))) (sym made) all);
    }
  where
    longer : (xs : List Bounds) (y : Bounds) → length (xs ++ (y ∷ [])) ≡ length xs + 1
    longer [] y = omega arith
    longer (x ∷ xs) y = let r = longer xs y in omega arith

-- ---- the pieces in their boxes
-- what is read where a list has no element
abbrev pub no_box : Bounds
no_box = record { top = pos 0; bottom = pos 0; left = pos 0; right = pos 0 }

abbrev pub no_piece : Piece
no_piece = let zero : Frac = record { n = pos 0; d = pos 0 } in record { line = 0; side = Along; from = zero; to = zero }

-- a piece in front of another is one of the list
pub piece_before : (lines : List Edge) (ps : List Piece) (i n : ℕ) (p : Piece) → i < n → slice_get ps n ≡ Some p → All (IsPiece lines) ps → IsPiece lines (get_or ps i no_piece)
piece_before lines ps i n p h e all = All-get_or (IsPiece lines) ps i no_piece (before_within ps i n p h e) all

module _ (lines : List Edge) (ps : List Piece) where
  all_wider : (a b : Bounds) → IsWithinBox a b → (qs : List Piece) → All (HoldsPiece lines a) qs → All (HoldsPiece lines b) qs
  all_wider a b w [] all = All-nil (HoldsPiece lines b)
  all_wider a b w (q ∷ qs) all = All-cons (HoldsPiece lines b) q qs (holds_wider lines a b q w (All-head (HoldsPiece lines a) q qs all)) (all_wider a b w qs (All-tail (HoldsPiece lines a) q qs all))

  -- a box that holds the pieces of each of some blocks holds them all
  run_holds : (b : Bounds) (m j : ℕ) → ((i : ℕ) → i < m → All (HoldsPiece lines b) (take 16 (drop (16 * (j + i)) ps))) → All (HoldsPiece lines b) (take (16 * m) (drop (16 * j) ps))
  run_holds b zero j f = let e : 0 ≡ 16 * zero = omega arith in subst (λ (i : ℕ). All (HoldsPiece lines b) (take i (drop (16 * j) ps))) e (All-nil (HoldsPiece lines b))
  run_holds b (suc m) j f =
      let z : 16 * (j + 0) ≡ 16 * j = omega arith in
      let s : 16 + 16 * m ≡ 16 * suc m = omega arith in
      let d : 16 * j + 16 ≡ 16 * (j + 1) = omega arith in
      let first = subst (λ (i : ℕ). All (HoldsPiece lines b) (take 16 (drop i ps))) z (f 0 (omega arith)) in
      let rest = run_holds b m (j + 1) (λ i h. let e : j + suc i ≡ j + 1 + i = omega arith in subst (λ (k : ℕ). All (HoldsPiece lines b) (take 16 (drop (16 * k) ps))) e (f (suc i) (omega arith))) in
      let there = subst (λ (qs : List Piece). All (HoldsPiece lines b) (take (16 * m) qs)) (sym (drop-drop 16 (16 * j) ps ∙ ap (λ (i : ℕ). drop i ps) d)) rest in
      subst (λ (i : ℕ). All (HoldsPiece lines b) (take i (drop (16 * j) ps))) s
      (subst (All (HoldsPiece lines b)) (front 16 (16 * m) (drop (16 * j) ps)) (All-append (HoldsPiece lines b) (take 16 (drop (16 * j) ps)) (take (16 * m) (drop 16 (drop (16 * j) ps))) first there))

  -- the box round sixteen boxes of blocks holds the pieces of their group
  pub group_round : (blocks : List Bounds) (g : ℕ) (b : Bounds) → AreBlocks lines ps blocks → 256 * g + 256 ≤ length ps
      → All (λ x. IsWithinBox x b) (take 16 (drop (16 * g) blocks)) → All (HoldsPiece lines b) (take 256 (drop (256 * g) ps))
  group_round blocks g b are within all =
      let e : 16 * (16 * g) ≡ 256 * g = omega arith in
      subst (λ (i : ℕ). All (HoldsPiece lines b) (take 256 (drop i ps))) e (run_holds b 16 (16 * g) each)
    where
      each : (i : ℕ) → i < 16 → All (HoldsPiece lines b) (take 16 (drop (16 * (16 * g + i)) ps))
      each i h =
          let k = 16 * g + i in
          let n = are.enough in
          let x = get_or blocks k no_box in
          let there : k < length blocks = omega arith in
          let ld = length-drop (16 * g) blocks in
          let lt = length-take 16 (drop (16 * g) blocks) in
          let w = All-get_or (λ (x : Bounds). IsWithinBox x b) (take 16 (drop (16 * g) blocks)) i no_box (omega arith) all in
          let same = get_or-take 16 (drop (16 * g) blocks) i no_box h ∙ get_or-drop (16 * g) blocks i no_box in
          all_wider x b (subst (λ (y : Bounds). IsWithinBox y b) same w) (take 16 (drop (16 * k) ps)) (are.holds k x (stands_at blocks k no_box there))
