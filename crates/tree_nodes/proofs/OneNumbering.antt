-- Drawn vertices and pieces have one numbering: the same vertices, and the same segs.
use Rattle.std.proofs.Common.{◌≡◌, refl, sym, ap, ◌∙◌, subst, ℕ, zero, suc, ◌+◌, ◌-◌, ◌<◌, ◌≤◌, ◌⊎◌, inl, inr, ⊎_elim, List, [], ◌∷◌, length, Some, arith, slice_get}
use Rattle.std.specs.Prelude.{All}
use Rattle.std.proofs.lemmas.Bool.{cases_lt, cases_order}
use Rattle.std.proofs.lemmas.Option.{slice_get_within}
use Rattle.lump_records.specs.declared.records.Vertex.{Vertex}
use Rattle.lump_records.specs.declared.records.Seg.{Seg}
use Rattle.lump_records.specs.declared.plane.Ray.{Ray}
use Rattle.tree_pieces.specs.declared.edge.Edge.{Edge}
use Rattle.tree_pieces.specs.declared.piece.Piece.{Piece}
use Rattle.tree_pieces.specs.Angle.{IsAngle}
use Rattle.tree_pieces.specs.Offset.{IsOffset}
use Rattle.tree_pieces.specs.Pieces.{edge_at}
use Rattle.tree_pieces.specs.Places.{StandsFirst}
use Rattle.tree_pieces.specs.Plane.{ray}
use Rattle.tree_pieces.specs.Segs.{NamesFirst, facing_of, first_place, no_vertex, seg_ray}
use Rattle.tree_pieces.proofs.FirstList.{index_is}
use Rattle.tree_pieces.proofs.Lists.{All-at}
use Rattle.tree_nodes.specs.References.{HasPlaces}
use Rattle.tree_nodes.specs.Sound.{AddsEnds, IsNamedBefore}
use Rattle.tree_nodes.specs.TreeLists.{AreSegsOf, IsSegOf, end_of, start_of}
use Rattle.tree_nodes.proofs.Below.{at_place}
use Rattle.tree_nodes.proofs.OneField.{one_angle, one_offset}
use Rattle.tree_nodes.proofs.Places.{get_left}

-- ---- two lists
-- what stands at each place of one list stands there in the other
pub same_lists : {X : Type 0} (xs ys : List X) → length xs ≡ length ys
    → ((i : ℕ) (x y : X) → slice_get xs i ≡ Some x → slice_get ys i ≡ Some y → x ≡ y) → xs ≡ ys
same_lists [] [] e h = refl
same_lists [] (y ∷ ys) e h = absurd (omega arith)
same_lists (x ∷ xs) [] e h = absurd (omega arith)
same_lists (x ∷ xs) (y ∷ ys) e h =
    let f : x ≡ y = h 0 x y refl refl in
    let r : xs ≡ ys = same_lists xs ys (omega arith) (λ n. h (suc n)) in
    cc

no_longer : {X : Type 0} (xs ys : List X) → ((i : ℕ) (x : X) → slice_get xs i ≡ Some x → slice_get ys i ≡ Some x) → length xs ≤ length ys
no_longer xs ys h = by (cases_lt (length ys) (length xs))
  where
    by : (length ys < length xs) ⊎ (length xs ≤ length ys) → length xs ≤ length ys
    by (inr l) = l
    by (inl l) = let p = at_place xs (length ys) l in let w = slice_get_within ys (length ys) p.0 (h (length ys) p.0 p.1) in absurd (omega arith)

-- ---- names in order
module _ (drawn vs : List Vertex) (segs : List Seg) (added : AddsEnds drawn vs segs) where
  later : (i j n : ℕ) → j < i → IsNamedBefore segs j n → IsNamedBefore segs i n
  later i j n l (k, t, m, at, e) = (k, t, (let z : k < i = omega arith in z), at, e)

  -- the number below a new one that is named is named
  step_down : (i n : ℕ) → length drawn ≤ n → IsNamedBefore segs i (n + 1) → IsNamedBefore segs i n
  step_down i n lo (j, t, l, at, inl e) = later i j n l (added.first_in_order j n t at lo e)
  step_down i n lo (j, t, l, at, inr e) = ⊎_elim (λ h. later i j n l h) (λ f. (j, t, l, at, inl f)) (added.second_in_order j n t at lo e)

  -- and so are all below it that are new
  pub below_named : (n i a : ℕ) → IsNamedBefore segs i n → length drawn ≤ a → a ≤ n → IsNamedBefore segs i a
  below_named zero i a h lo le = let e : zero ≡ a = omega arith in subst (IsNamedBefore segs i) e h
  below_named (suc n) i a h lo le =
      let e : suc n ≡ n + 1 = omega arith in
      ⊎_elim
      (λ l. below_named n i a (step_down i n (omega arith) (subst (IsNamedBefore segs i) e h)) lo (omega arith))
      (λ g. let f : suc n ≡ a = omega arith in subst (IsNamedBefore segs i) f h)
      (cases_lt a (suc n))

-- ---- the ends of one numbering
-- vertices and segs of the pieces, whose ends are numbered behind the drawn vertices
pub record IsNumbering (lines : List Edge) (drawn : List Vertex) (ps : List Piece) (vs : List Vertex) (segs : List Seg) : Type 0 where
  pub segs_are : AreSegsOf lines vs ps segs
  pub places : All (HasPlaces lines vs) segs
  pub added : AddsEnds drawn vs segs
  pub firsts : All (NamesFirst vs) segs

module _ (lines : List Edge) (drawn : List Vertex) (ps : List Piece) where
  -- the piece of a seg
  piece_at : (vs : List Vertex) (segs : List Seg) → IsNumbering lines drawn ps vs segs → (i : ℕ) (s : Seg) → slice_get segs i ≡ Some s → (p : Piece) × (slice_get ps i ≡ Some p)
  piece_at vs segs is i s at = let m = is.segs_are.many in let l = slice_get_within segs i s at in at_place ps i (omega arith)

  first_at : (vs : List Vertex) (segs : List Seg) → IsNumbering lines drawn ps vs segs → (i : ℕ) (p : Piece) (s : Seg) → slice_get ps i ≡ Some p → slice_get segs i ≡ Some s
      → slice_get vs s.first ≡ Some (start_of lines p.side p)
  first_at vs segs is i p s e at =
      let n = All-at (HasPlaces lines vs) segs i s is.places at in
      let v = at_place vs s.first n.first.0 in
      let f = (is.segs_are.each i p s e at).first in
      v.1 ∙ ap Some (sym (index_is vs s.first no_vertex v.0 v.1) ∙ f)

  second_at : (vs : List Vertex) (segs : List Seg) → IsNumbering lines drawn ps vs segs → (i : ℕ) (p : Piece) (s : Seg) → slice_get ps i ≡ Some p → slice_get segs i ≡ Some s
      → slice_get vs s.second ≡ Some (end_of lines p.side p)
  second_at vs segs is i p s e at =
      let n = All-at (HasPlaces lines vs) segs i s is.places at in
      let v = at_place vs s.second n.second.0 in
      let f = (is.segs_are.each i p s e at).second in
      v.1 ∙ ap Some (sym (index_is vs s.second no_vertex v.0 v.1) ∙ f)

-- ---- two numberings
-- one vertex stands at a number of both lists
abbrev IsShared : List Vertex → List Vertex → ℕ → Type 0
IsShared vs ws a = (v : Vertex) × (slice_get vs a ≡ Some v) × (slice_get ws a ≡ Some v)

-- the first i segs of two lists are the same
abbrev AgreeBefore : List Seg → List Seg → ℕ → Type 0
AgreeBefore segs tegs i = (j : ℕ) (s t : Seg) → j < i → slice_get segs j ≡ Some s → slice_get tegs j ≡ Some t → s ≡ t

turned : (segs tegs : List Seg) (i : ℕ) → AgreeBefore segs tegs i → AgreeBefore tegs segs i
turned segs tegs i h j s t l a b = sym (h j t s l b a)

module _ (lines : List Edge) (drawn : List Vertex) (ps : List Piece) (vs ws : List Vertex) (segs tegs : List Seg)
    (one : IsNumbering lines drawn ps vs segs) (two : IsNumbering lines drawn ps ws tegs) where
  drawn_shared : (a : ℕ) → a < length drawn → IsShared vs ws a
  drawn_shared a l =
      let p = at_place drawn a l in
      let f : slice_get vs a ≡ Some p.0 = ap (λ (xs : List Vertex). slice_get xs a) one.added.all ∙ get_left drawn one.added.added a p.0 p.1 in
      let g : slice_get ws a ≡ Some p.0 = ap (λ (xs : List Vertex). slice_get xs a) two.added.all ∙ get_left drawn two.added.added a p.0 p.1 in
      (p.0, f, g)

  -- the seg of the first list beside one of the second
  beside : (j : ℕ) (t : Seg) → slice_get tegs j ≡ Some t → (s : Seg) × (slice_get segs j ≡ Some s)
  beside j t at =
      let l = slice_get_within tegs j t at in
      let m = one.segs_are.many in
      let k = two.segs_are.many in
      at_place segs j (omega arith)

  -- the vertices of a seg that both have
  seg_shared : (j a : ℕ) (s t : Seg) → slice_get segs j ≡ Some s → slice_get tegs j ≡ Some t → s ≡ t → (t.first ≡ a) ⊎ (t.second ≡ a) → IsShared vs ws a
  seg_shared j a s t at bt e (inl f) =
      let p = piece_at lines drawn ps ws tegs two j t bt in
      let g : s.first ≡ a = ap (λ (x : Seg). x.first) e ∙ f in
      let q = subst (λ (n : ℕ). slice_get vs n ≡ Some (start_of lines p.0.side p.0)) g (first_at lines drawn ps vs segs one j p.0 s p.1 at) in
      let r = subst (λ (n : ℕ). slice_get ws n ≡ Some (start_of lines p.0.side p.0)) f (first_at lines drawn ps ws tegs two j p.0 t p.1 bt) in
      (start_of lines p.0.side p.0, q, r)
  seg_shared j a s t at bt e (inr f) =
      let p = piece_at lines drawn ps ws tegs two j t bt in
      let g : s.second ≡ a = ap (λ (x : Seg). x.second) e ∙ f in
      let q = subst (λ (n : ℕ). slice_get vs n ≡ Some (end_of lines p.0.side p.0)) g (second_at lines drawn ps vs segs one j p.0 s p.1 at) in
      let r = subst (λ (n : ℕ). slice_get ws n ≡ Some (end_of lines p.0.side p.0)) f (second_at lines drawn ps ws tegs two j p.0 t p.1 bt) in
      (end_of lines p.0.side p.0, q, r)

  named_shared : (i a : ℕ) → AgreeBefore segs tegs i → IsNamedBefore tegs i a → IsShared vs ws a
  named_shared i a same (j, t, l, at, e) =
      let s = beside j t at in
      seg_shared j a s.0 t s.1 at (same j s.0 t l s.1 at) e

  -- a new number below that of a seg's first end, or of its second, is shared
  below_first : (i a : ℕ) (t : Seg) → AgreeBefore segs tegs i → slice_get tegs i ≡ Some t → length drawn ≤ a → a < t.first → IsShared vs ws a
  below_first i a t same at lo l =
      let n : t.first ≡ (t.first - 1) + 1 = omega arith in
      let h = two.added.first_in_order i (t.first - 1) t at (omega arith) n in
      named_shared i a same (below_named drawn ws tegs two.added (t.first - 1) i a h lo (omega arith))

  below_second : (i a : ℕ) (s t : Seg) → AgreeBefore segs tegs i → slice_get segs i ≡ Some s → slice_get tegs i ≡ Some t → s.first ≡ t.first → length drawn ≤ a → a < t.second → IsShared vs ws a
  below_second i a s t same at bt e lo l =
      let n : t.second ≡ (t.second - 1) + 1 = omega arith in
      ⊎_elim
      (λ h. named_shared i a same (below_named drawn ws tegs two.added (t.second - 1) i a h lo (omega arith)))
      (λ f. by f (cases_lt a t.first))
      (two.added.second_in_order i (t.second - 1) t bt (omega arith) n)
    where
      by : t.first ≡ t.second - 1 → (a < t.first) ⊎ (t.first ≤ a) → IsShared vs ws a
      by f (inl k) = below_first i a t same bt lo k
      by f (inr k) =
          let g : t.first ≡ a = omega arith in
          let p = piece_at lines drawn ps ws tegs two i t bt in
          let q = subst (λ (n : ℕ). slice_get vs n ≡ Some (start_of lines p.0.side p.0)) (e ∙ g) (first_at lines drawn ps vs segs one i p.0 s p.1 at) in
          let r = subst (λ (n : ℕ). slice_get ws n ≡ Some (start_of lines p.0.side p.0)) g (first_at lines drawn ps ws tegs two i p.0 t p.1 bt) in
          (start_of lines p.0.side p.0, q, r)

  -- a place has no lower number in the first list, where the second shares that number
  no_lower : (a b : ℕ) (w : Vertex) → slice_get vs a ≡ Some w → slice_get ws b ≡ Some w → StandsFirst ws b → (length drawn ≤ a → a < b → IsShared vs ws a) → a < b → ⊥
  no_lower a b w at bt first shared l = by (cases_lt a (length drawn))
    where
      twice : IsShared vs ws a → ⊥
      twice (v, f, g) = let e : Some v ≡ Some w = sym f ∙ at in let k = first a w (g ∙ e) bt in absurd (omega arith)

      by : (a < length drawn) ⊎ (length drawn ≤ a) → ⊥
      by (inl k) = twice (drawn_shared a k)
      by (inr k) = twice (shared k l)

  first_no_lower : (i : ℕ) (s t : Seg) → AgreeBefore segs tegs i → slice_get segs i ≡ Some s → slice_get tegs i ≡ Some t → s.first < t.first → ⊥
  first_no_lower i s t same at bt =
      let p = piece_at lines drawn ps vs segs one i s at in
      no_lower s.first t.first (start_of lines p.0.side p.0) (first_at lines drawn ps vs segs one i p.0 s p.1 at) (first_at lines drawn ps ws tegs two i p.0 t p.1 bt)
      (All-at (NamesFirst ws) tegs i t two.firsts bt).0 (λ lo l. below_first i s.first t same bt lo l)

  second_no_lower : (i : ℕ) (s t : Seg) → AgreeBefore segs tegs i → slice_get segs i ≡ Some s → slice_get tegs i ≡ Some t → s.first ≡ t.first → s.second < t.second → ⊥
  second_no_lower i s t same at bt e =
      let p = piece_at lines drawn ps vs segs one i s at in
      no_lower s.second t.second (end_of lines p.0.side p.0) (second_at lines drawn ps vs segs one i p.0 s p.1 at) (second_at lines drawn ps ws tegs two i p.0 t p.1 bt)
      (All-at (NamesFirst ws) tegs i t two.firsts bt).1 (λ lo l. below_second i s.second s t same at bt e lo l)

  -- segs of one piece with the same ends are one seg
  seg_fields : (p : Piece) (s t : Seg) → IsSegOf lines vs p s → IsSegOf lines ws p t → s.first ≡ t.first → s.second ≡ t.second → s ≡ t
  seg_fields p s t a b first second =
      let line : s.line ≡ t.line = a.line ∙ sym b.line in
      let side : s.side ≡ t.side = a.side ∙ sym b.side in
      let along : seg_ray lines vs s ≡ seg_ray lines ws t = ap (λ (n : ℕ). ray (edge_at lines n) (facing_of s.side)) line ∙ ap (λ (n : ℕ). ray (edge_at lines t.line) (facing_of n)) side in
      let angle : s.angle ≡ t.angle =
      one_angle (seg_ray lines ws t).dx (seg_ray lines ws t).dy s.angle t.angle (subst (λ (r : Ray). IsAngle r.dx r.dy s.angle) along a.fields.angle) b.fields.angle in
      let start : first_place lines vs s ≡ first_place lines ws t = a.first ∙ sym b.first in
      let offset : s.offset ≡ t.offset =
      one_offset (seg_ray lines ws t).start (first_place lines ws t) s.offset t.offset
      (subst (λ (v : Vertex). IsOffset (seg_ray lines ws t).start v s.offset) start (subst (λ (r : Ray). IsOffset r.start (first_place lines vs s) s.offset) along a.fields.offset)) b.fields.offset in
      λ i. record { first = first i; second = second i; angle = angle i; line = line i; side = side i; offset = offset i }

-- ---- the same segs
module _ (lines : List Edge) (drawn : List Vertex) (ps : List Piece) (vs ws : List Vertex) (segs tegs : List Seg)
    (one : IsNumbering lines drawn ps vs segs) (two : IsNumbering lines drawn ps ws tegs) where
  first_same : (i : ℕ) (s t : Seg) → AgreeBefore segs tegs i → slice_get segs i ≡ Some s → slice_get tegs i ≡ Some t → s.first ≡ t.first
  first_same i s t same at bt = by (cases_order s.first t.first)
    where
      by : (s.first ≡ t.first) ⊎ ((s.first < t.first) ⊎ (t.first < s.first)) → s.first ≡ t.first
      by (inl e) = e
      by (inr (inl l)) = absurd (first_no_lower lines drawn ps vs ws segs tegs one two i s t same at bt l)
      by (inr (inr l)) = absurd (first_no_lower lines drawn ps ws vs tegs segs two one i t s (turned segs tegs i same) bt at l)

  second_same : (i : ℕ) (s t : Seg) → AgreeBefore segs tegs i → slice_get segs i ≡ Some s → slice_get tegs i ≡ Some t → s.first ≡ t.first → s.second ≡ t.second
  second_same i s t same at bt e = by (cases_order s.second t.second)
    where
      by : (s.second ≡ t.second) ⊎ ((s.second < t.second) ⊎ (t.second < s.second)) → s.second ≡ t.second
      by (inl f) = f
      by (inr (inl l)) = absurd (second_no_lower lines drawn ps vs ws segs tegs one two i s t same at bt e l)
      by (inr (inr l)) = absurd (second_no_lower lines drawn ps ws vs tegs segs two one i t s (turned segs tegs i same) bt at (sym e) l)

  seg_same : (i : ℕ) (s t : Seg) → AgreeBefore segs tegs i → slice_get segs i ≡ Some s → slice_get tegs i ≡ Some t → s ≡ t
  seg_same i s t same at bt =
      let p = piece_at lines drawn ps vs segs one i s at in
      let first = first_same i s t same at bt in
      seg_fields lines drawn ps vs ws segs tegs one two p.0 s t (one.segs_are.each i p.0 s p.1 at) (two.segs_are.each i p.0 t p.1 bt) first (second_same i s t same at bt first)

  agree : (i : ℕ) → AgreeBefore segs tegs i
  agree zero j s t l at bt = absurd (omega arith)
  agree (suc i) j s t l at bt =
      ⊎_elim
      (λ k. agree i j s t k at bt)
      (λ k.
      let e : j ≡ i = omega arith in
      seg_same i s t (agree i) (subst (λ (n : ℕ). slice_get segs n ≡ Some s) e at) (subst (λ (n : ℕ). slice_get tegs n ≡ Some t) e bt)
      )
      (cases_lt j i)

  pub segs_same : segs ≡ tegs
  segs_same =
      let m = one.segs_are.many in
      let k = two.segs_are.many in
      same_lists segs tegs (m ∙ sym k) (λ i s t at bt. agree (suc i) i s t (omega arith) at bt)

  -- each vertex of the first list stands in the second
  shared : (n : ℕ) (v : Vertex) → slice_get vs n ≡ Some v → slice_get ws n ≡ Some v
  shared n v at = by (cases_lt n (length drawn))
    where
      back : IsShared vs ws n → slice_get ws n ≡ Some v
      back (w, f, g) = g ∙ sym f ∙ at

      by : (n < length drawn) ⊎ (length drawn ≤ n) → slice_get ws n ≡ Some v
      by (inl l) = back (drawn_shared lines drawn ps vs ws segs tegs one two n l)
      by (inr l) =
          let e = one.added.ends n l (slice_get_within vs n v at) in
          back
          (seg_shared lines drawn ps vs ws segs tegs one two e.0 n e.1 e.1 e.2 (ap (λ (xs : List Seg). slice_get xs e.0) (sym segs_same) ∙ e.2) refl e.3)

module _ (lines : List Edge) (drawn : List Vertex) (ps : List Piece) (vs ws : List Vertex) (segs tegs : List Seg)
    (one : IsNumbering lines drawn ps vs segs) (two : IsNumbering lines drawn ps ws tegs) where
  pub vertices_same : vs ≡ ws
  vertices_same =
      let there = shared lines drawn ps vs ws segs tegs one two in
      let back = shared lines drawn ps ws vs tegs segs two one in
      let a = no_longer vs ws there in
      let b = no_longer ws vs back in
      same_lists vs ws (omega arith) (λ i x y at bt. let e : Some x ≡ Some y = sym (there i x at) ∙ bt in let f : x ≡ y = cc in f)
