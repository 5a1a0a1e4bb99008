-- The least box of places: of one, of two lists together, and of a list as it grows.
use Rattle.std.proofs.Common.{◌≡◌, refl, sym, ap, ◌∙◌, ℕ, ◌+◌, ◌<◌, ◌≤◌, ◌⊎◌, inl, inr, ⊎_elim, List, ◌++◌, length, Option, Some, None, option_map, arith, slice_get}
use Rattle.std.proofs.lemmas.Bool.{cases_lt}
use Rattle.std.proofs.lemmas.Option.{slice_get_within, slice_get-map}
use Rattle.std.specs.Prelude.{ℤ, ◌≤ℤ◌, FitsSigned}
use Rattle.std.specs.Int.{w16}
use Rattle.std.proofs.lemmas.Int.{to_z-of_z}
use mir.Val.{to_z, of_z}
use Rattle.lump_records.specs.declared.records.Vertex.{Vertex}
use Rattle.lump_records.specs.declared.records.Bounds.{Bounds}
use Rattle.lump_records.proofs.Signs.{linear}
use Rattle.tree_pieces.specs.declared.edge.Edge.{Edge}
use Rattle.tree_pieces.specs.declared.piece.Piece.{Piece}
use Rattle.tree_pieces.specs.Nodes.{IsLeastBox}
use Rattle.tree_nodes.specs.TreeLists.{IsEndOf}
use Rattle.tree_pieces.specs.Pieces.{first_end, last_end}
use Rattle.tree_choice.specs.Columns.{AreEnds}
use Rattle.tree_nodes.specs.Corners.{IsBoxAt, IsJoined, IsEither, StandsInOne, StandsBefore}
use Rattle.tree_nodes.proofs.Places.{get_left, get_right, get_cases}

at_most : (a b c : ℤ) → a ≤ℤ b → b ≤ℤ c → a ≤ℤ c
at_most a b c h k = omega (arith, linear)

equal_most : (a b : ℤ) → a ≡ b → a ≤ℤ b
equal_most a b h = omega (arith, linear)

-- the box of one place
pub one_box : (b : Bounds) (v : Vertex) → IsBoxAt b v → IsLeastBox b (λ w. w ≡ v)
one_box b v h = record {
  inside = λ w e. let x = ap (λ (u : Vertex). u.x) e in let y =
      ap (λ (u : Vertex). u.y) e in (
        equal_most b.left w.x (h.left ∙ sym x),
        equal_most w.x b.right (x ∙ sym h.right),
        equal_most b.bottom w.y (h.bottom ∙ sym y),
        equal_most w.y b.top (y ∙ sym h.top),
      );
  left = (v, refl, sym h.left);
  right = (v, refl, sym h.right);
  bottom = (v, refl, sym h.bottom);
  top = (v, refl, sym h.top);
}

-- the least box that holds two least boxes
pub joined_box : (a b c : Bounds) (P Q : Vertex → Type 0) → IsLeastBox a P → IsLeastBox b Q → IsJoined a b c → IsLeastBox c (λ v. P v ⊎ Q v)
joined_box a b c P Q h k j = record {
  inside = λ v. ⊎_elim
      (λ p. let i = h.inside v p in (
        at_most c.left a.left v.x j.left_first i.0,
        at_most v.x a.right c.right i.1 j.right_first,
        at_most c.bottom a.bottom v.y j.bottom_first i.2,
        at_most v.y a.top c.top i.3 j.top_first,
      ))
      (λ q. let i = k.inside v q in (
        at_most c.left b.left v.x j.left_second i.0,
        at_most v.x b.right c.right i.1 j.right_second,
        at_most c.bottom b.bottom v.y j.bottom_second i.2,
        at_most v.y b.top c.top i.3 j.top_second,
      ));
  left = ⊎_elim (λ e. (h.left.0, inl h.left.1, h.left.2 ∙ sym e)) (λ e. (k.left.0, inr k.left.1, k.left.2 ∙ sym e)) j.left;
  right = ⊎_elim (λ e. (h.right.0, inl h.right.1, h.right.2 ∙ sym e)) (λ e. (k.right.0, inr k.right.1, k.right.2 ∙ sym e)) j.right;
  bottom = ⊎_elim (λ e. (h.bottom.0, inl h.bottom.1, h.bottom.2 ∙ sym e)) (λ e. (k.bottom.0, inr k.bottom.1, k.bottom.2 ∙ sym e)) j.bottom;
  top = ⊎_elim (λ e. (h.top.0, inl h.top.1, h.top.2 ∙ sym e)) (λ e. (k.top.0, inr k.top.1, k.top.2 ∙ sym e)) j.top;
}

-- a box is the least one of places that are the same
pub same_box : (b : Bounds) (P Q : Vertex → Type 0) → ((v : Vertex) → P v → Q v) → ((v : Vertex) → Q v → P v) → IsLeastBox b P → IsLeastBox b Q
same_box b P Q f g h = record {
  inside = λ v q. h.inside v (g v q);
  left = (h.left.0, f h.left.0 h.left.1, h.left.2);
  right = (h.right.0, f h.right.0 h.right.1, h.right.2);
  bottom = (h.bottom.0, f h.bottom.0 h.bottom.1, h.bottom.2);
  top = (h.top.0, f h.top.0 h.top.1, h.top.2);
}

-- the ends of two lists of pieces
pub joined_pieces : (lines : List Edge) (a b c : Bounds) (ps qs : List Piece) → IsLeastBox a (IsEndOf lines ps)
    → IsLeastBox b (IsEndOf lines qs) → IsJoined a b c → IsLeastBox c (IsEndOf lines (ps ++ qs))
joined_pieces lines a b c ps qs h k j = same_box c (λ v. IsEndOf lines ps v ⊎ IsEndOf lines qs v) (IsEndOf lines (ps ++ qs)) to from (joined_box a b c (IsEndOf lines ps) (IsEndOf lines qs) h k j)
  where
    to : (v : Vertex) → IsEndOf lines ps v ⊎ IsEndOf lines qs v → IsEndOf lines (ps ++ qs) v
    to v = ⊎_elim (λ e. (e.0, e.1, get_left ps qs e.0 e.1 e.2, e.3)) (λ e. (length ps + e.0, e.1, get_right ps qs (length ps + e.0) e.0 e.1 refl e.2, e.3))

    from : (v : Vertex) → IsEndOf lines (ps ++ qs) v → IsEndOf lines ps v ⊎ IsEndOf lines qs v
    from v e = ⊎_elim (λ s. inl (e.0, e.1, s, e.3)) (λ s. inr (s.0, e.1, s.2, e.3)) (get_cases ps qs e.0 e.1 e.2)

-- ---- two columns as they are read
-- what stands in two columns at one place
this_two : (fs ls : List Vertex) (f l v : Vertex) (n j : ℕ) → j ≡ n → slice_get fs n ≡ Some f → slice_get ls n ≡ Some l
    → (slice_get fs j ≡ Some v) ⊎ (slice_get ls j ≡ Some v) → IsEither f l v
this_two fs ls f l v n j z at beside = ⊎_elim
    (λ s. let t = ap (slice_get fs) z in inl (let same : v ≡ f = cc in same))
    (λ s. let t = ap (slice_get ls) z in inr (let same : v ≡ l = cc in same))

module _ (fs ls : List Vertex) where
  pub first_two : (b : Bounds) (f l : Vertex) → slice_get fs 0 ≡ Some f → slice_get ls 0 ≡ Some l → IsLeastBox b (IsEither f l) → IsLeastBox b (StandsBefore fs ls 0)
  first_two b f l at beside h = same_box b (IsEither f l) (StandsBefore fs ls 0) to from h
    where
      to : (v : Vertex) → IsEither f l v → StandsBefore fs ls 0 v
      to v e = (0, inl refl, ⊎_elim (λ (i : v ≡ f). inl (at ∙ ap Some (sym i))) (λ (i : v ≡ l). inr (beside ∙ ap Some (sym i))) e)

      here : (v : Vertex) (j : ℕ) → j ≡ 0 → (slice_get fs j ≡ Some v) ⊎ (slice_get ls j ≡ Some v) → IsEither f l v
      here v j z s = this_two fs ls f l v 0 j z at beside s

      from : (v : Vertex) → StandsBefore fs ls 0 v → IsEither f l v
      from v e = here v e.0 (⊎_elim (λ (z : e.0 ≡ 0). z) (λ (k : e.0 < 0). absurd (omega arith)) e.1) e.2

  pub next_two : (a b c : Bounds) (n : ℕ) (f l : Vertex) → slice_get fs n ≡ Some f → slice_get ls n ≡ Some l → IsLeastBox a (StandsBefore fs ls n)
      → IsLeastBox b (IsEither f l) → IsJoined a b c → IsLeastBox c (StandsBefore fs ls (n + 1))
  next_two a b c n f l at beside h k j =
      same_box c (λ v. StandsBefore fs ls n v ⊎ IsEither f l v) (StandsBefore fs ls (n + 1)) to from
      (joined_box a b c (StandsBefore fs ls n) (IsEither f l) h k j)
    where
      now : (v : Vertex) → IsEither f l v → StandsBefore fs ls (n + 1) v
      now v e = (n, inr (omega arith), ⊎_elim (λ (i : v ≡ f). inl (at ∙ ap Some (sym i))) (λ (i : v ≡ l). inr (beside ∙ ap Some (sym i))) e)

      to : (v : Vertex) → StandsBefore fs ls n v ⊎ IsEither f l v → StandsBefore fs ls (n + 1) v
      to v = ⊎_elim (λ e. (e.0, ⊎_elim (λ z. inl z) (λ l. inr (omega arith)) e.1, e.2)) (now v)

      from : (v : Vertex) → StandsBefore fs ls (n + 1) v → StandsBefore fs ls n v ⊎ IsEither f l v
      from v e = ⊎_elim (λ z. inl (e.0, inl z, e.2))
          (λ below. ⊎_elim (λ m. inl (e.0, inr m, e.2)) (λ m. inr (let same : e.0 ≡ n = omega arith in this_two fs ls f l v n e.0 same at beside e.2)) (cases_lt e.0 n)) e.1

  pub all_two : (b : Bounds) (n : ℕ) → length fs ≤ n → length ls ≡ length fs → IsLeastBox b (StandsBefore fs ls n) → IsLeastBox b (StandsInOne fs ls)
  all_two b n long beside h =
      same_box b (StandsBefore fs ls n) (StandsInOne fs ls) (λ v e. (e.0, e.2)) (λ v e. (e.0, inr (within v e.0 e.1), e.1)) h
    where
      within : (v : Vertex) (j : ℕ) → (slice_get fs j ≡ Some v) ⊎ (slice_get ls j ≡ Some v) → j < n
      within v j = ⊎_elim (λ s. let w = slice_get_within fs j v s in omega arith) (λ s. let w = slice_get_within ls j v s in omega arith)

-- the columns of a list's ends
pub ends_box : (lines : List Edge) (b : Bounds) (ps : List Piece) (fs ls : List Vertex) → AreEnds lines ps fs ls
    → IsLeastBox b (StandsInOne fs ls) → IsLeastBox b (IsEndOf lines ps)
ends_box lines b ps fs ls ends h = same_box b (StandsInOne fs ls) (IsEndOf lines ps) to from h
  where
    firsts : (j : ℕ) → slice_get fs j ≡ option_map (first_end lines) (slice_get ps j)
    firsts j = ap (λ (x : List Vertex). slice_get x j) ends.firsts_are ∙ slice_get-map (first_end lines) ps j

    lasts : (j : ℕ) → slice_get ls j ≡ option_map (last_end lines) (slice_get ps j)
    lasts j = ap (λ (x : List Vertex). slice_get x j) ends.lasts_are ∙ slice_get-map (last_end lines) ps j

    behind : (end : Piece → Vertex) (v : Vertex) (o : Option Piece) → option_map end o ≡ Some v → (q : Piece) × (o ≡ Some q) × (v ≡ end q)
    behind end v None e = cc
    behind end v (Some q) e = (q, refl, cc)

    to : (v : Vertex) → StandsInOne fs ls v → IsEndOf lines ps v
    to v e = ⊎_elim (λ s. let q = behind (first_end lines) v (slice_get ps e.0) (sym (firsts e.0) ∙ s) in (e.0, q.0, q.1, inl q.2))
        (λ s. let q = behind (last_end lines) v (slice_get ps e.0) (sym (lasts e.0) ∙ s) in (e.0, q.0, q.1, inr q.2)) e.1

    from : (v : Vertex) → IsEndOf lines ps v → StandsInOne fs ls v
    from v e = (
      e.0,
      ⊎_elim (λ i. inl (firsts e.0 ∙ ap (option_map (first_end lines)) e.2 ∙ ap Some (sym i)))
          (λ i. inr (lasts e.0 ∙ ap (option_map (last_end lines)) e.2 ∙ ap Some (sym i))) e.3,
    )

-- ---- numbers of 16 bits that were passed on
-- one side of the box that holds two
pub up_side : (x y m : ℤ) → FitsSigned w16 x → FitsSigned w16 y → FitsSigned w16 m → to_z w16 (of_z w16 x) ≤ℤ m
    → to_z w16 (of_z w16 y) ≤ℤ m → ((m ≡ to_z w16 (of_z w16 x)) ⊎ (m ≡ to_z w16 (of_z w16 y)))
    → (x ≤ℤ to_z w16 (of_z w16 m)) × (y ≤ℤ to_z w16 (of_z w16 m))
    × ((to_z w16 (of_z w16 m) ≡ x) ⊎ (to_z w16 (of_z w16 m) ≡ y))
up_side x y m f g k h l o =
    let a = to_z-of_z w16 x f in
    let b = to_z-of_z w16 y g in
    let c = to_z-of_z w16 m k in
    (omega (arith, linear), omega (arith, linear), ⊎_elim (λ e. inl (c ∙ e ∙ a)) (λ e. inr (c ∙ e ∙ b)) o)

pub down_side : (x y m : ℤ) → FitsSigned w16 x → FitsSigned w16 y → FitsSigned w16 m → m ≤ℤ to_z w16 (of_z w16 x)
    → m ≤ℤ to_z w16 (of_z w16 y) → ((m ≡ to_z w16 (of_z w16 x)) ⊎ (m ≡ to_z w16 (of_z w16 y)))
    → (to_z w16 (of_z w16 m) ≤ℤ x) × (to_z w16 (of_z w16 m) ≤ℤ y)
    × ((to_z w16 (of_z w16 m) ≡ x) ⊎ (to_z w16 (of_z w16 m) ≡ y))
down_side x y m f g k h l o =
    let a = to_z-of_z w16 x f in
    let b = to_z-of_z w16 y g in
    let c = to_z-of_z w16 m k in
    (omega (arith, linear), omega (arith, linear), ⊎_elim (λ e. inl (c ∙ e ∙ a)) (λ e. inr (c ∙ e ∙ b)) o)
