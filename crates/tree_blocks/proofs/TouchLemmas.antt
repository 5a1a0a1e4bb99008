-- The touch theorem: the test by box and corners holds exactly if a line touches a block.
use Rattle.std.proofs.Common.{◌≡◌, refl, inl, inr, [], ◌∷◌, arith}
use Rattle.std.proofs.lemmas.Int.{ints}
use Rattle.std.specs.Prelude.{ℤ, pos, ◌+ℤ◌, ◌-ℤ◌, ◌*ℤ◌, ◌≤ℤ◌, ◌<ℤ◌}
use Rattle.lump_records.specs.declared.records.Vertex.{Vertex}
use Rattle.std.specs.Prelude.{All, ◌↔◌, Bool, true, false, not}
use Rattle.std.proofs.lemmas.List.Elements.{All-nil, All-cons, All-head, All-tail}
use Rattle.lump_records.specs.Plane.{ray_between, IsOnRight, IsOnLeft}
use Rattle.std.specs.Prelude.{FitsSigned}
use Rattle.std.specs.Int.{w16, w32}
use Rattle.tree_blocks.specs.Touch.{MeetsSpan, Touches, SpansMeet, BoxesMeet, CornersParted, IsBlockPlace, block_corners}
use Rattle.tree_blocks.proofs.SquareLemmas.{Meets, Parted, Reaches, corner, reached_meets, reached_parted, test_reaches}
use Rattle.lump_records.proofs.Ring.{by_ring, quotes}
use Rattle.lump_records.proofs.Signs.{linear}

-- above 0 if the place (x, y) lies on the right of the line from a to b, below 0 if it lies on the left
abbrev pub side_value : Vertex → Vertex → ℤ → ℤ → ℤ
side_value a b x y = (b.y -ℤ a.y) *ℤ (x -ℤ a.x) -ℤ (b.x -ℤ a.x) *ℤ (y -ℤ a.y)

-- neither all above 0 nor all below 0
pub record Straddle (k l m n : ℤ) : Type 0 where
  pub not_all_above : pos 0 <ℤ k → pos 0 <ℤ l → pos 0 <ℤ m → pos 0 <ℤ n → ⊥
  pub not_all_below : k <ℤ pos 0 → l <ℤ pos 0 → m <ℤ pos 0 → n <ℤ pos 0 → ⊥

abbrev pub CornersStraddle : Vertex → Vertex → ℤ → ℤ → Type 0
CornersStraddle a b left bottom =
    Straddle (side_value a b left bottom) (side_value a b (left +ℤ pos 128) bottom) (side_value a b left (bottom +ℤ pos 128)) (side_value a b (left +ℤ pos 128) (bottom +ℤ pos 128))

-- the closed boxes meet, and the corners don't all lie strictly on the same side
pub record IsTouched (a b : Vertex) (left bottom : ℤ) : Type 0 where
  pub boxes : BoxesMeet a b left bottom
  pub corners : CornersStraddle a b left bottom

-- ---- the same for a drawn line and a block
value_shift : (a b : Vertex) (left bottom p q : ℤ) → side_value a b (left +ℤ p) (bottom +ℤ q) ≡ corner (a.x -ℤ left) (a.y -ℤ bottom) (b.x -ℤ a.x) (b.y -ℤ a.y) p q
value_shift a b left bottom p q = by_ring (a.x ∷ a.y ∷ b.x ∷ b.y ∷ left ∷ bottom ∷ p ∷ q ∷ []) _ _ (search quotes depth 30 fits 20000) (search quotes depth 30 fits 20000) tt

lower_left : (a b : Vertex) (left bottom : ℤ) → side_value a b left bottom ≡ corner (a.x -ℤ left) (a.y -ℤ bottom) (b.x -ℤ a.x) (b.y -ℤ a.y) (pos 0) (pos 0)
lower_left a b left bottom = by_ring (a.x ∷ a.y ∷ b.x ∷ b.y ∷ left ∷ bottom ∷ []) _ _ (search quotes depth 30 fits 20000) (search quotes depth 30 fits 20000) tt

lower_right : (a b : Vertex) (left bottom : ℤ) → side_value a b (left +ℤ pos 128) bottom ≡ corner (a.x -ℤ left) (a.y -ℤ bottom) (b.x -ℤ a.x) (b.y -ℤ a.y) (pos 128) (pos 0)
lower_right a b left bottom = by_ring (a.x ∷ a.y ∷ b.x ∷ b.y ∷ left ∷ bottom ∷ []) _ _ (search quotes depth 30 fits 20000) (search quotes depth 30 fits 20000) tt

upper_left : (a b : Vertex) (left bottom : ℤ) → side_value a b left (bottom +ℤ pos 128) ≡ corner (a.x -ℤ left) (a.y -ℤ bottom) (b.x -ℤ a.x) (b.y -ℤ a.y) (pos 0) (pos 128)
upper_left a b left bottom = by_ring (a.x ∷ a.y ∷ b.x ∷ b.y ∷ left ∷ bottom ∷ []) _ _ (search quotes depth 30 fits 20000) (search quotes depth 30 fits 20000) tt

meets_in : (a b low : ℤ) → SpansMeet a b low → Meets (pos 128) (a -ℤ low) (b -ℤ a)
meets_in a b low m =
    record {
      not_below = elim m.not_below [ inl k ↦ inl (omega (arith, linear)) | inr k ↦ inr (omega (arith, linear)) ];
      not_above = elim m.not_above [ inl k ↦ inl (omega (arith, linear)) | inr k ↦ inr (omega (arith, linear)) ];
    }

meets_out : (a b low : ℤ) → Meets (pos 128) (a -ℤ low) (b -ℤ a) → SpansMeet a b low
meets_out a b low m =
    record {
      not_below = elim m.not_below [ inl k ↦ inl (omega (arith, linear)) | inr k ↦ inr (omega (arith, linear)) ];
      not_above = elim m.not_above [ inl k ↦ inl (omega (arith, linear)) | inr k ↦ inr (omega (arith, linear)) ];
    }

span_out : (n d a b low : ℤ) → MeetsSpan n d a b low → (pos 0 ≤ℤ (d *ℤ (a -ℤ low) +ℤ n *ℤ (b -ℤ a))) × ((d *ℤ (a -ℤ low) +ℤ n *ℤ (b -ℤ a)) ≤ℤ (d *ℤ pos 128))
span_out n d a b low m =
    let l = m.at_least in
    let h = m.at_most in
    let e1 : d *ℤ (a -ℤ low) +ℤ n *ℤ (b -ℤ a) ≡ d *ℤ a +ℤ n *ℤ (b -ℤ a) -ℤ d *ℤ low = by_ring (n ∷ d ∷ a ∷ b ∷ low ∷ []) _ _ (search quotes depth 20) (search quotes depth 20) tt in
    let e2 : d *ℤ (low +ℤ pos 128) ≡ d *ℤ low +ℤ d *ℤ pos 128 = by_ring (d ∷ low ∷ []) _ _ (search quotes depth 20) (search quotes depth 20) tt in
    (omega (arith, linear), omega (arith, linear))

span_in : (n d a b low : ℤ) → pos 0 ≤ℤ (d *ℤ (a -ℤ low) +ℤ n *ℤ (b -ℤ a)) → (d *ℤ (a -ℤ low) +ℤ n *ℤ (b -ℤ a)) ≤ℤ (d *ℤ pos 128) → MeetsSpan n d a b low
span_in n d a b low l h =
    let e1 : d *ℤ (a -ℤ low) +ℤ n *ℤ (b -ℤ a) ≡ d *ℤ a +ℤ n *ℤ (b -ℤ a) -ℤ d *ℤ low = by_ring (n ∷ d ∷ a ∷ b ∷ low ∷ []) _ _ (search quotes depth 20) (search quotes depth 20) tt in
    let e2 : d *ℤ (low +ℤ pos 128) ≡ d *ℤ low +ℤ d *ℤ pos 128 = by_ring (d ∷ low ∷ []) _ _ (search quotes depth 20) (search quotes depth 20) tt in
    record { at_least = omega (arith, linear); at_most = omega (arith, linear) }

pub touched-touches : (a b : Vertex) (left bottom : ℤ) → IsTouched a b left bottom → Touches a b left bottom
touched-touches a b left bottom t =
    let e1 = lower_left a b left bottom in
    let e2 = lower_right a b left bottom in
    let e3 = upper_left a b left bottom in
    let e4 = value_shift a b left bottom (pos 128) (pos 128) in
    let c = t.corners in
    let p : Parted (pos 128) (a.x -ℤ left) (a.y -ℤ bottom) (b.x -ℤ a.x) (b.y -ℤ a.y) =
    record {
      not_all_right = λ k l m n. c.not_all_above (omega (arith, linear)) (omega (arith, linear)) (omega (arith, linear)) (omega (arith, linear));
      not_all_left = λ k l m n. c.not_all_below (omega (arith, linear)) (omega (arith, linear)) (omega (arith, linear)) (omega (arith, linear));
    } in
    let r = test_reaches (pos 128) (a.x -ℤ left) (a.y -ℤ bottom) (b.x -ℤ a.x) (b.y -ℤ a.y) (omega (arith, ints)) (meets_in a.x b.x left t.boxes.across) (meets_in a.y b.y bottom t.boxes.upward) p in
    record {
      n = r.n;
      d = r.d;
      from_start = r.from_start;
      to_end = r.to_end;
      positive = r.positive;
      across = span_in r.n r.d a.x b.x left r.left r.right;
      upward = span_in r.n r.d a.y b.y bottom r.bottom r.top;
    }

pub touches-touched : (a b : Vertex) (left bottom : ℤ) → Touches a b left bottom → IsTouched a b left bottom
touches-touched a b left bottom t =
    let e1 = lower_left a b left bottom in
    let e2 = lower_right a b left bottom in
    let e3 = upper_left a b left bottom in
    let e4 = value_shift a b left bottom (pos 128) (pos 128) in
    let h = span_out t.n t.d a.x b.x left t.across in
    let v = span_out t.n t.d a.y b.y bottom t.upward in
    let r : Reaches (pos 128) (a.x -ℤ left) (a.y -ℤ bottom) (b.x -ℤ a.x)
    (b.y -ℤ a.y) = record { n = t.n; d = t.d; from_start = t.from_start; to_end = t.to_end; positive = t.positive; left = h.0; right = h.1; bottom = v.0; top = v.1 } in
    let p = reached_parted (pos 128) (a.x -ℤ left) (a.y -ℤ bottom) (b.x -ℤ a.x) (b.y -ℤ a.y) r in
    record {
      boxes =
          record {
            across = meets_out a.x b.x left (reached_meets (pos 128) (a.x -ℤ left) (b.x -ℤ a.x) t.n t.d t.from_start t.to_end t.positive h.0 h.1);
            upward = meets_out a.y b.y bottom (reached_meets (pos 128) (a.y -ℤ bottom) (b.y -ℤ a.y) t.n t.d t.from_start t.to_end t.positive v.0 v.1);
          };
      corners = record {
        not_all_above = λ k l m n. p.not_all_right (omega (arith, linear)) (omega (arith, linear)) (omega (arith, linear)) (omega (arith, linear));
        not_all_below = λ k l m n. p.not_all_left (omega (arith, linear)) (omega (arith, linear)) (omega (arith, linear)) (omega (arith, linear));
      };
    }

-- ---- the corners as a list of points
all_four : {X : Type 0} (P : X → Type 0) (p q r s : X) → P p → P q → P r → P s → All P (p ∷ q ∷ r ∷ s ∷ [])
all_four P p q r s a b c d = All-cons P p (q ∷ r ∷ s ∷ []) a (All-cons P q (r ∷ s ∷ []) b (All-cons P r (s ∷ []) c (All-cons P s [] d (All-nil P))))

-- what is true of each of four corners
record Four {X : Type 0} (P : X → Type 0) (p q r s : X) : Type 0 where
  one : P p
  two : P q
  three : P r
  four : P s

four_of : {X : Type 0} (P : X → Type 0) (p q r s : X) → All P (p ∷ q ∷ r ∷ s ∷ []) → Four P p q r s
four_of P p q r s h =
    let t = All-tail P p (q ∷ r ∷ s ∷ []) h in
    let u = All-tail P q (r ∷ s ∷ []) t in
    let v = All-tail P r (s ∷ []) u in
    record { one = All-head P p (q ∷ r ∷ s ∷ []) h; two = All-head P q (r ∷ s ∷ []) t; three = All-head P r (s ∷ []) u; four = All-head P s [] v }

pub touched_by_parted : (a b : Vertex) (left bottom : ℤ) → BoxesMeet a b left bottom → CornersParted a b left bottom → Touches a b left bottom
touched_by_parted a b left bottom boxes parted =
    touched-touches a b left bottom (record {
      boxes = boxes;
      corners = record {
        not_all_above = λ k l m n. parted.not_all_right (all_four (IsOnRight (ray_between a b)) _ _ _ _ k l m n);
        not_all_below = λ k l m n. parted.not_all_left (all_four (IsOnLeft (ray_between a b)) _ _ _ _ k l m n);
      };
    })

pub parted_by_touch : (a b : Vertex) (left bottom : ℤ) → Touches a b left bottom → CornersParted a b left bottom
parted_by_touch a b left bottom t =
    let c = (touches-touched a b left bottom t).corners in
    record {
      not_all_right = λ h. let f = four_of (IsOnRight (ray_between a b)) _ _ _ _ h in c.not_all_above f.one f.two f.three f.four;
      not_all_left = λ h. let f = four_of (IsOnLeft (ray_between a b)) _ _ _ _ h in c.not_all_below f.one f.two f.three f.four;
    }

-- ---- where the corners of a block lie, if the line's box meets the block
pub block_place : (a b low : ℤ) → SpansMeet a b low → FitsSigned w16 a → FitsSigned w16 b → FitsSigned w32 low → IsBlockPlace low
block_place a b low s fa fb fl =
    record { low = omega (arith, ints); high = elim s.not_below [ inl k ↦ omega (arith, ints) | inr k ↦ omega (arith, ints) ] }

-- ---- the two tests of the corners
pub then_parted :
    (a b : Vertex) (left bottom : ℤ) (p q : Bool) → (p ≡ true) ↔ All (IsOnRight (ray_between a b)) (block_corners left bottom) → (q ≡ true)
    ↔ All (IsOnLeft (ray_between a b)) (block_corners left bottom) → p ≡ false → (not q ≡ true) ↔ CornersParted a b left bottom
then_parted a b left bottom p true r l n = (λ h. cc, λ c. absurd (c.not_all_left (l.0 refl)))
then_parted a b left bottom p false r l n =
    (λ h. record { not_all_right = λ k. let e = r.1 k in cc; not_all_left = λ k. let e = l.1 k in cc }, λ c. refl)

pub else_parted : (a b : Vertex) (left bottom : ℤ) (p : Bool) → (p ≡ true) ↔ All (IsOnRight (ray_between a b)) (block_corners left bottom) → p ≡ true → (not p ≡ true) ↔ CornersParted a b left bottom
else_parted a b left bottom p r n = (λ h. cc, λ c. absurd (c.not_all_right (r.0 n)))
