-- Lines that share a row share a band, so a search of the bands misses none.
use Rattle.std.proofs.Common.{◌≡◌, ℕ, ◌+◌, ◌-◌, ◌/◌, ◌<◌, ◌≤◌, Bool, true, false, cond, ◌&&◌, ◌||◌, List, [], ◌∷◌, filter, fold, count_by, Option, Some, None, refl, sym, ap, ◌∙◌, ◌⊎◌, ⊎_elim, ℤ, pos, negsuc, neg_ℤ, ◌-ℤ◌, ◌≤ℤ◌, not, zero-add, arith}
use Rattle.std.specs.Prelude.{int_le, int_lt, nat_le, ◌==◌}
use Rattle.std.specs.Int.{int_min, int_max}
use Rattle.std.specs.List.{list_any}
use Rattle.std.proofs.lemmas.Bool.{cases_Bool}
use Rattle.std.proofs.lemmas.Int.{ints, clamps, by_lt_z}
use Rattle.std.specs.Ordering.{int_eq}
use Rattle.std.proofs.lemmas.List.Sums.{sum_by-cons}
use Rattle.std.proofs.lemmas.Map.Views.{any-filter_same}
use Rattle.lump_records.specs.declared.records.Vertex.{Vertex}
use Rattle.map_plane.specs.declared.places.PlacedLine.{PlacedLine}
use Rattle.map_plane.specs.Meeting.{is_under, spans_meet, boxes_meet, is_on, side_value_at, share, meets}
use Rattle.map_plane.specs.Nearest.{climbs_past, lies_left, lies_right, is_east, is_nearer, nearer_of, nearest}
use Rattle.map_plane.specs.Outside.{is_on_wall, comes_down, faces, turns_away, is_place_outside}
use Rattle.map_plane.specs.Bands.{band_bottom, band_top, is_in_band, IsBandOf}
use Rattle.map_plane.proofs.Tests.{and_both, or_either, or_left, or_right, or_none, le_says, le_is, lt_says, both, under_says}

-- ---- spans

-- a row between a and b, in the band from c to d
pub under_top : (a b c d y : ℤ) → int_min a b ≤ℤ y → y ≤ℤ d → is_under a b c d ≡ true
unfolding is_under
under_top a b c d y h k =
    by_lt_z a b
    (λ lt. or_left (int_le a c || int_le a d || int_le b c) (int_le b d)
    (or_left (int_le a c || int_le a d) (int_le b c)
    (or_right (int_le a c) (int_le a d) (le_is a d (omega (arith, ints, clamps))))))
    (λ ge. or_right (int_le a c || int_le a d || int_le b c) (int_le b d) (le_is b d (omega (arith, ints, clamps))))

pub under_bottom : (a b c d y : ℤ) → c ≤ℤ y → y ≤ℤ int_max a b → is_under c d a b ≡ true
unfolding is_under
under_bottom a b c d y h k =
    or_left (int_le c a || int_le c b || int_le d a) (int_le d b)
    (or_left (int_le c a || int_le c b) (int_le d a)
    (by_lt_z a b
    (λ lt. or_right (int_le c a) (int_le c b) (le_is c b (omega (arith, ints, clamps))))
    (λ ge. or_left (int_le c a) (int_le c b) (le_is c a (omega (arith, ints, clamps))))))

-- a line with a row in a band has its box in it
pub row_in_band : (l : PlacedLine) (y : ℤ) (n : ℕ) → int_min l.from.y l.to.y ≤ℤ y → y ≤ℤ int_max l.from.y l.to.y → IsBandOf y n → is_in_band n l ≡ true
unfolding is_in_band spans_meet
row_in_band l y n low high band =
    both (is_under l.from.y l.to.y (band_bottom n) (band_top n)) (is_under (band_bottom n) (band_top n) l.from.y l.to.y)
    (under_top l.from.y l.to.y (band_bottom n) (band_top n) y low band.high)
    (under_bottom l.from.y l.to.y (band_bottom n) (band_top n) y band.low high)

-- the first common row of two spans
pub record Begins (a b c d y : ℤ) : Type 0 where
  pub first_low : int_min a b ≤ℤ y
  pub first_high : y ≤ℤ int_max a b
  pub second_low : int_min c d ≤ℤ y
  pub second_high : y ≤ℤ int_max c d

pub spans_begin : (a b c d : ℤ) → spans_meet a b c d ≡ true → (y : ℤ) × Begins a b c d y
unfolding spans_meet
spans_begin a b c d h =
    let two = and_both (is_under a b c d) (is_under c d a b) h in
    let up : int_min a b ≤ℤ int_max c d = under_says a b c d two.0 in
    let down : int_min c d ≤ℤ int_max a b = under_says c d a b two.1 in (
      int_max (int_min a b) (int_min c d),
      record {
        first_low = omega (arith, ints, clamps);
        first_high = omega (arith, ints, clamps);
        second_low = omega (arith, ints, clamps);
        second_high = omega (arith, ints, clamps);
      },
    )

-- each row from the first band's lowest to the last band's highest is in one of these bands
row_between : (first last r : ℕ) (low y high : ℤ) → IsBandOf low first → IsBandOf high last → low ≤ℤ y → y ≤ℤ high → y ≡ pos r -ℤ pos 32768
    → (b : ℕ) × (first ≤ b) × (b < last + 1) × IsBandOf y b
row_between first last r low y high f l below above is = (
  r / 128,
  omega (arith, ints, f.low, f.high),
  omega (arith, ints, l.low, l.high),
  record {
    among = omega (arith, ints, l.low, l.high, l.among);
    low = omega (arith, ints);
    high = omega (arith, ints);
  },
)

-- the row's distance from the lowest one
row_of : (y : ℤ) → neg_ℤ (pos 32768) ≤ℤ y → (r : ℕ) × (y ≡ pos r -ℤ pos 32768)
row_of (pos n) h = (n + 32768, omega (arith, ints))
row_of (negsuc n) h = (32767 - n, omega (arith, ints))

pub band_between : (first last : ℕ) (low y high : ℤ) → IsBandOf low first → IsBandOf high last → low ≤ℤ y → y ≤ℤ high
    → (b : ℕ) × (first ≤ b) × (b < last + 1) × IsBandOf y b
band_between first last low y high f l below above =
    let r = row_of y (omega (arith, ints, f.low)) in
    row_between first last r.0 low y high f l below above r.1

-- ---- lines that meet

module _ {X : Type 0} (t : X → Bool) where
  any_kept : (p : Bool) (x : X) (fs xs : List X) → (list_any t fs ≡ true → list_any t xs ≡ true)
      → list_any t (cond p (x ∷ fs) fs) ≡ true → (t x || list_any t xs) ≡ true
  any_kept true x fs xs more h =
      ⊎_elim (λ a. or_left (t x) (list_any t xs) a) (λ b. or_right (t x) (list_any t xs) (more b)) (or_either (t x) (list_any t fs) h)
  any_kept false x fs xs more h = or_right (t x) (list_any t xs) (more h)

  -- what is found among some of the items is found among all
  pub any_of_filtered : (p : X → Bool) (xs : List X) → list_any t (filter p xs) ≡ true → list_any t xs ≡ true
  any_of_filtered p [] h = h
  any_of_filtered p (x ∷ xs) h = any_kept (p x) x (filter p xs) xs (any_of_filtered p xs) h

  none_kept : (p : Bool) (x : X) (fs : List X) → list_any t (cond p (x ∷ fs) fs) ≡ false → list_any t fs ≡ false
  none_kept true x fs h = or_none (t x) (list_any t fs) h
  none_kept false x fs h = h

  not_here : (p : Bool) (x : X) (fs : List X) → t x ≡ true → p ≡ true → list_any t (cond p (x ∷ fs) fs) ≡ false → ⊥
  not_here p x fs hit kept h =
      let e : true ≡ list_any t (cond p (x ∷ fs) fs) =
      sym (ap (λ q. list_any t (cond q (x ∷ fs) fs)) kept ∙ ap (λ q. q || list_any t fs) hit) in
      cc

  absent : (x : X) (xs : List X) → (t x ≡ true → ⊥) → list_any t xs ≡ false → (t x ≡ true) ⊎ (t x ≡ false) → (t x || list_any t xs) ≡ false
  absent x xs never rest c = ⊎_elim (λ e. absurd (never e)) (λ e. ap (λ q. q || list_any t xs) e ∙ rest) c

  -- nothing is found if no part has it, and each item that would pass lies in a part
  pub none_in_parts : (part : ℕ → X → Bool) (first end : ℕ) (xs : List X)
      → ((x : X) → t x ≡ true → (b : ℕ) × (first ≤ b) × (b < end) × (part b x ≡ true))
      → ((b : ℕ) → first ≤ b → b < end → list_any t (filter (part b) xs) ≡ false) → list_any t xs ≡ false
  none_in_parts part first end [] near none = refl
  none_in_parts part first end (x ∷ xs) near none =
      absent x xs
      (λ e. let w = near x e in not_here (part w.0 x) x (filter (part w.0) xs) e w.3 (none w.0 w.1 w.2))
      (none_in_parts part first end xs near (λ b k j. none_kept (part b x) x (filter (part b) xs) (none b k j)))
      (cases_Bool (t x))

  count_kept : (p : Bool) (x : X) (fs xs : List X) → (t x ≡ true → p ≡ true) → count_by t fs ≡ count_by t xs
      → count_by t (cond p (x ∷ fs) fs) ≡ cond (t x) 1 0 + count_by t xs
  count_kept true x fs xs need same = sum_by-cons (λ y. cond (t y) 1 0) x fs ∙ ap (λ n. cond (t x) 1 0 + n) same
  count_kept false x fs xs need same =
      ⊎_elim
      (λ e. let h = need e in cc)
      (λ e. same ∙ sym (zero-add (count_by t xs)) ∙ ap (λ q. cond q 1 0 + count_by t xs) (sym e))
      (cases_Bool (t x))

  -- a count over some of the items is that over all if each item that counts is among them
  pub count_of_filtered : (p : X → Bool) → ((x : X) → t x ≡ true → p x ≡ true) → (xs : List X) → count_by t (filter p xs) ≡ count_by t xs
  count_of_filtered p need [] = refl
  count_of_filtered p need (x ∷ xs) =
      count_kept (p x) x (filter p xs) xs (need x) (count_of_filtered p need xs) ∙ sym (sum_by-cons (λ y. cond (t y) 1 0) x xs)

-- ---- things in no sector

on_wall_near : (p : Vertex) (n : ℕ) → IsBandOf p.y n → (l : PlacedLine) → is_on_wall p l ≡ true → is_in_band n l ≡ true
unfolding is_on_wall is_on
on_wall_near p n band l h =
    let wall = and_both l.is_wall (int_eq (side_value_at l p) (pos 0) && spans_meet l.from.x l.to.x p.x p.x && spans_meet l.from.y l.to.y p.y p.y) h in
    let box = and_both (int_eq (side_value_at l p) (pos 0) && spans_meet l.from.x l.to.x p.x p.x) (spans_meet l.from.y l.to.y p.y p.y) wall.1 in
    let y = spans_begin l.from.y l.to.y p.y p.y box.1 in
    row_in_band l p.y n (omega (arith, ints, clamps, y.1.first_low, y.1.second_high)) (omega (arith, ints, clamps, y.1.first_high, y.1.second_low)) band

down_near : (p : Vertex) (n : ℕ) → IsBandOf p.y n → (l : PlacedLine) (a b : ℤ) → comes_down p.y a b ≡ true → (int_min l.from.y l.to.y ≡ int_min a b)
    → (int_max l.from.y l.to.y ≡ int_max a b) → is_in_band n l ≡ true
unfolding comes_down
down_near p n band l a b h low high =
    let two = and_both (int_lt p.y a) (int_le b p.y) h in
    let top = lt_says p.y a two.0 in
    let bottom = le_says b p.y two.1 in
    row_in_band l p.y n (rw low (omega (arith, ints, clamps))) (rw high (omega (arith, ints, clamps))) band

faces_near : (p : Vertex) (n : ℕ) → IsBandOf p.y n → (l : PlacedLine) → faces p l ≡ true → is_in_band n l ≡ true
unfolding faces
faces_near p n band l h =
    let two = and_both (l.is_wall && comes_down p.y l.from.y l.to.y) (int_lt (pos 0) (side_value_at l p)) h in
    let down = and_both l.is_wall (comes_down p.y l.from.y l.to.y) two.0 in
    down_near p n band l l.from.y l.to.y down.1 refl refl

turned_near : (p : Vertex) (n : ℕ) → IsBandOf p.y n → (l : PlacedLine) → turns_away p l ≡ true → is_in_band n l ≡ true
unfolding turns_away
turned_near p n band l h =
    let two = and_both (l.is_wall && comes_down p.y l.to.y l.from.y) (int_lt (side_value_at l p) (pos 0)) h in
    let down = and_both l.is_wall (comes_down p.y l.to.y l.from.y) two.0 in
    down_near p n band l l.to.y l.from.y down.1 (omega (arith, ints, clamps)) (omega (arith, ints, clamps))

-- the lines of a place's band determine whether it lies in no sector
pub outside_in_band : (ls : List PlacedLine) (p : Vertex) (n : ℕ) → IsBandOf p.y n → is_place_outside (filter (is_in_band n) ls) p ≡ is_place_outside ls p
unfolding is_place_outside
outside_in_band ls p n band =
    let walls = any-filter_same (is_on_wall p) (is_in_band n) true (on_wall_near p n band) ls in
    let facing = count_of_filtered (faces p) (is_in_band n) (faces_near p n band) ls in
    let turned = count_of_filtered (turns_away p) (is_in_band n) (turned_near p n band) ls in
    λ i. walls i || nat_le (facing i) (turned i)

-- ---- the nearest line to the east

east_near : (p : Vertex) (n : ℕ) → IsBandOf p.y n → (l : PlacedLine) → is_east l p ≡ true → is_in_band n l ≡ true
unfolding is_east climbs_past
east_near p n band l h =
    ⊎_elim
    (λ up. down_near p n band l l.to.y l.from.y up (omega (arith, ints, clamps)) (omega (arith, ints, clamps)))
    (λ level.
    let here : (comes_down p.y l.from.y l.to.y && lies_right l p) ≡ true =
    sym (ap (λ (q : Bool). cond q (lies_left l p) (comes_down p.y l.from.y l.to.y && lies_right l p)) level) ∙ h in
    down_near p n band l l.from.y l.to.y (and_both (comes_down p.y l.from.y l.to.y) (lies_right l p) here).0 refl refl)
    (cases_Bool (comes_down p.y l.to.y l.from.y))

none_past : (q : Bool) (l : PlacedLine) → q ≡ false → cond q (Some l) None ≡ None
none_past true l h = cc
none_past false l h = refl

same_past : (q r : Bool) (l k : PlacedLine) → q ≡ false → cond (q && r) (Some l) (Some k) ≡ Some k
same_past true r l k h = cc
same_past false r l k h = refl

-- a line of another band is no nearer
passed_over : (p : Vertex) (n : ℕ) → IsBandOf p.y n → (best : Option PlacedLine) (l : PlacedLine) → is_in_band n l ≡ false → nearer_of p best l ≡ best
unfolding nearer_of
passed_over p n band best l apart =
    ⊎_elim
    (λ e. let here = east_near p n band l e in cc)
    (λ e. elim best as (λ o. nearer_of p o l ≡ o) [
      | None ↦ none_past (is_east l p) l e
      | Some k ↦ same_past (is_east l p) (is_nearer p l k) l k e
    ])
    (cases_Bool (is_east l p))

fold_kept : {X A : Type 0} (f : A → X → A) (keep : Bool) (a : A) (x : X) (fs xs : List X) → (keep ≡ false → f a x ≡ a)
    → ((b : A) → fold f b fs ≡ fold f b xs) → fold f a (cond keep (x ∷ fs) fs) ≡ fold f (f a x) xs
fold_kept f true a x fs xs skip same = same (f a x)
fold_kept f false a x fs xs skip same = same a ∙ ap (λ b. fold f b xs) (sym (skip refl))

-- a fold over some of the items is that over all if the others change nothing
fold_of_filtered : {X A : Type 0} (f : A → X → A) (keep : X → Bool) → ((a : A) (x : X) → keep x ≡ false → f a x ≡ a)
    → (xs : List X) (a : A) → fold f a (filter keep xs) ≡ fold f a xs
fold_of_filtered f keep skip [] a = refl
fold_of_filtered f keep skip (x ∷ xs) a = fold_kept f (keep x) a x (filter keep xs) xs (skip a x) (λ b. fold_of_filtered f keep skip xs b)

-- the nearest of the lines of a place's band is the nearest of all
pub nearest_in_band : (ls : List PlacedLine) (p : Vertex) (n : ℕ) → IsBandOf p.y n → nearest (filter (is_in_band n) ls) p ≡ nearest ls p
nearest_in_band ls p n band = fold_of_filtered (nearer_of p) (is_in_band n) (passed_over p n band) ls None
