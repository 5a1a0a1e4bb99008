-- What reaches into a square has a row in one of the square's bands.
use Rattle.std.proofs.Common.{◌≡◌, ℕ, ◌+◌, ◌<◌, ◌≤◌, Bool, true, ◌&&◌, ◌||◌, ⊎_elim, ℤ, pos, ◌+ℤ◌, ◌-ℤ◌, ◌≤ℤ◌, arith}
use Rattle.std.specs.Prelude.{int_lt}
use Rattle.std.specs.Int.{int_min, int_max}
use Rattle.std.proofs.lemmas.Int.{ints, clamps}
use Rattle.lump_records.specs.declared.records.Vertex.{Vertex}
use Rattle.map_plane.specs.declared.places.PlacedLine.{PlacedLine}
use Rattle.map_plane.specs.Bands.{is_in_band, IsBandOf}
use Rattle.map_plane.specs.Squares.{reaches_into, square_corners, runs_between, cuts_square, is_within, squares_overlap}
use Rattle.map_plane.proofs.BandLemmas.{row_in_band, band_between}
use Rattle.map_plane.proofs.Tests.{and_both, both, or_either, lt_says, lt_is}

-- a span that reaches into another one has its least number below that one's end, and its greatest above its begin
starts_below : (a b c : ℤ) → (int_lt a c || int_lt b c) ≡ true → int_min a b ≤ℤ c
starts_below a b c h =
    ⊎_elim (λ e. let k = lt_says a c e in omega (arith, ints, clamps)) (λ e. let k = lt_says b c e in omega (arith, ints, clamps)) (or_either (int_lt a c) (int_lt b c) h)

ends_above : (a b c : ℤ) → (int_lt c a || int_lt c b) ≡ true → c ≤ℤ int_max a b
ends_above a b c h =
    ⊎_elim (λ e. let k = lt_says c a e in omega (arith, ints, clamps)) (λ e. let k = lt_says c b e in omega (arith, ints, clamps)) (or_either (int_lt c a) (int_lt c b) h)

module _ (first last : ℕ) (low high : ℤ) (f : IsBandOf low first) (g : IsBandOf high last) where
  -- a line whose rows reach into those from low to high
  rows_in_band : (l : PlacedLine) (c d : ℤ) → low ≤ℤ c → d ≤ℤ high → c ≤ℤ d → int_min l.from.y l.to.y ≤ℤ d → c ≤ℤ int_max l.from.y l.to.y
      → (b : ℕ) × (first ≤ b) × (b < last + 1) × (is_in_band b l ≡ true)
  rows_in_band l c d below above order up down =
      let y = int_max (int_min l.from.y l.to.y) c in
      let at = band_between first last low y high f g (omega (arith, ints, clamps)) (omega (arith, ints, clamps)) in
      (at.0, at.1, at.2, row_in_band l y at.0 (omega (arith, ints, clamps)) (omega (arith, ints, clamps)) at.3)

  -- a line that reaches into a square
  pub cuts_in_band : (l : PlacedLine) (p : Vertex) (r : ℕ) → low ≤ℤ (p.y -ℤ pos r) → (p.y +ℤ pos r) ≤ℤ high → cuts_square p r l ≡ true
      → (b : ℕ) × (first ≤ b) × (b < last + 1) × (is_in_band b l ≡ true)
  unfolding cuts_square reaches_into
  cuts_in_band l p r below above h =
      let boxes = and_both (reaches_into l.from.x l.to.x p.x r && reaches_into l.from.y l.to.y p.y r) (runs_between l (square_corners p r)) h in
      let rows = and_both (reaches_into l.from.x l.to.x p.x r) (reaches_into l.from.y l.to.y p.y r) boxes.0 in
      let ends =
      and_both (int_lt l.from.y (p.y +ℤ pos r) || int_lt l.to.y (p.y +ℤ pos r)) (int_lt (p.y -ℤ pos r) l.from.y || int_lt (p.y -ℤ pos r) l.to.y) rows.1 in
      rows_in_band l (p.y -ℤ pos r) (p.y +ℤ pos r) below above (omega (arith, ints)) (starts_below l.from.y l.to.y (p.y +ℤ pos r) ends.0)
      (ends_above l.from.y l.to.y (p.y -ℤ pos r) ends.1)

  -- a line that begins at the middle of a square that overlaps another one
  pub overlaps_in_band : (l : PlacedLine) (p : Vertex) (r : ℕ) → low ≤ℤ (p.y -ℤ pos r) → (p.y +ℤ pos r) ≤ℤ high → squares_overlap r p l.from ≡ true
      → (b : ℕ) × (first ≤ b) × (b < last + 1) × (is_in_band b l ≡ true)
  unfolding squares_overlap is_within
  overlaps_in_band l p r below above h =
      let two = and_both (is_within r p.x l.from.x) (is_within r p.y l.from.y) h in
      let near = and_both (int_lt p.y (l.from.y +ℤ pos r)) (int_lt l.from.y (p.y +ℤ pos r)) two.1 in
      let up = lt_says p.y (l.from.y +ℤ pos r) near.0 in
      let down = lt_says l.from.y (p.y +ℤ pos r) near.1 in
      let at = band_between first last low l.from.y high f g (omega (arith, ints)) (omega (arith, ints)) in
      (at.0, at.1, at.2, row_in_band l l.from.y at.0 (omega (arith, ints, clamps)) (omega (arith, ints, clamps)) at.3)

within_more : (r s : ℕ) (a b : ℤ) → r ≤ s → is_within r a b ≡ true → is_within s a b ≡ true
unfolding is_within
within_more r s a b more h =
    let two = and_both (int_lt a (b +ℤ pos r)) (int_lt b (a +ℤ pos r)) h in
    let up = lt_says a (b +ℤ pos r) two.0 in
    let down = lt_says b (a +ℤ pos r) two.1 in
    both (int_lt a (b +ℤ pos s)) (int_lt b (a +ℤ pos s)) (lt_is a (b +ℤ pos s) (omega (arith, ints))) (lt_is b (a +ℤ pos s) (omega (arith, ints)))

-- squares that overlap still do if they grow
pub overlap_more : (r s : ℕ) (p q : Vertex) → r ≤ s → squares_overlap r p q ≡ true → squares_overlap s p q ≡ true
unfolding squares_overlap
overlap_more r s p q more h =
    let two = and_both (is_within r p.x q.x) (is_within r p.y q.y) h in
    both (is_within s p.x q.x) (is_within s p.y q.y) (within_more r s p.x q.x more two.0) (within_more r s p.y q.y more two.1)
