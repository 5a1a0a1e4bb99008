-- The rows of one column that a line touches follow one another.
use Rattle.std.proofs.Common.{◌≡◌, ◌⊎◌, inl, inr, ℕ, ◌+◌, ◌-◌, ◌*◌, ◌≤◌, ◌<◌, [], ◌∷◌, arith}
use Rattle.std.proofs.lemmas.Int.{ints, by_lt_z}
use Rattle.std.specs.Prelude.{◌↔◌, ℤ, pos, ◌+ℤ◌, ◌-ℤ◌, ◌*ℤ◌, ◌≤ℤ◌, ◌<ℤ◌}
use Rattle.lump_records.specs.declared.records.Vertex.{Vertex}
use Rattle.tree_blocks.specs.Touch.{MeetsSpan, Touches, SpansMeet}
use Rattle.tree_blocks.specs.Rows.{TouchesRow, IsRowRange, NoRowBelow, NoRowFrom}
use Rattle.tree_blocks.proofs.FilingLemmas.{lt_or_le}
use Rattle.lump_records.proofs.Ring.{by_ring, quotes}
use Rattle.lump_records.proofs.Signs.{linear, times_at_most, product_not_negative, product_positive}
use Rattle.tree_blocks.proofs.TouchLemmas.{touches-touched}

-- a point between two points of a line lies in each strip in which both lie
mixed_span : (n d m e p q a b low : ℤ) → pos 0 ≤ℤ p → pos 0 ≤ℤ q → MeetsSpan n d a b low → MeetsSpan m e a b low → MeetsSpan (p *ℤ n +ℤ q *ℤ m) (p *ℤ d +ℤ q *ℤ e) a b low
mixed_span n d m e p q a b low hp hq s t =
    let l1 = times_at_most p (d *ℤ low) (d *ℤ a +ℤ n *ℤ (b -ℤ a)) hp s.at_least in
    let l2 = times_at_most q (e *ℤ low) (e *ℤ a +ℤ m *ℤ (b -ℤ a)) hq t.at_least in
    let h1 = times_at_most p (d *ℤ a +ℤ n *ℤ (b -ℤ a)) (d *ℤ (low +ℤ pos 128)) hp s.at_most in
    let h2 = times_at_most q (e *ℤ a +ℤ m *ℤ (b -ℤ a)) (e *ℤ (low +ℤ pos 128)) hq t.at_most in
    let k1 : (p *ℤ d +ℤ q *ℤ e) *ℤ low ≡ p *ℤ (d *ℤ low) +ℤ q *ℤ (e *ℤ low) = by_ring (d ∷ e ∷ p ∷ q ∷ low ∷ []) _ _ (search quotes depth 20) (search quotes depth 20) tt in
    let k2 : (p *ℤ d +ℤ q *ℤ e) *ℤ (low +ℤ pos 128)
    ≡ p *ℤ (d *ℤ (low +ℤ pos 128)) +ℤ q *ℤ (e *ℤ (low +ℤ pos 128)) = by_ring (d ∷ e ∷ p ∷ q ∷ low ∷ []) _ _ (search quotes depth 20) (search quotes depth 20) tt in
    let k3 : (p *ℤ d +ℤ q *ℤ e) *ℤ a +ℤ (p *ℤ n +ℤ q *ℤ m) *ℤ (b -ℤ a)
    ≡ p *ℤ (d *ℤ a +ℤ n *ℤ (b -ℤ a)) +ℤ q *ℤ (e *ℤ a +ℤ m *ℤ (b -ℤ a)) = by_ring (n ∷ d ∷ m ∷ e ∷ p ∷ q ∷ a ∷ b ∷ []) _ _ (search quotes depth 30 fits 20000)
    (search quotes depth 30 fits 20000) tt in
    record { at_least = omega (arith, linear); at_most = omega (arith, linear) }

-- a line that touches two blocks of a column touches each block between them
pub between_rows : (a b : Vertex) (left low middle high : ℤ) → low ≤ℤ middle → middle ≤ℤ high → Touches a b left low → Touches a b left high → Touches a b left middle
between_rows a b left low middle high lm mh s t =
    by_lt_z (s.d *ℤ a.y +ℤ s.n *ℤ (b.y -ℤ a.y)) (s.d *ℤ middle) (λ j. by_lt_z (t.d *ℤ (middle +ℤ pos 128)) (t.d *ℤ a.y +ℤ t.n *ℤ (b.y -ℤ a.y)) (λ k. crossing j k) at_last) at_first
  where
    at_first : (s.d *ℤ middle) ≤ℤ (s.d *ℤ a.y +ℤ s.n *ℤ (b.y -ℤ a.y)) → Touches a b left middle
    at_first k =
        let one = s.positive in
        let h = s.upward.at_most in
        let m = times_at_most s.d (low +ℤ pos 128) (middle +ℤ pos 128) (omega (arith, linear)) (omega (arith, linear)) in
        record {
          n = s.n;
          d = s.d;
          from_start = s.from_start;
          to_end = s.to_end;
          positive = s.positive;
          across = s.across;
          upward = record { at_least = k; at_most = omega (arith, linear) };
        }

    at_last : (t.d *ℤ a.y +ℤ t.n *ℤ (b.y -ℤ a.y)) ≤ℤ (t.d *ℤ (middle +ℤ pos 128)) → Touches a b left middle
    at_last k =
        let one = t.positive in
        let l = t.upward.at_least in
        let m = times_at_most t.d middle high (omega (arith, linear)) mh in
        record {
          n = t.n;
          d = t.d;
          from_start = t.from_start;
          to_end = t.to_end;
          positive = t.positive;
          across = t.across;
          upward = record { at_least = omega (arith, linear); at_most = k };
        }

    -- where the line crosses the lower side of the block
    crossing : (s.d *ℤ a.y +ℤ s.n *ℤ (b.y -ℤ a.y)) <ℤ (s.d *ℤ middle) → (t.d *ℤ (middle +ℤ pos 128)) <ℤ (t.d *ℤ a.y +ℤ t.n *ℤ (b.y -ℤ a.y)) → Touches a b left middle
    crossing j k =
        let n = s.n in
        let d = s.d in
        let m = t.n in
        let e = t.d in
        let one = s.positive in
        let two = t.positive in
        let below : ℤ = s.d *ℤ middle -ℤ (s.d *ℤ a.y +ℤ s.n *ℤ (b.y -ℤ a.y)) in
        let above : ℤ = (t.d *ℤ a.y +ℤ t.n *ℤ (b.y -ℤ a.y)) -ℤ t.d *ℤ middle in
        let w = times_at_most t.d middle (middle +ℤ pos 128) (omega (arith, linear)) (omega (arith, linear)) in
        let q : pos 0 <ℤ (s.d *ℤ middle -ℤ (s.d *ℤ a.y +ℤ s.n *ℤ (b.y -ℤ a.y))) = omega (arith, linear) in
        let p : pos 0 <ℤ ((t.d *ℤ a.y +ℤ t.n *ℤ (b.y -ℤ a.y)) -ℤ t.d *ℤ middle) = omega (arith, linear) in
        at_mixed below above q p
        (by_ring (s.n ∷ s.d ∷ t.n ∷ t.d ∷ a.y ∷ b.y ∷ middle ∷ []) _ _ (search quotes depth 40 fits 60000) (search quotes depth 40 fits 60000) tt)
      where
        at_mixed : (q p : ℤ) → pos 0 <ℤ q → pos 0 <ℤ p → (p *ℤ s.d +ℤ q *ℤ t.d) *ℤ a.y +ℤ (p *ℤ s.n +ℤ q *ℤ t.n) *ℤ (b.y -ℤ a.y) ≡ (p *ℤ s.d +ℤ q *ℤ t.d) *ℤ middle → Touches a b left middle
        at_mixed q p hq hp same =
            let one = s.positive in
            let two = t.positive in
            let pn = product_not_negative p s.n (omega (arith, linear)) s.from_start in
            let qn = product_not_negative q t.n (omega (arith, linear)) t.from_start in
            let pd = times_at_most p s.n s.d (omega (arith, linear)) s.to_end in
            let qd = times_at_most q t.n t.d (omega (arith, linear)) t.to_end in
            let p1 = product_positive p s.d hp (omega (arith, linear)) in
            let q1 = product_positive q t.d hq (omega (arith, linear)) in
            let up = times_at_most (p *ℤ s.d +ℤ q *ℤ t.d) middle (middle +ℤ pos 128) (omega (arith, linear)) (omega (arith, linear)) in
            record {
              n = p *ℤ s.n +ℤ q *ℤ t.n;
              d = p *ℤ s.d +ℤ q *ℤ t.d;
              from_start = omega (arith, linear);
              to_end = omega (arith, linear);
              positive = omega (arith, linear);
              across = mixed_span s.n s.d t.n t.d p q a.x b.x left (omega (arith, linear)) (omega (arith, linear)) s.across t.across;
              upward = record { at_least = omega (arith, linear); at_most = omega (arith, linear) };
            }

-- the rows from the least to the greatest are those that the line touches
pub row_range-touches : (a b : Vertex) (left bottom : ℤ) (rows low high : ℕ) → IsRowRange a b left bottom rows low high → (r : ℕ) → r < rows → TouchesRow a b left bottom r ↔ ((low ≤ r) × (r ≤ high))
row_range-touches a b left bottom rows low high i r k = (
  i.within r k,
  λ h.
      let l : low ≤ r = h.0 in
      let u : r ≤ high = h.1 in
      between_rows a b left (bottom +ℤ pos (128 * low)) (bottom +ℤ pos (128 * r)) (bottom +ℤ pos (128 * high)) (omega (arith, ints)) (omega (arith, ints)) i.least i.greatest,
)

-- a line touches no block of a column that its box doesn't meet
pub touches-column : (a b : Vertex) (left bottom : ℤ) → Touches a b left bottom → SpansMeet a.x b.x left
touches-column a b left bottom t = (touches-touched a b left bottom t).boxes.across

-- if a row isn't touched and one below it is, no row above it is touched
pub none_above : (a b : Vertex) (left bottom : ℤ) (low row rows : ℕ) → low ≤ row → TouchesRow a b left bottom low → (TouchesRow a b left bottom row → ⊥) → NoRowFrom a b left bottom row rows
none_above a b left bottom low row rows l t here r h k u =
    here (between_rows a b left (bottom +ℤ pos (128 * low)) (bottom +ℤ pos (128 * row)) (bottom +ℤ pos (128 * r)) (omega (arith, ints)) (omega (arith, ints)) t u)

-- the rows that were found
pub found_rows :
    (a b : Vertex) (left bottom : ℤ) (rows low high : ℕ) → low < rows → TouchesRow a b left bottom low → NoRowBelow a b left bottom low → low ≤ high → high < rows → TouchesRow a b left bottom high
    → NoRowFrom a b left bottom (high + 1) rows → IsRowRange a b left bottom rows low high
found_rows a b left bottom rows low high i t none l h u last =
    record { least = t; greatest = u; among = h; within = λ r k v. (from_low r v (lt_or_le r low), to_high r k v (lt_or_le high r)) }
  where
    from_low : (r : ℕ) → TouchesRow a b left bottom r → (r < low) ⊎ (low ≤ r) → low ≤ r
    from_low r v (inl k) = absurd (none r k v)
    from_low r v (inr k) = k

    to_high : (r : ℕ) → r < rows → TouchesRow a b left bottom r → (high < r) ⊎ (r ≤ high) → r ≤ high
    to_high r k v (inl j) = absurd (last r (omega arith) k v)
    to_high r k v (inr j) = j

-- if a row isn't touched and the next one is, no row below it is touched
pub none_below : (a b : Vertex) (left bottom : ℤ) (low : ℕ) → TouchesRow a b left bottom low → (TouchesRow a b left bottom (low - 1) → ⊥) → NoRowBelow a b left bottom low
none_below a b left bottom low t here r h u =
    here (between_rows a b left (bottom +ℤ pos (128 * r)) (bottom +ℤ pos (128 * (low - 1))) (bottom +ℤ pos (128 * low)) (omega (arith, ints)) (omega (arith, ints)) u t)

-- the least row isn't above the greatest
pub rows_rise : (a b : Vertex) (left bottom : ℤ) (rows low high : ℕ) → IsRowRange a b left bottom rows low high → low ≤ high
rows_rise a b left bottom rows low high r = (r.within high r.among r.greatest).0
