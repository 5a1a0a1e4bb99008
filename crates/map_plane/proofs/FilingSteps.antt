-- A line is added to the bands from that of its lowest row to that of its highest.
use Rattle.std.proofs.Common.{◌≡◌, ℕ, ◌+◌, ◌<◌, ◌≤◌, Bool, true, false, cond, List, [], ◌∷◌, ◌++◌, length, get_or, filter, below_more, zero, suc, refl, sym, ap, subst, ◌∙◌, ◌⊎◌, ⊎_elim, inl, inr, append-nil, arith}
use Rattle.std.specs.Prelude.{replicate}
use Rattle.std.specs.Int.{int_min, int_max}
use Rattle.std.proofs.Math.ListN.{set}
use Rattle.std.proofs.lemmas.Int.{ints, clamps}
use Rattle.std.proofs.lemmas.List.{get_or-replicate, get_or-set_other, get_or-set_same, length-replicate, length-set}
use Rattle.map_plane.specs.declared.places.PlacedLine.{PlacedLine}
use Rattle.map_plane.specs.Meeting.{is_under, spans_meet}
use Rattle.map_plane.specs.Bands.{band_bottom, band_top, is_in_band, IsBandOf, AreBands, FilesLine}
use Rattle.map_plane.proofs.Tests.{and_both, both, under_says}
use Rattle.map_plane.proofs.BandLemmas.{under_top, under_bottom}

-- ---- which bands

-- the line has a row in each band between the two
pub in_bands : (l : PlacedLine) (first last b : ℕ) → IsBandOf (int_min l.from.y l.to.y) first → IsBandOf (int_max l.from.y l.to.y) last → first ≤ b → b ≤ last
    → is_in_band b l ≡ true
unfolding is_in_band spans_meet
in_bands l first last b f g low high =
    both (is_under l.from.y l.to.y (band_bottom b) (band_top b)) (is_under (band_bottom b) (band_top b) l.from.y l.to.y)
    (under_top l.from.y l.to.y (band_bottom b) (band_top b) (int_min l.from.y l.to.y) (omega (arith, ints)) (omega (arith, ints, f.high)))
    (under_bottom l.from.y l.to.y (band_bottom b) (band_top b) (int_max l.from.y l.to.y) (omega (arith, ints, g.low)) (omega (arith, ints)))

none_here : (q : Bool) → (q ≡ true → ⊥) → q ≡ false
none_here true never = absurd (never refl)
none_here false never = refl

-- and no row in the other bands
pub below_bands : (l : PlacedLine) (first b : ℕ) → IsBandOf (int_min l.from.y l.to.y) first → b < first → is_in_band b l ≡ false
unfolding is_in_band spans_meet
below_bands l first b f under = none_here (is_in_band b l)
    (λ h.
    let two = and_both (is_under l.from.y l.to.y (band_bottom b) (band_top b)) (is_under (band_bottom b) (band_top b) l.from.y l.to.y) h in
    let low = under_says l.from.y l.to.y (band_bottom b) (band_top b) two.0 in
    omega (arith, ints, clamps, f.low))

pub above_bands : (l : PlacedLine) (last b : ℕ) → IsBandOf (int_max l.from.y l.to.y) last → last < b → is_in_band b l ≡ false
unfolding is_in_band spans_meet
above_bands l last b f over = none_here (is_in_band b l)
    (λ h.
    let two = and_both (is_under l.from.y l.to.y (band_bottom b) (band_top b)) (is_under (band_bottom b) (band_top b) l.from.y l.to.y) h in
    let low = under_says (band_bottom b) (band_top b) l.from.y l.to.y two.1 in
    omega (arith, ints, clamps, f.high))

-- ---- one line

lt_or_le : (m n : ℕ) → (m < n) ⊎ (n ≤ m)
lt_or_le m zero = inr (omega arith)
lt_or_le zero (suc n) = inl (omega arith)
lt_or_le (suc m) (suc n) = elim (lt_or_le m n) [ inl e ↦ inl (omega arith) | inr e ↦ inr (omega arith) ]

-- the line was added to the bands below `band` that share a row with it, the others stayed
pub record FiledTo (l : PlacedLine) (band : ℕ) (old new : List (List PlacedLine)) : Type 0 where
  pub count : length new ≡ length old
  pub done : (b : ℕ) → b < 512 → b < band → get_or new b [] ≡ get_or old b [] ++ filter (is_in_band b) (l ∷ [])
  pub rest : (b : ℕ) → b < 512 → band ≤ b → get_or new b [] ≡ get_or old b []

kept : (l : PlacedLine) (b : ℕ) → is_in_band b l ≡ true → filter (is_in_band b) (l ∷ []) ≡ l ∷ []
kept l b h = ap (λ (q : Bool). cond q (l ∷ []) []) h

left_out : (l : PlacedLine) (b : ℕ) → is_in_band b l ≡ false → filter (is_in_band b) (l ∷ []) ≡ []
left_out l b h = ap (λ (q : Bool). cond q (l ∷ []) []) h

stays : (l : PlacedLine) (b : ℕ) (xs : List PlacedLine) → is_in_band b l ≡ false → xs ≡ xs ++ filter (is_in_band b) (l ∷ [])
stays l b xs h = sym (append-nil xs) ∙ ap (λ (ys : List PlacedLine). xs ++ ys) (sym (left_out l b h))

pub filed_none : (l : PlacedLine) (first : ℕ) (bands : List (List PlacedLine)) → IsBandOf (int_min l.from.y l.to.y) first → FiledTo l first bands bands
filed_none l first bands f = record {
  count = refl;
  done = λ b among below. stays l b (get_or bands b []) (below_bands l first b f below);
  rest = λ b among above. refl;
}

by_last : (P : ℕ → Type 0) (m n : ℕ) → P n → (m < n → P m) → m < n + 1 → P m
by_last P m n here below h = below_more (λ k. (k ≡ m) → P m) n (λ k lt e. below (subst (λ j. j < n) e lt)) (λ e. subst P e here) m h refl

pub filed_more : (l : PlacedLine) (band : ℕ) (old new : List (List PlacedLine)) → length old ≡ 512 → band < 512 → is_in_band band l ≡ true → FiledTo l band old new
    → FiledTo l (band + 1) old (set new band (get_or new band [] ++ l ∷ []))
filed_more l band old new all among here f = record {
  count = length-set new band (get_or new band [] ++ l ∷ []) ∙ f.count;
  done = λ b within below.
      by_last (λ k. get_or (set new band (get_or new band [] ++ l ∷ [])) k [] ≡ get_or old k [] ++ filter (is_in_band k) (l ∷ [])) b band
      (get_or-set_same new band (get_or new band [] ++ l ∷ []) [] (omega (arith, all, f.count))
      ∙ ap (λ (xs : List PlacedLine). xs ++ l ∷ []) (f.rest band among (omega arith))
      ∙ ap (λ (ys : List PlacedLine). get_or old band [] ++ ys) (sym (kept l band here)))
      (λ lower. get_or-set_other new band b (get_or new band [] ++ l ∷ []) [] (omega arith) ∙ f.done b within lower)
      below;
  rest = λ b within above. get_or-set_other new band b (get_or new band [] ++ l ∷ []) [] (omega arith) ∙ f.rest b within (omega arith);
}

pub filed_all : (l : PlacedLine) (last band : ℕ) (old new : List (List PlacedLine)) → IsBandOf (int_max l.from.y l.to.y) last → last < band → FiledTo l band old new
    → FilesLine l old new
filed_all l last band old new g over f = record {
  count = f.count;
  each = λ b within.
      ⊎_elim (λ below. f.done b within below)
      (λ above. f.rest b within above ∙ stays l b (get_or old b []) (above_bands l last b g (omega arith)))
      (lt_or_le b band);
}

-- ---- all lines

pub no_lines : (n : ℕ) (bands : List (List PlacedLine)) → n ≡ 512 → bands ≡ replicate n [] → AreBands [] bands
no_lines n bands all is = record {
  count = ap length is ∙ length-replicate n [] ∙ all;
  filed = λ b within. ap (λ (bs : List (List PlacedLine)). get_or bs b []) is ∙ get_or-replicate n b [] [] (omega (arith, all));
}
