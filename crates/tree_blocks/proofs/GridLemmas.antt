-- The least and the greatest coordinates of the ends of lines, line by line.
use Rattle.std.proofs.Common.{◌≡◌, sym, ap, ◌∙◌, ℕ, ◌+◌, ◌<◌, ◌≤◌, List, [], ◌∷◌, ◌++◌, length, map, take, get_or, arith}
use Rattle.std.proofs.lemmas.Int.{ints, clamps, to_z-of_z, int_min_is, int_max_is}
use Rattle.std.specs.Prelude.{ℤ, pos, fold, ◌≤ℤ◌, FitsSigned}
use Rattle.std.specs.Int.{w16, int_min, int_max}
use mir.Val.{to_z, of_z}
use Rattle.std.proofs.lemmas.Grind.{flat_map-append, fold-append}
use Rattle.std.proofs.lemmas.List.{take_more, take_all, map-append}
use Rattle.lump_records.specs.declared.records.Vertex.{Vertex}
use Rattle.tree_blocks.specs.declared.line_ends.LineEnds.{LineEnds}
use Rattle.tree_blocks.specs.declared.grid.Grid.{Grid}
use Rattle.tree_blocks.specs.Blocks.{both_ends, lowest, highest, blocks_over, grid_of}

-- the lesser and the greater of two coordinates, converted to bits and back
pub lesser_back : (a b m : ℤ) → FitsSigned w16 a → FitsSigned w16 b → m ≡ int_min (to_z w16 (of_z w16 a)) (to_z w16 (of_z w16 b)) → to_z w16 (of_z w16 m) ≡ int_min a b
lesser_back a b m f g e =
    let s = rw (to_z-of_z w16 a f, to_z-of_z w16 b g) at e in
    let is = int_min_is a b in
    let h : FitsSigned w16 (int_min a b) = omega (arith, ints) in
    ap (λ (z : ℤ). to_z w16 (of_z w16 z)) s ∙ to_z-of_z w16 (int_min a b) h

pub greater_back : (a b m : ℤ) → FitsSigned w16 a → FitsSigned w16 b → m ≡ int_max (to_z w16 (of_z w16 a)) (to_z w16 (of_z w16 b)) → to_z w16 (of_z w16 m) ≡ int_max a b
greater_back a b m f g e =
    let s = rw (to_z-of_z w16 a f, to_z-of_z w16 b g) at e in
    let is = int_max_is a b in
    let h : FitsSigned w16 (int_max a b) = omega (arith, ints) in
    ap (λ (z : ℤ). to_z w16 (of_z w16 z)) s ∙ to_z-of_z w16 (int_max a b) h

-- a coordinate folded over the ends of the first n lines
abbrev pub folded : (ℤ → ℤ → ℤ) → (Vertex → ℤ) → ℤ → List LineEnds → ℕ → ℤ
folded f of first lines n = fold f first (map of (both_ends (take n lines)))

pub folded_more :
    (f : ℤ → ℤ → ℤ) (of : Vertex → ℤ) (first : ℤ) (lines : List LineEnds) (n : ℕ) (line : LineEnds) → n < length lines → get_or lines n line ≡ line
    → folded f of first lines (n + 1) ≡ f (f (folded f of first lines n) (of line.start)) (of line.end)
folded_more f of first lines n line h is =
    ap (λ (ls : List LineEnds). fold f first (map of (both_ends ls))) (take_more lines n line h ∙ ap (λ (l : LineEnds). take n lines ++ l ∷ []) is)
    ∙ ap (λ (vs : List Vertex). fold f first (map of vs)) (flat_map-append (λ (e : LineEnds). e.start ∷ e.end ∷ []) (take n lines) (line ∷ []))
    ∙ ap (fold f first) (map-append of (both_ends (take n lines)) (line.start ∷ line.end ∷ []))
    ∙ fold-append f first (map of (both_ends (take n lines))) (of line.start ∷ of line.end ∷ [])

-- it changes nothing that the first end counts twice
pub least_again :
    (lines : List LineEnds) (line : LineEnds) (of : Vertex → ℤ) → 0 < length lines → get_or lines 0 line ≡ line
    → fold int_min (of line.start) (map of (both_ends lines)) ≡ lowest (map of (both_ends lines))
least_again [] line of h is = absurd (omega arith)
least_again (l ∷ lines) line of h is =
    let e : l ≡ line = is in
    let twice : int_min (of l.start) (of l.start) ≡ of l.start = omega (arith, ints, clamps) in
    ap (λ (k : LineEnds). fold int_min (of k.start) (map of (both_ends (l ∷ lines)))) (sym e)
    ∙ ap (λ (z : ℤ). fold int_min z (of l.end ∷ map of (both_ends lines))) twice

pub greatest_again :
    (lines : List LineEnds) (line : LineEnds) (of : Vertex → ℤ) → 0 < length lines → get_or lines 0 line ≡ line
    → fold int_max (of line.start) (map of (both_ends lines)) ≡ highest (map of (both_ends lines))
greatest_again [] line of h is = absurd (omega arith)
greatest_again (l ∷ lines) line of h is =
    let e : l ≡ line = is in
    let twice : int_max (of l.start) (of l.start) ≡ of l.start = omega (arith, ints, clamps) in
    ap (λ (k : LineEnds). fold int_max (of k.start) (map of (both_ends (l ∷ lines)))) (sym e)
    ∙ ap (λ (z : ℤ). fold int_max z (of l.end ∷ map of (both_ends lines))) twice

abbrev pub no_line : LineEnds
no_line = record { start = record { x = pos 0; y = pos 0 }; end = record { x = pos 0; y = pos 0 } }

-- both corners so far
pub record CornersSoFar (lines : List LineEnds) (first : LineEnds) (n : ℕ) (low high : Vertex) : Type 0 where
  pub left : low.x ≡ folded int_min (λ v. v.x) first.start.x lines n
  pub bottom : low.y ≡ folded int_min (λ v. v.y) first.start.y lines n
  pub right : high.x ≡ folded int_max (λ v. v.x) first.start.x lines n
  pub top : high.y ≡ folded int_max (λ v. v.y) first.start.y lines n
  pub across : low.x ≤ℤ high.x
  pub upward : low.y ≤ℤ high.y

pub corners_more : (lines : List LineEnds) (first line : LineEnds) (n : ℕ) (low high low2 high2 : Vertex) → n < length lines → get_or lines n line ≡ line
    → low2.x ≡ int_min (int_min low.x line.start.x) line.end.x → low2.y ≡ int_min (int_min low.y line.start.y) line.end.y
    → high2.x ≡ int_max (int_max high.x line.start.x) line.end.x → high2.y ≡ int_max (int_max high.y line.start.y) line.end.y
    → CornersSoFar lines first n low high → CornersSoFar lines first (n + 1) low2 high2
corners_more lines first line n low high low2 high2 h is lx ly hx hy c =
    let a = c.across in
    let u = c.upward in
    record {
      left = lx ∙ ap (λ (z : ℤ). int_min (int_min z line.start.x) line.end.x) c.left ∙ sym (folded_more int_min (λ v. v.x) first.start.x lines n line h is);
      bottom = ly ∙ ap (λ (z : ℤ). int_min (int_min z line.start.y) line.end.y) c.bottom ∙ sym (folded_more int_min (λ v. v.y) first.start.y lines n line h is);
      right = hx ∙ ap (λ (z : ℤ). int_max (int_max z line.start.x) line.end.x) c.right ∙ sym (folded_more int_max (λ v. v.x) first.start.x lines n line h is);
      top = hy ∙ ap (λ (z : ℤ). int_max (int_max z line.start.y) line.end.y) c.top ∙ sym (folded_more int_max (λ v. v.y) first.start.y lines n line h is);
      across = omega (arith, ints, clamps, lx, hx, a);
      upward = omega (arith, ints, clamps, ly, hy, u);
    }

abbrev pub made_grid : ℤ → ℤ → ℕ → ℕ → Grid
made_grid left bottom columns rows = record { left = left; bottom = bottom; columns = columns; rows = rows }

same_grid : (a b : ℤ) (m n : ℕ) (c d : ℤ) (p q : ℕ) → a ≡ c → b ≡ d → m ≡ p → n ≡ q → made_grid a b m n ≡ made_grid c d p q
same_grid a b m n c d p q e f g h = cc

whole : (f : ℤ → ℤ → ℤ) (of : Vertex → ℤ) (z : ℤ) (lines : List LineEnds) (n : ℕ) → length lines ≤ n → folded f of z lines n ≡ fold f z (map of (both_ends lines))
whole f of z lines n h = ap (λ (ls : List LineEnds). fold f z (map of (both_ends ls))) (take_all n lines h)

pub grid_found :
    (lines : List LineEnds) (first : LineEnds) (n : ℕ) (low high : Vertex) (columns rows : ℕ) → 0 < length lines → length lines ≤ n → get_or lines 0 first ≡ first → columns ≡ blocks_over low.x high.x
    → rows ≡ blocks_over low.y high.y → CornersSoFar lines first n low high → made_grid low.x low.y columns rows ≡ grid_of lines
grid_found lines first n low high columns rows some all is ec er c =
    let l = c.left ∙ whole int_min (λ v. v.x) first.start.x lines n all ∙ least_again lines first (λ v. v.x) some is in
    let b = c.bottom ∙ whole int_min (λ v. v.y) first.start.y lines n all ∙ least_again lines first (λ v. v.y) some is in
    let r = c.right ∙ whole int_max (λ v. v.x) first.start.x lines n all ∙ greatest_again lines first (λ v. v.x) some is in
    let t = c.top ∙ whole int_max (λ v. v.y) first.start.y lines n all ∙ greatest_again lines first (λ v. v.y) some is in
    same_grid low.x low.y columns rows _ _ _ _ l b (ec ∙ ap (λ (z : ℤ). blocks_over z high.x) l ∙ ap (λ (z : ℤ). blocks_over (lowest (map (λ v. v.x) (both_ends lines))) z) r)
    (er ∙ ap (λ (z : ℤ). blocks_over z high.y) b ∙ ap (λ (z : ℤ). blocks_over (lowest (map (λ v. v.y) (both_ends lines))) z) t)
