-- Why a map refuses the commands that draw an area: for want of room, or for a line's length.
use Rattle.std.proofs.Common.{◌≡◌, ◌≢◌, ◌⊎◌, ℕ, ◌/◌, ◌%◌, ◌<◌, ◌≤◌, List, None, arith, subst, Bool, true, false, ◌&&◌, ◌||◌, ◌==◌, not, [], ◌∷◌, ◌++◌, length, Option, Some, refl, sym, ap, ◌∙◌, ⊎_elim, inl, inr}
use Rattle.std.specs.Bool.{IsTrue}
use Rattle.std.specs.List.{slice_get}
use Rattle.std.specs.Option.{option_map}
use Rattle.std.proofs.lemmas.Bool.{false≢true}
use Rattle.std.proofs.lemmas.Bool.Decides.{eqb_tells}
use Rattle.std.proofs.lemmas.Option.{get_or_from_slice_get, slice_get_within}
use Rattle.lump_records.specs.Sides.{has_left, is_two_sided, no_side}
use Rattle.lump_records.specs.declared.records.Line.{Line}
use Rattle.lump_records.specs.declared.records.Sector.{Sector}
use Rattle.lump_records.specs.declared.records.Side.{Side}
use Rattle.lump_records.specs.declared.records.Vertex.{Vertex}
use Rattle.map_tables.specs.Faults.{is_taken, is_too_long, lacks, lacks_room, lacks_sector_room}
use Rattle.map_tables.specs.Outcomes.{least}
use Rattle.map_tables.specs.Tables.{Tables}
use Rattle.map_tables.specs.WellFormed.{HasEnds, HasSides, nth_vertex}
use Rattle.map_tables.specs.declared.edit.Edit.TheVariants.{Add, Set}
use Rattle.map_tables.specs.declared.edit.Item.TheVariants as item
use Rattle.map_commands.specs.Splits.{cut_off, cut_short, line_or_some}
use Rattle.map_commands.specs.declared.command.Command.TheVariants as command
use Rattle.map_commands.specs.declared.command.LineSplit.{LineSplit}
use Rattle.map_areas.specs.Drawings.{IsFitting, IsRefusedForRoom, side_on}
use Rattle.map_areas.specs.Ways.{sector_by_side}
use Rattle.map_plane.proofs.Means.{is_at-same}
use Rattle.map_plane.specs.Meeting.{is_at}
use Rattle.map_areas.proofs.Halves.{fits, is_there, or_none, sides_there}

-- ---- the first code whose test holds

second : (c d : ℕ) (a b : Bool) → a ≡ false → (code : ℕ) → least ((c, a) ∷ (d, b) ∷ []) ≡ Some code → code ≡ d
second c d true b f code h = cc
second c d false true f code h = cc
second c d false false f code h = cc

neither : (c d : ℕ) (a b : Bool) → a ≡ false → b ≡ false → (code : ℕ) → least ((c, a) ∷ (d, b) ∷ []) ≡ Some code → ⊥
neither c d true b f g code h = cc
neither c d false true f g code h = cc
neither c d false false f g code h = cc

only : (c : ℕ) (a : Bool) (code : ℕ) → least ((c, a) ∷ []) ≡ Some code → code ≡ c
only c true code h = cc
only c false code h = cc

sixth : (a b c d e f : Bool) → a ≡ false → b ≡ false → c ≡ false → d ≡ false → e ≡ false → (code : ℕ)
    → least ((3, a) ∷ (5, b) ∷ (6, c) ∷ (9, d) ∷ (11, e) ∷ (13, f) ∷ []) ≡ Some code → code ≡ 13
sixth a b c d e f p q r s t code h = only 13 f code ((λ i. least ((3, sym p i) ∷ (5, sym q i) ∷ (6, sym r i) ∷ (9, sym s i) ∷ (11, sym t i) ∷ (13, f) ∷ [])) ∙ h)

either : (c d : ℕ) (a b : Bool) (code : ℕ) → least ((c, a) ∷ (d, b) ∷ []) ≡ Some code → (code ≡ c) ⊎ (code ≡ d)
either c d true b code h = inl cc
either c d false b code h = inr (only d b code h)

-- ---- each of the commands

pub sector_fits : (t : Tables) (s : Sector) → IsRefusedForRoom t (command.Edit (Add (item.Sector s)))
sector_fits t s code h = inl (only 12 (lacks_sector_room t.sectors 1) code h)

pub side_fits : (t : Tables) (s : Side) → s.sector < length t.sectors → IsRefusedForRoom t (command.Edit (Add (item.Side s)))
side_fits t s lt code h = inl (second 4 12 (lacks t.sectors s.sector) (lacks_room t.sides 1) (is_there t.sectors s.sector lt) code h)

pub set_side_fits : (t : Tables) (n : ℕ) (s : Side) → s.sector < length t.sectors → n < length t.sides → IsRefusedForRoom t (command.Edit (Set n (item.Side s)))
set_side_fits t n s lt here code h =
    absurd (neither 4 5 (lacks t.sectors s.sector) (lacks t.sides n) (is_there t.sectors s.sector lt) (is_there t.sides n here) code h)

named : (t : Tables) (l : Line) → IsFitting t l → (lacks t.vertices l.v1 || lacks t.vertices l.v2) ≡ false
named t l f = or_none (lacks t.vertices l.v1) (lacks t.vertices l.v2) (is_there t.vertices l.v1 f.v1) (is_there t.vertices l.v2 f.v2)

apart : (a b : ℕ) → a ≢ b → (a == b) ≡ false
apart a b other = ⊎_elim (λ same. absurd (other same.1)) (λ not. not.0) (eqb_tells a b)

pub set_line_fits : (t : Tables) (n : ℕ) (l : Line) → n < length t.lines → IsFitting t l → IsRefusedForRoom t (command.Edit (Set n (item.Line l)))
set_line_fits t n l here f code h =
    inr
    (sixth (lacks t.vertices l.v1 || lacks t.vertices l.v2) (lacks t.sides l.right || (has_left l && lacks t.sides l.left)) (lacks t.lines n) (l.v1 == l.v2)
    (is_two_sided l && not (has_left l)) (is_too_long t.vertices l) (named t l f) (sides_there t.sides l f.sides) (is_there t.lines n here) (apart l.v1 l.v2 f.differ)
    (fits t.sides l f.sides) code h)

pub line_fits : (t : Tables) (l : Line) → IsFitting t l → IsRefusedForRoom t (command.Edit (Add (item.Line l)))
line_fits t l f code h =
    either 12 13 (lacks_room t.lines 1) (is_too_long t.vertices l) code
    ((λ i.
    least
    ((3, sym (named t l f) i) ∷ (5, sym (sides_there t.sides l f.sides) i) ∷ (9, sym (apart l.v1 l.v2 f.differ) i) ∷ (11, sym (fits t.sides l f.sides) i)
    ∷ (12, lacks_room t.lines 1) ∷ (13, is_too_long t.vertices l) ∷ []))
    ∙ h)

pub split_fits : (t : Tables) (s : LineSplit) (l : Line) → slice_get t.lines s.line ≡ Some l → is_taken t.vertices s.at ≡ false → IsRefusedForRoom t (command.Split s)
split_fits t s l is free code h =
    either 12 13 (lacks_room t.vertices 1 || lacks_room t.lines 1)
    (is_too_long (t.vertices ++ s.at ∷ []) (cut_short (line_or_some t.lines s.line) (length t.vertices))
    || is_too_long (t.vertices ++ s.at ∷ []) (cut_off (line_or_some t.lines s.line) (length t.vertices))) code
    ((λ i.
    least
    ((6, sym (is_there t.lines s.line (slice_get_within t.lines s.line l is)) i) ∷ (10, sym free i) ∷ (12, lacks_room t.vertices 1 || lacks_room t.lines 1)
    ∷ (
      13,
      is_too_long (t.vertices ++ s.at ∷ []) (cut_short (line_or_some t.lines s.line) (length t.vertices))
          || is_too_long (t.vertices ++ s.at ∷ []) (cut_off (line_or_some t.lines s.line) (length t.vertices)),
    ) ∷ []))
    ∙ h)

-- ---- lines that fit

-- a line with another side
pub sided_fits : (old new : Tables) (l x : Line) (r : Bool) (n : ℕ) → x ≡ record l { right = x.right; left = x.left } → side_on r x ≡ n
    → side_on (not r) x ≡ side_on (not r) l → n < length new.sides → n ≤ 32766 → HasEnds old.vertices l → HasSides old.sides l → new.vertices ≡ old.vertices
    → length old.sides ≤ length new.sides → IsFitting new x
sided_fits old new l x r n others here other there le ends has vertices count = record {
  v1 = subst (λ y. y < length new.vertices) (sym (ap (λ (y : Line). y.v1) others)) (subst (λ (vs : List Vertex). l.v1 < length vs) (sym vertices) ends.v1);
  v2 = subst (λ y. y < length new.vertices) (sym (ap (λ (y : Line). y.v2) others)) (subst (λ (vs : List Vertex). l.v2 < length vs) (sym vertices) ends.v2);
  differ = λ e. ends.differ (sym (ap (λ (y : Line). y.v1) others) ∙ e ∙ ap (λ (y : Line). y.v2) others);
  sides = by r here other;
}
  where
    flags : IsTrue (is_two_sided x) → IsTrue (is_two_sided l)
    flags h = subst (λ (f : ℕ). IsTrue ((f / 4 % 2) == 1)) (ap (λ (y : Line). y.flags) others) h

    by : (b : Bool) → side_on b x ≡ n → side_on (not b) x ≡ side_on (not b) l → HasSides new.sides x
    by true e f = record {
      right = omega (arith, e, there);
      left = λ some. let lt = has.left (λ none. some (f ∙ none)) in omega (arith, lt, f, count);
      two_sided = λ h none. has.two_sided (flags h) (sym f ∙ none);
    }
    by false e f = record {
      right = let lt = has.right in omega (arith, lt, f, count);
      left = λ some. omega (arith, e, there);
      two_sided = λ h none. absurd (omega (arith, e, none, le));
    }

-- a line with two other sides
pub open_fits : (old new : Tables) (l x : Line) → x.v1 ≡ l.v1 → x.v2 ≡ l.v2 → x.right < length new.sides → x.left < length new.sides → x.left ≤ 32766
    → HasEnds old.vertices l → new.vertices ≡ old.vertices → IsFitting new x
open_fits old new l x v1 v2 right left le ends vertices = record {
  v1 = subst (λ y. y < length new.vertices) (sym v1) (subst (λ (vs : List Vertex). l.v1 < length vs) (sym vertices) ends.v1);
  v2 = subst (λ y. y < length new.vertices) (sym v2) (subst (λ (vs : List Vertex). l.v2 < length vs) (sym vertices) ends.v2);
  differ = λ e. ends.differ (sym v1 ∙ e ∙ v2);
  sides = record { right = right; left = λ some. left; two_sided = λ h none. absurd (omega (arith, none, le)) };
}

-- a vertex at another place is another one
not_at : (vs : List Vertex) (k v : ℕ) (p q : Vertex) → q ≡ nth_vertex vs k → q ≢ p → slice_get vs v ≡ Some p → k ≢ v
not_at vs k v p q place other is same = other (place ∙ ap (nth_vertex vs) same ∙ get_or_from_slice_get vs v p _ is)

-- the parts of a line that is cut at a vertex
pub short_fits : (t : Tables) (l : Line) (v : ℕ) (p q : Vertex) → HasEnds t.vertices l → HasSides t.sides l → slice_get t.vertices v ≡ Some p
    → q ≡ nth_vertex t.vertices l.v1 → q ≢ p → IsFitting t (record l { v2 = v })
short_fits t l v p q ends has is place at = record {
  v1 = ends.v1;
  v2 = slice_get_within t.vertices v p is;
  differ = not_at t.vertices l.v1 v p q place at is;
  sides = record { right = has.right; left = has.left; two_sided = has.two_sided };
}

pub rest_fits : (t u : Tables) (l : Line) (v : ℕ) (p q : Vertex) → HasEnds t.vertices l → HasSides t.sides l → slice_get t.vertices v ≡ Some p
    → q ≡ nth_vertex t.vertices l.v2 → q ≢ p → u.vertices ≡ t.vertices → u.sides ≡ t.sides → IsFitting u (record l { v1 = v })
rest_fits t u l v p q ends has is place at vertices sides = record {
  v1 = subst (λ (vs : List Vertex). v < length vs) (sym vertices) (slice_get_within t.vertices v p is);
  v2 = subst (λ (vs : List Vertex). l.v2 < length vs) (sym vertices) ends.v2;
  differ = λ e. not_at t.vertices l.v2 v p q place at is (sym e);
  sides = subst (λ (ss : List Side). HasSides ss (record l { v1 = v })) (sym sides) (record { right = has.right; left = has.left; two_sided = has.two_sided });
}

-- a new line
pub wall_fits : (t : Tables) (l : Line) (v1 v2 right left sector : ℕ) (p q : Vertex) → l.v1 ≡ v1 → l.v2 ≡ v2 → l.right ≡ right → l.left ≡ left
    → slice_get t.vertices v1 ≡ Some p → slice_get t.vertices v2 ≡ Some q → is_at p q ≡ false → sector_by_side t right ≡ Some sector
    → (left ≢ no_side → left < length t.sides) → (IsTrue (is_two_sided l) → l.left ≢ no_side) → IsFitting t l
wall_fits t l v1 v2 right left sector p q e1 e2 er el is1 is2 apart inner there two = record {
  v1 = let lt = slice_get_within t.vertices v1 p is1 in omega (arith, lt, e1);
  v2 = let lt = slice_get_within t.vertices v2 q is2 in omega (arith, lt, e2);
  differ = λ e. false≢true (sym apart ∙ is_at-same p q (some_same (sym is1 ∙ ap (slice_get t.vertices) (sym e1 ∙ e ∙ e2) ∙ is2)));
  sides =
      record {
        right = let lt = found (slice_get t.sides right) refl inner in omega (arith, lt, er);
        left = λ some. let lt = there (λ none. some (el ∙ none)) in omega (arith, lt, el);
        two_sided = two;
      };
}
  where
    some_same : {a b : Vertex} → Some a ≡ Some b → a ≡ b
    some_same e = cc

    found : (o : Option Side) → slice_get t.sides right ≡ o → option_map (λ s. s.sector) o ≡ Some sector → right < length t.sides
    found None is e = cc
    found (Some s) is e = slice_get_within t.sides right s is
