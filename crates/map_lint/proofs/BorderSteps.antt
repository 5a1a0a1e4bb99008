-- Marks of the sectors that have a border, as one more line is read.
use Rattle.std.proofs.Common.{◌≡◌, ℕ, ◌+◌, ◌<◌, Bool, true, false, cond, eqb, refl, ◌||◌, ◌&&◌, not, List, length, get_or, set, take, Some, sym, ap, ◌∙◌, arith}
use Rattle.std.specs.List.{list_any, slice_get}
use Rattle.std.proofs.lemmas.List.{length-set}
use Rattle.std.proofs.lemmas.List.Folds.{list_any_more}
use Rattle.std.proofs.lemmas.Option.{slice_get_within, get_or_from_slice_get}
use Rattle.lump_records.specs.declared.records.Line.{Line}
use Rattle.lump_records.specs.declared.records.Side.{Side}
use Rattle.lump_records.specs.Sides.{has_left}
use Rattle.map_tables.specs.Tables.{Tables}
use Rattle.map_checks.specs.Textures.{side_in}
use Rattle.map_play.specs.Sided.{right_sector_of, left_sector_of}
use Rattle.map_lint.specs.Borders.{borders}
use Rattle.map_lint.specs.Tallies.{MarksBordered, MarksSides}
use Rattle.map_play.proofs.TagSteps.{or_false, get_or-set_mark}

or_assoc : (a b c : Bool) → (a || b || c) ≡ (a || (b || c))
or_assoc true b c = refl
or_assoc false b c = refl

-- a line with two sides has both sectors on exactly one side if they differ, and otherwise none
borders_two : (m : Tables) (l : Line) (s : ℕ) (same : Bool) → has_left l ≡ true → eqb (right_sector_of m l) (left_sector_of m l) ≡ same
    → borders m s l ≡ (not same && (eqb (right_sector_of m l) s || eqb (left_sector_of m l) s))
borders_two m l s same some is =
    ap (λ b. cond b (not (eqb (right_sector_of m l) (left_sector_of m l)) && (eqb (right_sector_of m l) s || eqb (left_sector_of m l) s)) (eqb (right_sector_of m l) s)) some
    ∙ ap (λ b. not b && (eqb (right_sector_of m l) s || eqb (left_sector_of m l) s)) is

module _ (m : Tables) (l : Line) (old : List Bool) (right : Side) (is : side_in m l.right ≡ right) where
  module _ (left : Side) (at : side_in m l.left ≡ left) (some : has_left l ≡ true) where
    sides_are : (b : Bool) → eqb right.sector left.sector ≡ b → eqb (right_sector_of m l) (left_sector_of m l) ≡ b
    sides_are b h = (λ i. eqb (is i).sector (at i).sector) ∙ h

    -- two sectors on a line's sides are marked
    pub marks_both : eqb right.sector left.sector ≡ false → (k j : ℕ) → k ≡ right.sector → j ≡ left.sector → k < length old → j < length old
        → MarksSides m l old (set (set old k true) j true)
    marks_both differ k j kis jis kin jin = record {
      count = length-set (set old k true) j true ∙ length-set old k true;
      marked = λ s h.
          get_or-set_mark (set old k true) j s (omega (arith, length-set old k true))
          ∙ ap (λ b. b || eqb j s) (get_or-set_mark old k s kin)
          ∙ or_assoc (get_or old s false) (eqb k s) (eqb j s)
          ∙ ap (λ b. get_or old s false || b)
          ((λ i. eqb (kis i) s || eqb (jis i) s)
          ∙ (λ i. eqb (sym is i).sector s || eqb (sym at i).sector s)
          ∙ sym (borders_two m l s false some (sides_are false differ)));
    }

    -- one sector on both sides isn't marked
    pub marks_none : eqb right.sector left.sector ≡ true → MarksSides m l old old
    marks_none same = record {
      count = refl;
      marked = λ s h. or_false (get_or old s false) ∙ ap (λ b. get_or old s false || b) (sym (borders_two m l s true some (sides_are true same)));
    }

-- one more line is read
pub bordered_more : (m : Tables) (n : ℕ) (l : Line) → slice_get m.lines n ≡ Some l → (old new : List Bool)
    → MarksBordered m (take n m.lines) old → MarksSides m l old new → MarksBordered m (take (n + 1) m.lines) new
bordered_more m n l is old new t a = record {
  count = a.count ∙ t.count;
  marked = λ s h.
      a.marked s (omega (arith, t.count))
      ∙ ap (λ b. b || borders m s l) (t.marked s h)
      ∙ ap (λ k. list_any (borders m s) (take n m.lines) || borders m s k) (sym (get_or_from_slice_get m.lines n l l is))
      ∙ sym (list_any_more (borders m s) m.lines n l (slice_get_within m.lines n l is));
}
