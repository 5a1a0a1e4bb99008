-- What each command that draws an area leaves of the map's sides and lines.
use Rattle.std.proofs.Common.{◌≡◌, ◌⊎◌, ℕ, zero, suc, ◌+◌, ◌<◌, ◌≤◌, Bool, false, not, true, List, [], ◌∷◌, ◌++◌, length, get_or, Option, Some, None, refl, sym, ap, ◌∙◌, ⊎_elim, subst, arith, length-append, inl, inr}
use Rattle.std.specs.List.{slice_get, slice_set}
use Rattle.std.proofs.lemmas.Bool.Decides.{eqb_tells}
use Rattle.std.proofs.lemmas.Option.{get_or_from_slice_get, slice_get_within}
use Rattle.lump_records.specs.Sides.{no_side}
use Rattle.lump_records.specs.declared.records.Line.{Line}
use Rattle.lump_records.specs.declared.records.Sector.{Sector}
use Rattle.lump_records.specs.declared.records.Side.{Side}
use Rattle.lump_records.specs.declared.records.Vertex.{Vertex}
use Rattle.map_commands.specs.Rooms.{wall}
use Rattle.map_commands.specs.Splits.{cut_off, cut_short, line_or_some, with_split}
use Rattle.map_commands.specs.declared.command.LineSplit.{LineSplit}
use Rattle.map_tables.specs.Edits.{with_line, with_line_at, with_sector, with_side, with_side_at, with_vertex}
use Rattle.map_tables.specs.Tables.{Tables}
use Rattle.map_areas.specs.Ways.{is_between}
use Rattle.map_tables.specs.WellFormed.{nth_vertex, HasEnds, HasSides, WellFormed}
use Rattle.map_areas.specs.Apart.{KeepsAlone, KeepsRecord, is_alone}
use Rattle.map_areas.proofs.Items.{at_end, at_set, beside_set, in_longer, past_end, within_longer}
use Rattle.map_areas.proofs.Parts.{cut_short_part, line_of_part, part_of_line, parts_cut, parts_kept, parts_none, parts_set}
use Rattle.map_areas.specs.Drawings.{BecameLine, BecamePart, IsBecoming, KeepsLine, IsSole, IsTaken, KeepsLines, KeepsLinesBut, side_on}
use Rattle.map_areas.specs.Stays.{BecomesSide, opened_flags}
use Rattle.map_areas.specs.declared.border.Border.{Border}
use Rattle.map_plane.specs.Places.{placed}

-- ---- lines that keep their records

pub line_there : (t : Tables) (n : ℕ) (l : Line) → WellFormed t → slice_get t.lines n ≡ Some l → HasEnds t.vertices l × HasSides t.sides l
line_there t n l fine is =
    let lt = slice_get_within t.lines n l is in
    let same = get_or_from_slice_get t.lines n l l is in
    (subst (HasEnds t.vertices) same (fine.ends n l lt), subst (HasSides t.sides) same (fine.line_sides n l lt))

get_longer : {X : Type 0} (xs ys : List X) (k : ℕ) (d : X) → k < length xs → get_or (xs ++ ys) k d ≡ get_or xs k d
get_longer [] ys k d lt = absurd (omega arith)
get_longer (x ∷ xs) ys zero d lt = refl
get_longer (x ∷ xs) ys (suc k) d lt = get_longer xs ys k d (omega arith)

pub kept_vertex : (t : Tables) (v : Vertex) → WellFormed t → KeepsLines t (with_vertex t v)
kept_vertex t v fine n l is =
    let ends = (line_there t n l fine is).0 in
    record {
      kept = record { line = is; right = refl; left = refl };
      from = get_longer t.vertices (v ∷ []) l.v1 _ ends.v1;
      to = get_longer t.vertices (v ∷ []) l.v2 _ ends.v2;
    }

left_longer : (ss : List Side) (s : Side) (l : Line) → HasSides ss l → length ss < no_side → slice_get (ss ++ s ∷ []) l.left ≡ slice_get ss l.left
left_longer ss s l has room =
    let one : length (ss ++ s ∷ []) ≡ length ss + 1 = length-append ss (s ∷ []) in
    ⊎_elim
    (λ without.
    subst (λ k. slice_get (ss ++ s ∷ []) k ≡ slice_get ss k) (sym without.1)
    (none (ss ++ s ∷ []) (omega (arith, one, room)) ∙ sym (none ss (omega (arith, room)))))
    (λ with. within_longer ss (s ∷ []) l.left (has.left with.1))
    (eqb_tells l.left no_side)
  where
    none : (xs : List Side) → length xs ≤ no_side → slice_get xs no_side ≡ None
    none xs le = past_end xs no_side le

pub kept_side : (t : Tables) (s : Side) → WellFormed t → length t.sides < no_side → KeepsLines t (with_side t s)
kept_side t s fine room n l is =
    let has = (line_there t n l fine is).1 in
    record {
      kept = record { line = is; right = within_longer t.sides (s ∷ []) l.right has.right; left = left_longer t.sides s l has room };
      from = refl;
      to = refl;
    }

pub kept_line : (t : Tables) (x : Line) → KeepsLines t (with_line t x)
kept_line t x n l is = record {
  kept = record { line = in_longer t.lines (x ∷ []) n l is; right = refl; left = refl };
  from = refl;
  to = refl;
}

pub kept_set_line : (t : Tables) (k : ℕ) (x : Line) → KeepsLinesBut k t (with_line_at t k x)
kept_set_line t k x n l apart is = record {
  kept = record { line = beside_set t.lines k x n apart ∙ is; right = refl; left = refl };
  from = refl;
  to = refl;
}

pub kept_set_side : (t : Tables) (line k : ℕ) (s : Side) → IsSole t.lines line k → KeepsLinesBut line t (with_side_at t k s)
kept_set_side t line k s sole n l apart is = record {
  kept =
      record {
        line = is;
        right = beside_set t.sides k s l.right (sole n l apart is).0;
        left = beside_set t.sides k s l.left (sole n l apart is).1;
      };
  from = refl;
  to = refl;
}

-- ---- one after another

then_kept : (a b c : Tables) (n : ℕ) (l : Line) → KeepsLine a b n l → KeepsLine b c n l → KeepsLine a c n l
then_kept a b c n l p q = record {
  kept = record { line = q.kept.line; right = q.kept.right ∙ p.kept.right; left = q.kept.left ∙ p.kept.left };
  from = q.from ∙ p.from;
  to = q.to ∙ p.to;
}

pub lines_then : (a b c : Tables) → KeepsLines a b → KeepsLines b c → KeepsLines a c
lines_then a b c p q n l is = then_kept a b c n l (p n l is) (q n l (p n l is).kept.line)

pub but_then : (k : ℕ) (a b c : Tables) → KeepsLinesBut k a b → KeepsLinesBut k b c → KeepsLinesBut k a c
but_then k a b c p q n l apart is = then_kept a b c n l (p n l apart is) (q n l apart (p n l apart is).kept.line)

pub lines_but : (k : ℕ) (a b : Tables) → KeepsLines a b → KeepsLinesBut k a b
lines_but k a b p n l apart is = p n l is

-- ---- lines that are left alone

more_kept : (m t u : Tables) (n : ℕ) (l : Line) → KeepsRecord m t n l → KeepsRecord t u n l → KeepsRecord m u n l
more_kept m t u n l p q = record { line = q.line; right = q.right ∙ p.right; left = q.left ∙ p.left }

alone_still : (m : Tables) (b : Border) (t u : Tables) → ((n : ℕ) → KeepsAlone b.edges.items b.doubled.items m t n) → KeepsLines t u
    → (n : ℕ) → KeepsAlone b.edges.items b.doubled.items m u n
alone_still m b t u h keeps n l is alone = let r = h n l is alone in more_kept m t u n l r (keeps n l r.line).kept

alone_but : (m : Tables) (b : Border) (k : ℕ) (t u : Tables) → IsTaken m b k → ((n : ℕ) → KeepsAlone b.edges.items b.doubled.items m t n) → KeepsLinesBut k t u
    → (n : ℕ) → KeepsAlone b.edges.items b.doubled.items m u n
alone_but m b k t u taken h keeps n l is alone =
    let r = h n l is alone in
    ⊎_elim
    (λ same.
    absurd
    (taken l (subst (λ i. slice_get m.lines i ≡ Some l) same.1 is)
    (subst (λ i. is_alone b.edges.items b.doubled.items (placed m (i, l)) ≡ true) same.1 alone)))
    (λ other. more_kept m t u n l r (keeps n l other.1 r.line).kept)
    (eqb_tells n k)

-- ---- what becomes of a map

line_as_it_was : (l : Line) → BecameLine l l
line_as_it_was l = record { line = record { start = refl; special = refl; tag = refl; flags = inl refl }; flags = λ none. refl }

-- nothing was drawn
pub becoming_none : (m : Tables) (b : Border) (round : Option ℕ) → IsBecoming m b round m
becoming_none m b round = record {
  sides = λ n s is. (s, is, inl refl);
  lines = λ n l is. (l, is, line_as_it_was l);
  parts = parts_none m;
  alone = λ n l is alone. record { line = is; right = refl; left = refl };
}

alone_same : (m : Tables) (b : Border) (t u : Tables) → u.sides ≡ t.sides → u.lines ≡ t.lines → ((n : ℕ) → KeepsAlone b.edges.items b.doubled.items m t n)
    → (n : ℕ) → KeepsAlone b.edges.items b.doubled.items m u n
alone_same m b t u sides lines h n l is alone =
    let r = h n l is alone in
    record {
      line = ap (λ ls. slice_get ls n) lines ∙ r.line;
      right = ap (λ ss. slice_get ss l.right) sides ∙ r.right;
      left = ap (λ ss. slice_get ss l.left) sides ∙ r.left;
    }

pub becoming_vertex : (m : Tables) (b : Border) (round : Option ℕ) (t : Tables) (v : Vertex) → WellFormed t → IsBecoming m b round t → IsBecoming m b round (with_vertex t v)
becoming_vertex m b round t v fine h = record {
  sides = h.sides;
  lines = h.lines;
  parts = parts_kept m t (with_vertex t v) (kept_vertex t v fine) h.parts;
  alone = alone_same m b t (with_vertex t v) refl refl h.alone;
}

pub becoming_sector : (m : Tables) (b : Border) (round : Option ℕ) (t : Tables) (s : Sector) → IsBecoming m b round t → IsBecoming m b round (with_sector t s)
becoming_sector m b round t s h = record {
  sides = h.sides;
  lines = h.lines;
  parts = h.parts;
  alone = alone_same m b t (with_sector t s) refl refl h.alone;
}

pub becoming_side : (m : Tables) (b : Border) (round : Option ℕ) (t : Tables) (s : Side) → WellFormed t → length t.sides < no_side → IsBecoming m b round t
    → IsBecoming m b round (with_side t s)
becoming_side m b round t s fine room h = record {
  sides = λ n x is. let y = h.sides n x is in (y.0, in_longer t.sides (s ∷ []) n y.0 y.1, y.2);
  lines = h.lines;
  parts = parts_kept m t (with_side t s) (kept_side t s fine room) h.parts;
  alone = alone_still m b t (with_side t s) h.alone (kept_side t s fine room);
}

pub becoming_line : (m : Tables) (b : Border) (round : Option ℕ) (t : Tables) (x : Line) → IsBecoming m b round t → IsBecoming m b round (with_line t x)
becoming_line m b round t x h = record {
  sides = h.sides;
  lines = λ n l is. let y = h.lines n l is in (y.0, in_longer t.lines (x ∷ []) n y.0 y.1, y.2);
  parts = parts_kept m t (with_line t x) (kept_line t x) h.parts;
  alone = alone_still m b t (with_line t x) h.alone (kept_line t x);
}

-- an item of which something became becomes more
became : {X : Type 0} (R : X → X → Type 0) (xs : List X) (k : ℕ) (y : X) (x : X) (n : ℕ) (z : X) → k < length xs
    → ((was is : X) → slice_get xs k ≡ Some is → R was is → R was y) → slice_get xs n ≡ Some z → R x z
    → (w : X) × (slice_get (slice_set xs k y) n ≡ Some w) × R x w
became R xs k y x n z lt more is r =
    ⊎_elim
    (λ same.
    let here : slice_get xs k ≡ Some z = subst (λ i. slice_get xs i ≡ Some z) same.1 is in
    (y, subst (λ i. slice_get (slice_set xs k y) i ≡ Some y) (sym same.1) (at_set xs k y lt), more x z here r))
    (λ other. (z, beside_set xs k y n other.1 ∙ is, r))
    (eqb_tells n k)

pub becoming_set_line : (m : Tables) (b : Border) (round : Option ℕ) (t : Tables) (k : ℕ) (x : Line) → k < length t.lines → IsTaken m b k
    → ((was is : Line) → slice_get t.lines k ≡ Some is → BecamePart was is → BecamePart was x)
    → ((is : Line) → slice_get t.lines k ≡ Some is → (x.v1 ≡ is.v1) × (x.v2 ≡ is.v2)) → IsBecoming m b round t → IsBecoming m b round (with_line_at t k x)
becoming_set_line m b round t k x lt taken part ends h = record {
  sides = h.sides;
  lines =
      λ n l is.
      let y = h.lines n l is in
      became BecameLine t.lines k x l n y.0 lt (λ was now at r. line_of_part was now x r (ends now at).0 (part was now at (part_of_line was now r))) y.1 y.2;
  parts = parts_set m t k x lt part ends h.parts;
  alone = alone_but m b k t (with_line_at t k x) taken h.alone (kept_set_line t k x);
}

-- a line that is cut at a vertex between its ends
pub becoming_cut : (m : Tables) (b : Border) (round : Option ℕ) (t : Tables) (k : ℕ) (l : Line) (v : ℕ) → slice_get t.lines k ≡ Some l → IsTaken m b k
    → is_between (placed t (k, l)) (nth_vertex t.vertices v) ≡ true → IsBecoming m b round t
    → IsBecoming m b round (with_line (with_line_at t k (record l { v2 = v })) (record l { v1 = v }))
becoming_cut m b round t k l v is taken between h =
    let short : Line = record l { v2 = v } in
    let rest : Line = record l { v1 = v } in
    let one = with_line_at t k short in
    let lt = slice_get_within t.lines k l is in
    record {
      sides = h.sides;
      lines =
          λ n x at.
          let y = h.lines n x at in
          let z = became BecameLine t.lines k short x n y.0 lt
          (λ was now here r. line_of_part was now short r (ap (λ (w : Line). w.v1) (some_same (sym is ∙ here))) (shortened was now (some_same (sym here ∙ is)) r)) y.1 y.2 in
          (z.0, in_longer (slice_set t.lines k short) (rest ∷ []) n z.0 z.1, z.2);
      parts = parts_cut m t k l v lt is between h.parts;
      alone = alone_still m b one (with_line one rest) (alone_but m b k t one taken h.alone (kept_set_line t k short)) (kept_line one rest);
    }
  where
    some_same : {a b : Line} → Some a ≡ Some b → a ≡ b
    some_same e = cc

    shortened : (was now : Line) → now ≡ l → BecameLine was now → BecamePart was (record l { v2 = v })
    shortened was now same r = cut_short_part was l v (subst (BecamePart was) same (part_of_line was now r))

pub becoming_set_side : (m : Tables) (b : Border) (round : Option ℕ) (t : Tables) (line k : ℕ) (s : Side) → k < length t.sides → IsTaken m b line → IsSole t.lines line k
    → ((was is : Side) → slice_get t.sides k ≡ Some is → BecomesSide round (length m.sectors) was is → BecomesSide round (length m.sectors) was s)
    → IsBecoming m b round t → IsBecoming m b round (with_side_at t k s)
becoming_set_side m b round t line k s lt taken sole more h = record {
  sides = λ n x is. let y = h.sides n x is in became (BecomesSide round (length m.sectors)) t.sides k s x n y.0 lt more y.1 y.2;
  lines = h.lines;
  parts = h.parts;
  alone = alone_but m b line t (with_side_at t k s) taken h.alone (kept_set_side t line k s sole);
}

-- a line that is cut where no vertex was
pub becoming_split : (m : Tables) (b : Border) (round : Option ℕ) (t : Tables) (s : LineSplit) (l : Line) → WellFormed t → slice_get t.lines s.line ≡ Some l → IsTaken m b s.line
    → is_between (placed t (s.line, l)) s.at ≡ true → IsBecoming m b round t → IsBecoming m b round (with_split t s)
becoming_split m b round t s l fine is taken between h =
    let v = length t.vertices in
    let one = with_vertex t s.at in
    let same : line_or_some t.lines s.line ≡ l = get_or_from_slice_get t.lines s.line l (wall 0 0 0) is in
    let new : nth_vertex one.vertices v ≡ s.at = get_or_from_slice_get one.vertices v s.at _ (at_end t.vertices v s.at refl) in
    let kept = kept_vertex t s.at fine s.line l is in
    let there : is_between (placed one (s.line, l)) (nth_vertex one.vertices v) ≡ true =
    (λ i. is_between (record (placed one (s.line, l)) { from = kept.from i; to = kept.to i }) (new i)) ∙ between in
    subst (λ (x : Line). IsBecoming m b round (with_line (with_line_at one s.line (cut_short x v)) (cut_off x v))) (sym same)
    (becoming_cut m b round one s.line l v is taken there (becoming_vertex m b round t s.at fine h))

-- ---- what becomes of a part of a line

-- one of its sides is another one
pub became_sided : (was l x : Line) (r : Bool) (n : ℕ) → x ≡ record l { right = x.right; left = x.left } → side_on r x ≡ n → n ≤ 32766
    → side_on (not r) x ≡ side_on (not r) l → BecamePart was l → BecamePart was x
became_sided was l x r n others here le other h = record {
  part =
      record {
        special = ap (λ (y : Line). y.special) others ∙ h.part.special;
        tag = ap (λ (y : Line). y.tag) others ∙ h.part.tag;
        flags = subst (λ f. (f ≡ was.flags) ⊎ (f ≡ opened_flags was.flags)) (sym (ap (λ (y : Line). y.flags) others)) h.part.flags;
      };
  flags = λ none. ap (λ (y : Line). y.flags) others ∙ h.flags (left r here other none);
}
  where
    left : (b : Bool) → side_on b x ≡ n → side_on (not b) x ≡ side_on (not b) l → x.left ≡ no_side → l.left ≡ no_side
    left true e f none = sym f ∙ none
    left false e f none = absurd (omega (arith, e, le, none))

-- it got a left side
pub became_open : (was l x : Line) → x.special ≡ l.special → x.tag ≡ l.tag → x.flags ≡ opened_flags l.flags → x.left ≤ 32766 → l.left ≡ no_side
    → BecamePart was l → BecamePart was x
became_open was l x special tag flags le none h = record {
  part =
      record {
        special = special ∙ h.part.special;
        tag = tag ∙ h.part.tag;
        flags = inr (flags ∙ ap opened_flags (h.flags none));
      };
  flags = λ e. absurd (omega (arith, e, le));
}
