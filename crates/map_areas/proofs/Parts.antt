-- Lines that are covered by their parts, as a drawing goes on.
use Rattle.std.proofs.Common.{◌≡◌, ◌⊎◌, ℕ, ◌<◌, true, ◌&&◌, [], ◌∷◌, length, Some, inl, inr, refl, sym, ap, ◌∙◌, ⊎_elim, subst, arith}
use Rattle.std.specs.List.{slice_get, slice_set}
use Rattle.std.specs.Ordering.{int_eq}
use Rattle.std.specs.Prelude.{pos, ◌<ℤ◌, ◌≤ℤ◌, not}
use Rattle.std.proofs.lemmas.Bool.Decides.{eqb_tells}
use Rattle.std.proofs.lemmas.Int.{by_lt_z}
use Rattle.std.proofs.lemmas.List.{length-set}
use Rattle.lump_records.proofs.Signs.{linear}
use Rattle.lump_records.specs.Plane.{point_of, ray_between, side_value}
use Rattle.lump_records.specs.declared.records.Line.{Line}
use Rattle.lump_records.specs.declared.records.Vertex.{Vertex}
use Rattle.map_plane.proofs.Tests.{and_both}
use Rattle.map_plane.specs.Meeting.{ends_at, is_on, side_value_at, spans_meet}
use Rattle.map_plane.specs.Places.{placed}
use Rattle.map_plane.specs.declared.places.PlacedLine.{PlacedLine}
use Rattle.map_tables.specs.Edits.{with_line, with_line_at}
use Rattle.map_tables.specs.Tables.{Tables}
use Rattle.map_tables.specs.WellFormed.{nth_vertex}
use Rattle.map_areas.specs.Drawings.{AreParted, BecameLine, BecamePart, KeepsLines}
use Rattle.map_areas.specs.Stays.{AreInParts}
use Rattle.map_areas.specs.Ways.{is_between, way}
use Rattle.map_areas.proofs.AlongLines.{far, in_line, lies_between, on_from, on_to, one_place, starts_at}
use Rattle.map_areas.proofs.Further.{between_length, between_on}
use Rattle.map_areas.proofs.Items.{at_end, at_set, beside_set, in_longer}

-- ---- the places of a line

-- lines between the same places lie on the same
same_on : (a b : PlacedLine) (p : Vertex) → a.from ≡ b.from → a.to ≡ b.to → is_on a p ≡ is_on b p
unfolding is_on side_value_at
same_on a b p e f = λ i.
    int_eq (side_value (ray_between (e i) (f i)) (point_of p)) (pos 0) && spans_meet (e i).x (f i).x p.x p.x && spans_meet (e i).y (f i).y p.y p.y

-- a place of a line that is cut between its ends lies on one of the two parts
divided : (l : PlacedLine) (c p : Vertex) → is_between l c ≡ true → is_on l p ≡ true → (is_on (way l.from c) p ≡ true) ⊎ (is_on (way c l.to) p ≡ true)
divided l c p bc op =
    by_lt_z (far l p) (far l c)
    (λ before.
    by_lt_z (far l l.from) (far l p)
    (λ lt. inl (and_both (is_on (way l.from c) p) (not (ends_at (way l.from c) p)) (lies_between l l.from c p (on_from l) oc op lt before)).0)
    (λ ge. inl (subst (λ (v : Vertex). is_on (way l.from c) v ≡ true) (one_place l l.from p long (on_from l) op (first ge)) (on_from (way l.from c)))))
    (λ behind.
    by_lt_z (far l c) (far l p)
    (λ past.
    by_lt_z (far l p) (far l l.to)
    (λ lt. inr (and_both (is_on (way c l.to) p) (not (ends_at (way c l.to) p)) (lies_between l c l.to p oc (on_to l) op past lt)).0)
    (λ ge. inr (subst (λ (v : Vertex). is_on (way c l.to) v ≡ true) (one_place l l.to p long (on_to l) op (last ge)) (on_to (way c l.to)))))
    (λ ge. inl (subst (λ (v : Vertex). is_on (way l.from c) v ≡ true) (one_place l c p long oc op (meet behind ge)) (on_to (way l.from c)))))
  where
    oc : is_on l c ≡ true
    oc = between_on l c bc

    long : pos 0 <ℤ far l l.to
    long = between_length l c bc

    first : far l p ≤ℤ far l l.from → far l l.from ≡ far l p
    first ge = let low = (in_line l p op).0 in let start = starts_at l in omega (arith, linear)

    last : far l l.to ≤ℤ far l p → far l l.to ≡ far l p
    last ge = let high = (in_line l p op).1 in omega (arith, linear)

    meet : far l c ≤ℤ far l p → far l p ≤ℤ far l c → far l c ≡ far l p
    meet a b = omega (arith, linear)

-- ---- one command

-- nothing was drawn
pub parts_none : (m : Tables) → AreParted m m
parts_none m n l is p on = (n, l, is, record { part = record { special = refl; tag = refl; flags = inl refl }; flags = λ none. refl }, on)

-- where each line is kept
pub parts_kept : (m t u : Tables) → KeepsLines t u → AreParted m t → AreParted m u
parts_kept m t u keeps h n l is p on =
    let y = h n l is p on in
    let kept = keeps y.0 y.1 y.2 in
    (y.0, y.1, kept.kept.line, y.3, same_on (placed u (y.0, y.1)) (placed t (y.0, y.1)) p kept.from kept.to ∙ y.4)

some_same : {X : Type 0} {a b : X} → Some a ≡ Some b → a ≡ b
some_same e = cc

-- a line that leads as before
pub parts_set : (m t : Tables) (k : ℕ) (x : Line) → k < length t.lines → ((was is : Line) → slice_get t.lines k ≡ Some is → BecamePart was is → BecamePart was x)
    → ((is : Line) → slice_get t.lines k ≡ Some is → (x.v1 ≡ is.v1) × (x.v2 ≡ is.v2)) → AreParted m t → AreParted m (with_line_at t k x)
parts_set m t k x lt part ends h n l is p on =
    let y = h n l is p on in
    ⊎_elim
    (λ same.
    let here : slice_get t.lines k ≡ Some y.1 = subst (λ j. slice_get t.lines j ≡ Some y.1) same.1 y.2 in
    let end = ends y.1 here in (
      k,
      x,
      at_set t.lines k x lt,
      part l y.1 here y.3,
      same_on (placed t (k, x)) (placed t (y.0, y.1)) p (ap (nth_vertex t.vertices) end.0) (ap (nth_vertex t.vertices) end.1) ∙ y.4,
    ))
    (λ other. (y.0, y.1, beside_set t.lines k x y.0 other.1 ∙ y.2, y.3, y.4))
    (eqb_tells y.0 k)

-- a part that ends elsewhere, or begins elsewhere
pub cut_short_part : (was l : Line) (v : ℕ) → BecamePart was l → BecamePart was (record l { v2 = v })
cut_short_part was l v h = record { part = record { special = h.part.special; tag = h.part.tag; flags = h.part.flags }; flags = h.flags }

cut_off_part : (was l : Line) (v : ℕ) → BecamePart was l → BecamePart was (record l { v1 = v })
cut_off_part was l v h = record { part = record { special = h.part.special; tag = h.part.tag; flags = h.part.flags }; flags = h.flags }

-- a line that is cut at a vertex between its ends
pub parts_cut : (m t : Tables) (k : ℕ) (l : Line) (v : ℕ) → k < length t.lines → slice_get t.lines k ≡ Some l
    → is_between (placed t (k, l)) (nth_vertex t.vertices v) ≡ true → AreParted m t → AreParted m (with_line (with_line_at t k (record l { v2 = v })) (record l { v1 = v }))
parts_cut m t k l v lt here between h n x is p on =
    let y = h n x is p on in
    let short : Line = record l { v2 = v } in
    let rest : Line = record l { v1 = v } in
    let lines = slice_set t.lines k short in
    ⊎_elim
    (λ same.
    let one : y.1 ≡ l = some_same (sym (subst (λ j. slice_get t.lines j ≡ Some y.1) same.1 y.2) ∙ here) in
    let part : BecamePart x l = subst (BecamePart x) one y.3 in
    let lies : is_on (placed t (k, l)) p ≡ true = (λ i. is_on (placed t (sym same.1 i, sym one i)) p) ∙ y.4 in
    ⊎_elim
    (λ first. (
      k,
      short,
      in_longer lines (rest ∷ []) k short (at_set t.lines k short lt),
      cut_short_part x l v part,
      same_on (placed t (k, short)) (way (placed t (k, l)).from (nth_vertex t.vertices v)) p refl refl ∙ first,
    ))
    (λ second. (
      length t.lines,
      rest,
      at_end lines (length t.lines) rest (sym (length-set t.lines k short)),
      cut_off_part x l v part,
      same_on (placed t (length t.lines, rest)) (way (nth_vertex t.vertices v) (placed t (k, l)).to) p refl refl ∙ second,
    ))
    (divided (placed t (k, l)) (nth_vertex t.vertices v) p between lies))
    (λ other. (y.0, y.1, in_longer lines (rest ∷ []) y.0 y.1 (beside_set t.lines k short y.0 other.1 ∙ y.2), y.3, y.4))
    (eqb_tells y.0 k)

-- ---- lines and parts of them

pub line_of_part : (was is x : Line) → BecameLine was is → x.v1 ≡ is.v1 → BecamePart was x → BecameLine was x
line_of_part was is x h start part = record {
  line = record { start = start ∙ h.line.start; special = part.part.special; tag = part.part.tag; flags = part.part.flags };
  flags = part.flags;
}

pub part_of_line : (was is : Line) → BecameLine was is → BecamePart was is
part_of_line was is h = record { part = record { special = h.line.special; tag = h.line.tag; flags = h.line.flags }; flags = h.flags }

-- once all is drawn
pub in_parts : (m t : Tables) → AreParted m t → AreInParts m t
in_parts m t h n l is p on = let y = h n l is p on in (y.0, y.1, y.2, y.3.part, y.4)
