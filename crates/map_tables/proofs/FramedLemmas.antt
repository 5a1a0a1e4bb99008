-- A map's part is framed and holds that map, and framed bytes begin with the part of the tables that they hold.
use Rattle.std.proofs.Common.{◌≡◌, drop_of_length-le, ℕ, ◌+◌, ◌*◌, ◌≤◌, ◌<◌, ◌^◌, Bool, true, ◌&&◌, leb, List, [], ◌∷◌, ◌++◌, length, get_or, take, drop, refl, sym, ◌∙◌, ap, subst, arith, FitsSigned, length-append, length-drop, append_assoc, ℤ, pos, negsuc, ◌≤ℤ◌, ◌-◌, eqb, inl, inr, rules}
use Rattle.std.specs.Prelude.{flat_map, replicate, Result, Ok, Err, IfErr}
use Rattle.std.specs.Result.{IsErrAnd}
use Rattle.map_tables.specs.declared.error.MapError.{MapError}
use Rattle.map_tables.specs.declared.error.MapError.TheVariants.{NoVertex, NoSector, NoSide, NoLine, NoThing, InUse, SameEnds, PlaceTaken, TwoSidedWithoutLeft, TableFull, LineTooLong, TooManyMaps, MapNameTaken, NoSuchMap, CurrentMap, OutOfMemory, Damaged}
use Rattle.std.specs.List.{All}
use Rattle.std.specs.Int.{w16}
use Rattle.std.proofs.lemmas.Int.{ints}
use Rattle.std.specs.List.{list_all}
use Rattle.std.proofs.lemmas.Bool.{and_parts, or_cases, leb-true, eqb-true}
use Rattle.std.proofs.lemmas.List.{append-nil, drop_at, take-append-drop, length-take-le, length-replicate}
use Rattle.lump_records.specs.Fields.{unsigned, unsigned_at}
use Rattle.lump_records.specs.Lumps.{records_of}
use Rattle.lump_records.specs.Names.{name_text}
use Rattle.lump_records.specs.Records.{thing_record, line_record, side_record, vertex_record, sector_record, thing_at, line_at, side_at, vertex_at, sector_at}
use Rattle.lump_records.specs.declared.records.Name8.{Name8}
use Rattle.lump_records.specs.declared.records.Thing.{Thing}
use Rattle.lump_records.specs.declared.records.Line.{Line}
use Rattle.lump_records.specs.declared.records.Side.{Side}
use Rattle.lump_records.specs.declared.records.Vertex.{Vertex}
use Rattle.lump_records.specs.declared.records.Sector.{Sector}
use Rattle.lump_records.proofs.DrawingLemmas.{drawable_x, drawable_y}
use Rattle.lump_records.proofs.FieldBytes.{next, name-here, unsigned-here, unsigned-part, after}
use Rattle.lump_records.proofs.RecordBytes.{thing_at-record, line_at-record, side_at-record, vertex_at-record, sector_at-record, thing_record-at, line_record-at, side_record-at, vertex_record-at, sector_record-at}
use Rattle.map_tables.specs.Tables.{Tables, no_side, body_len_of_one, part_len}
use Rattle.map_tables.specs.Ranges.{IsNamed, is_name, is_name_byte, is_marker, IsBetween, IsShort, IsCode, IsCoordinate, IsVertex, IsSector, IsSide, IsLine, IsThing}
use Rattle.map_tables.specs.WellFormed.{WellFormed}
use Rattle.map_tables.specs.Parts.{part, part_head, NoPartBegins, BeginsWith, RefusesFor, IsFramed, tables_in, behind_head, behind_things, behind_lines, behind_sides, behind_vertices, behind_sectors}
use Rattle.map_tables.specs.Body.{body, NoMapHas, IsMapOf, tables_at}
use Rattle.map_tables.proofs.BodyLemmas.{AreBytes, AreBytes-take, AreBytes-drop, IsBack, length-records_of, length-lump, records-back, lump-back, part_here, parts_joined}

-- ---- Records in range are what their bytes hold

fits_between : (low high z : ℤ) → IsBetween low high z → negsuc 32767 ≤ℤ low → high ≤ℤ pos 32767 → FitsSigned w16 z
fits_between low high z h p q = omega (arith, ints, h.at_least, h.at_most)

name_size : (test : List ℕ → Bool) (name : Name8) → IsNamed test name → length (name_text name) ≤ 8 → length name.bytes ≡ 8
name_size test name h short =
    let text = name_text name in
    ap (λ n. length n.bytes) h.padded ∙ length-append text (replicate (8 - length text) 0)
    ∙ ap (λ k. length text + k) (length-replicate (8 - length text) 0) ∙ omega arith

texture_short : (text : List ℕ) → is_name text ≡ true → length text ≤ 8
texture_short text e =
    let long = (and_parts (leb 1 (length text) && leb (length text) 8) (list_all is_name_byte text) e).0 in
    leb-true (length text) 8 ((and_parts (leb 1 (length text)) (leb (length text) 8) long).1)

marker_short : (text : List ℕ) → is_marker text ≡ true → length text ≤ 8
marker_short [] e = cc
marker_short (a ∷ []) e = cc
marker_short (a ∷ b ∷ []) e = cc
marker_short (a ∷ b ∷ c ∷ []) e = cc
marker_short (a ∷ b ∷ c ∷ d ∷ []) e = omega arith
marker_short (a ∷ b ∷ c ∷ d ∷ f ∷ []) e = omega arith
marker_short (a ∷ b ∷ c ∷ d ∷ f ∷ g ∷ rest) e = cc

texture_size : (name : Name8) → IsNamed is_name name → length name.bytes ≡ 8
texture_size name h = name_size is_name name h (texture_short (name_text name) h.named)

marker_size : (name : Name8) → IsNamed is_marker name → length name.bytes ≡ 8
marker_size name h = name_size is_marker name h (marker_short (name_text name) h.named)

fits_short : (z : ℤ) → IsShort z → FitsSigned w16 z
fits_short z h = fits_between (negsuc 32767) (pos 32767) z h (search rules) (search rules)

fits_coordinate : (z : ℤ) → IsCoordinate z → FitsSigned w16 z
fits_coordinate z h = fits_between (negsuc 16383) (pos 16383) z h (search rules) (search rules)

fits_code : (z : ℤ) → IsCode z → FitsSigned w16 z
fits_code z h = fits_between (pos 0) (pos 32767) z h (search rules) (search rules)

vertex_back : (v : Vertex) → IsVertex v → IsBack vertex_at vertex_record 4 v
vertex_back v h = record { size = refl; back = vertex_at-record v (fits_coordinate v.x (drawable_x v h)) (fits_coordinate v.y (drawable_y v h)) }

thing_back : (t : Thing) → IsThing t → IsBack thing_at thing_record 10 t
thing_back t h =
    record {
      size = refl;
      back = thing_at-record t (fits_coordinate t.x h.x) (fits_coordinate t.y h.y)
          (fits_between (pos 0) (pos 359) t.angle h.angle (search rules) (search rules)) (fits_code t.kind h.kind)
          (fits_code t.options h.options);
    }

line_back : (l : Line) → IsLine l → IsBack line_at line_record 14 l
line_back l h =
    let left : l.left < 2 ^ 16 = elim (or_cases (leb l.left 32766) (eqb l.left no_side) h.left) [
      | inl fits ↦ omega (arith, leb-true l.left 32766 fits)
      | inr none ↦ omega (arith, eqb-true l.left no_side none)
    ] in
    record {
      size = refl;
      back = line_at-record l (omega (arith, h.v1)) (omega (arith, h.v2)) (omega (arith, h.flags)) (omega (arith, h.special)) (omega (arith, h.tag)) (omega (arith, h.right)) left;
    }

side_back : (s : Side) → IsSide s → IsBack side_at side_record 30 s
side_back s h =
    let upper = texture_size s.upper h.upper in
    let lower = texture_size s.lower h.lower in
    let middle = texture_size s.middle h.middle in
    record {
      size = simp length-append (omega arith);
      back = side_at-record s (fits_short s.x_offset h.x_offset) (fits_short s.y_offset h.y_offset) upper lower middle (omega (arith, h.sector));
    }

sector_back : (s : Sector) → IsSector s → IsBack sector_at sector_record 26 s
sector_back s h =
    let floor_name = texture_size s.floor_name h.floor_name in
    let ceiling_name = texture_size s.ceiling_name h.ceiling_name in
    record {
      size = simp length-append (omega arith);
      back = sector_at-record s (fits_short s.floor h.floor) (fits_short s.ceiling h.ceiling) floor_name ceiling_name
          (fits_between (pos 0) (pos 255) s.light h.light (search rules) (search rules)) (fits_code s.special h.special)
          (fits_code s.tag h.tag);
    }

-- ---- A map's part of a body

nested_12 : (a b c d e f g h i j k l : List ℕ)
    → ((((((((((a ++ b) ++ c) ++ d) ++ e) ++ f) ++ g) ++ h) ++ i) ++ j) ++ k) ++ l
    ≡ a ++ (b ++ (c ++ (d ++ (e ++ (f ++ (g ++ (h ++ (i ++ (j ++ (k ++ l))))))))))
nested_12 a b c d e f g h i j k l = simp append_assoc

-- bytes in which a head, five tables and some more follow one another
pub record IsLaidOut (bs name things lines sides vertices sectors rest : List ℕ) (t l d v s : ℕ) : Type 0 where
  pub is : bs ≡ name ++ (unsigned t ++ (unsigned l ++ (unsigned d ++ (unsigned v ++ (unsigned s
      ++ (things ++ (lines ++ (sides ++ (vertices ++ (sectors ++ rest))))))))))
  pub name_size : length name ≡ 8
  pub t_fits : t < 2 ^ 16
  pub l_fits : l < 2 ^ 16
  pub d_fits : d < 2 ^ 16
  pub v_fits : v < 2 ^ 16
  pub s_fits : s < 2 ^ 16
  pub things_size : length things ≡ 10 * t
  pub lines_size : length lines ≡ 14 * l
  pub sides_size : length sides ≡ 30 * d
  pub vertices_size : length vertices ≡ 4 * v
  pub sectors_size : length sectors ≡ 26 * s

-- what is read of them
pub record IsRead (bs name things lines sides vertices sectors : List ℕ) : Type 0 where
  pub framed : IsFramed bs
  pub name_is : take 8 bs ≡ name
  pub things_are : take (10 * unsigned_at 8 bs) (behind_head bs) ≡ things
  pub lines_are : take (14 * unsigned_at 10 bs) (behind_things bs) ≡ lines
  pub sides_are : take (30 * unsigned_at 12 bs) (behind_lines bs) ≡ sides
  pub vertices_are : take (4 * unsigned_at 14 bs) (behind_sides bs) ≡ vertices
  pub sectors_are : take (26 * unsigned_at 16 bs) (behind_vertices bs) ≡ sectors

laid_out_size : (bs name things lines sides vertices sectors rest : List ℕ) (t l d v s : ℕ)
    → IsLaidOut bs name things lines sides vertices sectors rest t l d v s → length bs ≡ 18 + (10 * t + (14 * l + (30 * d + (4 * v + (26 * s + length rest)))))
laid_out_size bs name things lines sides vertices sectors rest t l d v s h =
    ap length h.is ∙ simp length-append (omega (arith, h.name_size, h.things_size, h.lines_size, h.sides_size, h.vertices_size, h.sectors_size))

read_back : (bs name things lines sides vertices sectors rest : List ℕ) (t l d v s : ℕ)
    → IsLaidOut bs name things lines sides vertices sectors rest t l d v s → IsRead bs name things lines sides vertices sectors
read_back bs name things lines sides vertices sectors rest t l d v s h =
    let at8 = next 0 8 bs name _ h.is h.name_size in
    let at10 = next 8 2 bs (unsigned t) _ at8 refl in
    let at12 = next 10 2 bs (unsigned l) _ at10 refl in
    let at14 = next 12 2 bs (unsigned d) _ at12 refl in
    let at16 = next 14 2 bs (unsigned v) _ at14 refl in
    let at18 = next 16 2 bs (unsigned s) _ at16 refl in
    let t_is = unsigned-here 8 bs t _ at8 h.t_fits in
    let l_is = unsigned-here 10 bs l _ at10 h.l_fits in
    let d_is = unsigned-here 12 bs d _ at12 h.d_fits in
    let v_is = unsigned-here 14 bs v _ at14 h.v_fits in
    let s_is = unsigned-here 16 bs s _ at16 h.s_fits in
    let p = part_here 10 t (unsigned_at 8 bs) (behind_head bs) things (lines ++ (sides ++ (vertices ++ (sectors ++ rest)))) t_is h.things_size at18 in
    let q = part_here 14 l (unsigned_at 10 bs) (behind_things bs) lines (sides ++ (vertices ++ (sectors ++ rest))) l_is h.lines_size p.1 in
    let r = part_here 30 d (unsigned_at 12 bs) (behind_lines bs) sides (vertices ++ (sectors ++ rest)) d_is h.sides_size q.1 in
    let u = part_here 4 v (unsigned_at 14 bs) (behind_sides bs) vertices (sectors ++ rest) v_is h.vertices_size r.1 in
    let w = part_here 26 s (unsigned_at 16 bs) (behind_vertices bs) sectors rest s_is h.sectors_size u.1 in
    let size = laid_out_size bs name things lines sides vertices sectors rest t l d v s h in
    record {
      framed = record {
        long = omega (arith, size);
        whole = rw (t_is, l_is, d_is, v_is, s_is) (omega (arith, size));
      };
      name_is = name-here 0 bs name _ h.is h.name_size;
      things_are = p.0;
      lines_are = q.0;
      sides_are = r.0;
      vertices_are = u.0;
      sectors_are = w.0;
    }

-- ---- A map's items in range

things_back : (m : Tables) → WellFormed m → All (IsBack thing_at thing_record 10) m.things
things_back m w = λ k d h. thing_back (get_or m.things k d) (w.things k d h)

lines_back : (m : Tables) → WellFormed m → All (IsBack line_at line_record 14) m.lines
lines_back m w = λ k d h. line_back (get_or m.lines k d) (w.lines k d h)

sides_back : (m : Tables) → WellFormed m → All (IsBack side_at side_record 30) m.sides
sides_back m w = λ k d h. side_back (get_or m.sides k d) (w.sides k d h)

vertices_back : (m : Tables) → WellFormed m → All (IsBack vertex_at vertex_record 4) m.vertices
vertices_back m w = λ k d h. vertex_back (get_or m.vertices k d) (w.vertices k d h)

sectors_back : (m : Tables) → WellFormed m → All (IsBack sector_at sector_record 26) m.sectors
sectors_back m w = λ k d h. sector_back (get_or m.sectors k d) (w.sectors k d h)

-- a well-formed map's part is laid out by its counts
part_laid_out : (m : Tables) (rest : List ℕ) → WellFormed m
    → IsLaidOut (part m ++ rest) m.name.bytes (flat_map thing_record m.things) (flat_map line_record m.lines)
    (flat_map side_record m.sides) (flat_map vertex_record m.vertices) (flat_map sector_record m.sectors) rest
    (length m.things) (length m.lines) (length m.sides) (length m.vertices) (length m.sectors)
part_laid_out m rest w =
    record {
      is = nested_12 m.name.bytes (unsigned (length m.things)) (unsigned (length m.lines)) (unsigned (length m.sides)) (unsigned (length m.vertices)) (unsigned (length m.sectors)) _ _ _ _ _ rest;
      name_size = marker_size m.name w.name;
      t_fits = omega (arith, w.thing_count);
      l_fits = omega (arith, w.line_count);
      d_fits = omega (arith, w.side_count);
      v_fits = omega (arith, w.vertex_count);
      s_fits = omega (arith, w.sector_count);
      things_size = length-lump thing_at thing_record 10 m.things (things_back m w);
      lines_size = length-lump line_at line_record 14 m.lines (lines_back m w);
      sides_size = length-lump side_at side_record 30 m.sides (sides_back m w);
      vertices_size = length-lump vertex_at vertex_record 4 m.vertices (vertices_back m w);
      sectors_size = length-lump sector_at sector_record 26 m.sectors (sectors_back m w);
    }

-- its length is that of its counts
pub part_size : (m : Tables) → WellFormed m → length (part m) ≡ part_len m
part_size m w =
    let size = laid_out_size _ _ _ _ _ _ _ [] _ _ _ _ _ (part_laid_out m [] w) in
    ap length (sym (append-nil (part m))) ∙ size ∙ omega arith

-- what is in bytes that begin with a well-formed map's part
pub part_holds : (m : Tables) (rest : List ℕ) → WellFormed m → IsFramed (part m ++ rest) × (tables_in (part m ++ rest) ≡ m)
part_holds m rest w =
    let read = read_back _ _ _ _ _ _ _ _ _ _ _ _ _ (part_laid_out m rest w) in
    let things = ap (records_of thing_at 10) read.things_are ∙ records-back thing_at thing_record 10 m.things (omega arith) (things_back m w) in
    let lines = ap (records_of line_at 14) read.lines_are ∙ records-back line_at line_record 14 m.lines (omega arith) (lines_back m w) in
    let sides = ap (records_of side_at 30) read.sides_are ∙ records-back side_at side_record 30 m.sides (omega arith) (sides_back m w) in
    let vertices = ap (records_of vertex_at 4) read.vertices_are ∙ records-back vertex_at vertex_record 4 m.vertices (omega arith) (vertices_back m w) in
    let sectors = ap (records_of sector_at 26) read.sectors_are ∙ records-back sector_at sector_record 26 m.sectors (omega arith) (sectors_back m w) in
    (read.framed, λ i. record { name = record { bytes = read.name_is i }; vertices = vertices i; sectors = sectors i; sides = sides i; lines = lines i; things = things i })

-- framed bytes begin with the part of the tables that they hold
pub part_of_held : (bs : List ℕ) → AreBytes bs → IsFramed bs → part (tables_in bs) ++ behind_sectors bs ≡ bs
part_of_held bs fits h =
    let m = tables_in bs in
    let b0 = length-drop 18 bs in
    let b1 = length-drop (10 * unsigned_at 8 bs) (behind_head bs) in
    let b2 = length-drop (14 * unsigned_at 10 bs) (behind_things bs) in
    let b3 = length-drop (30 * unsigned_at 12 bs) (behind_lines bs) in
    let b4 = length-drop (4 * unsigned_at 14 bs) (behind_sides bs) in
    let things : length (take (10 * unsigned_at 8 bs) (behind_head bs)) ≡ 10 * unsigned_at 8 bs = length-take-le _ _ (omega (arith, h.whole)) in
    let lines : length (take (14 * unsigned_at 10 bs) (behind_things bs)) ≡ 14 * unsigned_at 10 bs = length-take-le _ _ (omega (arith, h.whole)) in
    let sides : length (take (30 * unsigned_at 12 bs) (behind_lines bs)) ≡ 30 * unsigned_at 12 bs = length-take-le _ _ (omega (arith, h.whole)) in
    let vertices : length (take (4 * unsigned_at 14 bs) (behind_sides bs)) ≡ 4 * unsigned_at 14 bs = length-take-le _ _ (omega (arith, h.whole)) in
    let sectors : length (take (26 * unsigned_at 16 bs) (behind_vertices bs)) ≡ 26 * unsigned_at 16 bs = length-take-le _ _ (omega (arith, h.whole)) in
    let fits0 = AreBytes-drop 18 bs fits in
    let fits1 = AreBytes-drop (10 * unsigned_at 8 bs) (behind_head bs) fits0 in
    let fits2 = AreBytes-drop (14 * unsigned_at 10 bs) (behind_things bs) fits1 in
    let fits3 = AreBytes-drop (30 * unsigned_at 12 bs) (behind_lines bs) fits2 in
    let fits4 = AreBytes-drop (4 * unsigned_at 14 bs) (behind_sides bs) fits3 in
    let t = length-records_of thing_at 10 (unsigned_at 8 bs) _ (omega arith) things in
    let l = length-records_of line_at 14 (unsigned_at 10 bs) _ (omega arith) lines in
    let d = length-records_of side_at 30 (unsigned_at 12 bs) _ (omega arith) sides in
    let v = length-records_of vertex_at 4 (unsigned_at 14 bs) _ (omega arith) vertices in
    let s = length-records_of sector_at 26 (unsigned_at 16 bs) _ (omega arith) sectors in
    let front : part_head m ≡ take 18 bs =
    after 16 2 bs _ _ (after 14 2 bs _ _ (after 12 2 bs _ _ (after 10 2 bs _ _ (after 8 2 bs _ _ refl
    (ap unsigned t ∙ unsigned-part 8 bs fits (omega (arith, h.long))))
    (ap unsigned l ∙ unsigned-part 10 bs fits (omega (arith, h.long))))
    (ap unsigned d ∙ unsigned-part 12 bs fits (omega (arith, h.long))))
    (ap unsigned v ∙ unsigned-part 14 bs fits (omega (arith, h.long))))
    (ap unsigned s ∙ unsigned-part 16 bs fits (omega (arith, h.long))) in
    let p0 = lump-back thing_at thing_record 10 (unsigned_at 8 bs) _ (omega arith) things (AreBytes-take _ _ fits0) thing_record-at in
    let p1 = lump-back line_at line_record 14 (unsigned_at 10 bs) _ (omega arith) lines (AreBytes-take _ _ fits1) line_record-at in
    let p2 = lump-back side_at side_record 30 (unsigned_at 12 bs) _ (omega arith) sides (AreBytes-take _ _ fits2) side_record-at in
    let p3 = lump-back vertex_at vertex_record 4 (unsigned_at 14 bs) _ (omega arith) vertices (AreBytes-take _ _ fits3) vertex_record-at in
    let p4 = lump-back sector_at sector_record 26 (unsigned_at 16 bs) _ (omega arith) sectors (AreBytes-take _ _ fits4) sector_record-at in
    (λ i. (front i ++ p0 i ++ p1 i ++ p2 i ++ p3 i ++ p4 i) ++ behind_sectors bs)
    ∙ parts_joined _ _ _ _ _ _ bs (behind_head bs) (behind_things bs) (behind_lines bs) (behind_sides bs) (behind_vertices bs) (behind_sectors bs)
    (take-append-drop 18 bs) (take-append-drop _ (behind_head bs)) (take-append-drop _ (behind_things bs))
    (take-append-drop _ (behind_lines bs)) (take-append-drop _ (behind_sides bs)) (take-append-drop _ (behind_vertices bs))

-- bytes that aren't framed begin with no map's part
pub not_framed : (bs : List ℕ) → (IsFramed bs → ⊥) → NoPartBegins bs
not_framed bs wrong m rest w e = wrong (subst IsFramed e (part_holds m rest w).0)

-- nor do bytes whose tables aren't well-formed
pub not_well_formed : (bs : List ℕ) → (WellFormed (tables_in bs) → ⊥) → NoPartBegins bs
not_well_formed bs wrong m rest w e = wrong (subst WellFormed (sym ((part_holds m rest w).1) ∙ ap tables_in e) w)

-- well-formed tables of framed bytes are the map whose part begins the bytes
pub map_of : (bs : List ℕ) → AreBytes bs → IsFramed bs → WellFormed (tables_in bs) → BeginsWith bs (tables_in bs)
map_of bs fits framed w =
    let m = tables_in bs in
    let held = part_of_held bs fits framed in
    let behind : drop (part_len m) bs ≡ behind_sectors bs = ap (drop (part_len m)) (sym held) ∙ drop_at (part m) (behind_sectors bs) (part_len m) (part_size m w) in
    record { well_formed = w; encoded = ap (λ rest. part m ++ rest) behind ∙ held }

-- the bytes begin with the part of at most one map
pub one_part : (m n : Tables) (r s : List ℕ) → WellFormed m → WellFormed n → part m ++ r ≡ part n ++ s → m ≡ n
one_part m n r s wm wn e = sym (part_holds m r wm).1 ∙ ap tables_in e ∙ (part_holds n s wn).1

-- ---- A map's body

-- its length is that of its counts
pub body_size : (m : Tables) → WellFormed m → length (body m) ≡ body_len_of_one m
body_size m w = omega (arith, part_size m w)

-- what a well-formed map's body holds
pub body_holds : (m : Tables) → WellFormed m → IsFramed (drop 2 (body m)) × (tables_at (body m) ≡ m)
body_holds m w = subst (λ (bs : List ℕ). IsFramed bs × (tables_in bs ≡ m)) (append-nil (part m)) (part_holds m [] w)

-- ---- Refusals

-- a reader that calls another one fails for what follows from the other's reason
pub refuses_for : {P Q : Type 0} → (P → Q) → (e : MapError) → RefusesFor P e → RefusesFor Q e
refuses_for so OutOfMemory h = tt
refuses_for so (Damaged place) h = (h.0, so h.1)
refuses_for so NoVertex h = absurd h
refuses_for so NoSector h = absurd h
refuses_for so NoSide h = absurd h
refuses_for so NoLine h = absurd h
refuses_for so NoThing h = absurd h
refuses_for so InUse h = absurd h
refuses_for so SameEnds h = absurd h
refuses_for so PlaceTaken h = absurd h
refuses_for so TwoSidedWithoutLeft h = absurd h
refuses_for so TableFull h = absurd h
refuses_for so LineTooLong h = absurd h
refuses_for so TooManyMaps h = absurd h
refuses_for so MapNameTaken h = absurd h
refuses_for so NoSuchMap h = absurd h
refuses_for so CurrentMap h = absurd h

pub refused_by : {X : Type 0} {P Q : Type 0} → (P → Q) → (r : Result X MapError) (e : MapError) → IsErrAnd r (λ x. x ≡ e) → RefusesFor P e → IfErr r (RefusesFor Q)
refused_by so (Ok x) e is h = absurd is
refused_by {P = P} so (Err x) e is h = refuses_for so x (subst (RefusesFor P) (sym is) h)

-- ---- The bytes after version 1

module _ (bs rest : List ℕ) (version : bs ≡ 1 ∷ 0 ∷ rest) where
  -- if the rest begins with no part, no map has the bytes
  pub not_behind : NoPartBegins rest → NoMapHas bs
  not_behind none m w e =
      let same : part m ≡ rest = ap (drop 2) (e ∙ version) in
      none m [] w (append-nil (part m) ∙ same)

  module _ (m : Tables) (begins : BeginsWith rest m) where
    -- if the rest is longer than the map's part, no map has the bytes
    pub no_map_longer : (length bs ≡ 2 + part_len m → ⊥) → NoMapHas bs
    no_map_longer longer other w e =
        let same : part other ≡ rest = ap (drop 2) (e ∙ version) in
        let one = one_part other m [] (drop (part_len m) rest) w begins.well_formed (append-nil (part other) ∙ same ∙ sym begins.encoded) in
        longer (ap length (sym e) ∙ body_size other w ∙ ap body_len_of_one one ∙ omega arith)

    -- if it is as long, only that map has the bytes
    pub map_behind : length bs ≡ 2 + part_len m → IsMapOf bs m
    map_behind long =
        let size = ap length version in
        let none : drop (part_len m) rest ≡ [] = drop_of_length-le rest (omega arith) in
        let is : part m ≡ rest = sym (append-nil (part m)) ∙ ap (λ r. part m ++ r) (sym none) ∙ begins.encoded in
        record {
          well_formed = begins.well_formed;
          encoded = ap (λ p. 1 ∷ 0 ∷ p) is ∙ sym version;
          only = λ other w e.
              one_part other m [] [] w begins.well_formed (ap (λ p. p ++ []) (ap (drop 2) (e ∙ version) ∙ sym is));
        }
