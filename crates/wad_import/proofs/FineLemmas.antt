-- A level that nothing refuses has lists of a map after the changes.
use Rattle.std.proofs.Common.{◌≡◌, ℕ, ◌+◌, ◌-◌, ◌<◌, ◌≤◌, Bool, true, false, not, ◌&&◌, ◌||◌, cond, nat_eq, List, length, get_or, Some, None, refl, sym, arith, All}
use Rattle.std.specs.Prelude.{position, map, bytes_eq}
use Rattle.std.specs.Option.{option_map, option_or}
use Rattle.std.proofs.lemmas.Bool.{and_parts}
use Rattle.std.proofs.lemmas.Slice.Eq.{bytes_eq-Decides}
use Rattle.std.proofs.lemmas.List.{length-map}
use Rattle.std.proofs.lemmas.List.Elements.{All-filter, All-map, All-weaker, filter_passes}
use Rattle.lump_records.specs.Names.{IsNamed, is_marker, name_of, name_text}
use Rattle.lump_records.specs.declared.records.Name8.{Name8}
use Rattle.lump_records.specs.declared.records.Line.{Line}
use Rattle.wad_levels.specs.Drawn.{DrawnLists, has_need, is_drawable, is_item_number, side_hindrance}
use Rattle.wad_levels.specs.Lengths.{has_no_length, other_hindrance, other_line_hindrance}
use Rattle.wad_levels.specs.declared.hindrance.LineNeed.{LineNeed}
use Rattle.wad_levels.specs.declared.hindrance.LineNeed.TheVariants.{Vertices, RightSide, LeftSide, SomeLength, Coordinates, AtMostLongest}
use Rattle.wad_levels.specs.declared.hindrance.Hindrance.TheVariants.{LineLacks, NoLine, SideSector}
use Rattle.map_tables.specs.Ranges.{IsLine, IsVertex}
use Rattle.map_tables.specs.WellFormed.{HasEnds, HasSector, HasSides}
use Rattle.map_tables.specs.declared.kind.Kind.TheVariants as kind
use Rattle.wad_import.specs.declared.error.ImportError.TheVariants.{Hindered, NoMarker, VertexOutside, SectorName, SectorNumber, SideName, LineNumber}
use Rattle.std.proofs.Math.Nat.{le-max_left, le-max_right}
use Rattle.wad_import.specs.Mended.{is_kept, lacks_left_side, mended_sector, mended_side, mended_thing}
use Rattle.wad_import.specs.Imported.{kept_lines, kept_things, reached_vertices, same_name, vertex_reach}
use Rattle.wad_import.specs.Refused.{count_refusal, excess, first_without, has_flat_names, has_line_codes, has_sector_codes, has_texture_names, is_map_name, is_out_or_has_codes, item_refusal, import_refusal}
use Rattle.wad_import.specs.Added.{IsBetweenSome, HasSectorRanges, HasSideRanges, HasThingRanges, IsFine}
use Rattle.wad_import.specs.Added.{imported_lines, imported_vertices}
use Rattle.wad_import.specs.Once.{kept_number}
use Rattle.wad_import.specs.Mended.{linked_line}
use Rattle.wad_import.proofs.RefusalLemmas.{all_have, all_pass, both_none, few, none_mapped}
use Rattle.wad_import.proofs.ItemLemmas.{drawn_vertex_is, sector_is, side_is, thing_is}
use Rattle.wad_import.proofs.LineLemmas.{IsLinked, among, by_flags, ends_are, line_is, linked, number_is, reached, sides_are, two_gone, two_stays}

-- ---- All lists

pub not_from_true_not : (t : Bool) → not t ≡ true → t ≡ false
not_from_true_not true h = absurd cc
not_from_true_not false h = refl

other_true : (t u : Bool) → t ≡ false → (t || u) ≡ true → u ≡ true
other_true true u e h = absurd cc
other_true false u e h = h

-- what holds of each line or else of one that is left out holds of each line that stays
all_stay : (d : DrawnLists) (p : Line → Bool) → All (λ x. (has_no_length d x || p x) ≡ true) d.lines → All (λ x. p x ≡ true) (kept_lines d)
all_stay d p all = λ k e h.
    let x = get_or (kept_lines d) k e in
    let stays = not_from_true_not (has_no_length d x) (filter_passes (λ x. not (has_no_length d x)) d.lines k e h) in
    other_true (has_no_length d x) (p x) stays (All-filter (λ x. not (has_no_length d x)) (λ x. (has_no_length d x || p x) ≡ true) d.lines all k e h)

all_need : (d : DrawnLists) (need : LineNeed) → other_line_hindrance d need ≡ None → All (λ x. has_need d need x ≡ true) (kept_lines d)
all_need d need h =
    all_stay d (has_need d need) (all_pass (λ x. has_no_length d x || has_need d need x) d.lines
    (none_mapped (LineLacks need) (position (λ x. not (has_no_length d x || has_need d need x)) d.lines) h))

-- a line that stays, between vertices that are there, has a length
has_some : (d : DrawnLists) (x : Line) → not (has_no_length d x) ≡ true → has_need d Vertices x ≡ true → has_need d SomeLength x ≡ true
has_some d x stays ends = by (has_need d Vertices x) (has_need d SomeLength x) stays ends
  where
    by : (t u : Bool) → not (t && not u) ≡ true → t ≡ true → u ≡ true
    by true true h e = refl
    by true false h e = absurd cc
    by false u h e = absurd cc

record HasAll (d : DrawnLists) : Type 0 where
  lines : All (IsLinked d) (kept_lines d)
  sides : All (λ s. is_item_number s.sector (length d.sectors) ≡ true) d.sides

all_linked : (d : DrawnLists) → other_hindrance d ≡ None → HasAll d
all_linked d h =
    let last = cond (nat_eq (length (kept_lines d)) 0) (Some NoLine) None in
    let places = option_or (other_line_hindrance d Coordinates) (option_or (other_line_hindrance d AtMostLongest) last) in
    let two = option_or (other_line_hindrance d RightSide) (option_or (other_line_hindrance d LeftSide) places) in
    let ends = both_none (other_line_hindrance d Vertices) (option_or (side_hindrance d) two) h in
    let sides = both_none (side_hindrance d) two ends.1 in
    let right = both_none (other_line_hindrance d RightSide) (option_or (other_line_hindrance d LeftSide) places) sides.1 in
    let left = both_none (other_line_hindrance d LeftSide) places right.1 in
    let drawable = both_none (other_line_hindrance d Coordinates) (option_or (other_line_hindrance d AtMostLongest) last) left.1 in
    let short = (both_none (other_line_hindrance d AtMostLongest) last drawable.1).0 in
    record {
      lines = λ k e l.
          let x = get_or (kept_lines d) k e in
          let there = all_need d Vertices ends.0 k e l in
          linked d x there (all_need d RightSide right.0 k e l) (all_need d LeftSide left.0 k e l)
          (has_some d x (filter_passes (λ x. not (has_no_length d x)) d.lines k e l) there) (all_need d AtMostLongest short k e l);
      sides = all_pass (λ s. is_item_number s.sector (length d.sectors)) d.sides
          (none_mapped SideSector (position (λ s. not (is_item_number s.sector (length d.sectors))) d.sides) sides.0);
    }

-- no table has too many
record AreFew (d : DrawnLists) : Type 0 where
  vertices : length (reached_vertices d) ≤ 32767
  sectors : length d.sectors ≤ 4096
  sides : length d.sides ≤ 32767
  lines : length (kept_lines d) ≤ 32767
  things : length (kept_things d) ≤ 32767

all_few : (d : DrawnLists) → count_refusal d ≡ None → AreFew d
all_few d h =
    let vertices = excess kind.Vertex 32767 (length (reached_vertices d)) in
    let sectors = excess kind.Sector 4096 (length d.sectors) in
    let sides = excess kind.Side 32767 (length d.sides) in
    let lines = excess kind.Line 32767 (length (kept_lines d)) in
    let things = excess kind.Thing 32767 (length (kept_things d)) in
    let v = both_none vertices (option_or sectors (option_or sides (option_or lines things))) h in
    let s = both_none sectors (option_or sides (option_or lines things)) v.1 in
    let t = both_none sides (option_or lines things) s.1 in
    let l = both_none lines things t.1 in
    record {
      vertices = few kind.Vertex 32767 (length (reached_vertices d)) v.0;
      sectors = few kind.Sector 4096 (length d.sectors) s.0;
      sides = few kind.Side 32767 (length d.sides) t.0;
      lines = few kind.Line 32767 (length (kept_lines d)) l.0;
      things = few kind.Thing 32767 (length (kept_things d)) l.1;
    }

record AreSound (d : DrawnLists) : Type 0 where
  vertices : All (λ v. is_drawable v ≡ true) (reached_vertices d)
  flats : All (λ s. has_flat_names s ≡ true) d.sectors
  sectors : All (λ s. has_sector_codes s ≡ true) d.sectors
  sides : All (λ s. has_texture_names s ≡ true) d.sides
  lines : All (λ x. has_line_codes x ≡ true) (kept_lines d)

all_sound : (d : DrawnLists) → item_refusal d ≡ None → AreSound d
all_sound d h =
    let vertices = first_without VertexOutside is_drawable (reached_vertices d) in
    let flats = first_without SectorName has_flat_names d.sectors in
    let sectors = first_without SectorNumber has_sector_codes d.sectors in
    let sides = first_without SideName has_texture_names d.sides in
    let lines = first_without LineNumber (is_out_or_has_codes d) d.lines in
    let v = both_none vertices (option_or flats (option_or sectors (option_or sides lines))) h in
    let f = both_none flats (option_or sectors (option_or sides lines)) v.1 in
    let s = both_none sectors (option_or sides lines) f.1 in
    let t = both_none sides lines s.1 in
    record {
      vertices = all_have VertexOutside is_drawable (reached_vertices d) v.0;
      flats = all_have SectorName has_flat_names d.sectors f.0;
      sectors = all_have SectorNumber has_sector_codes d.sectors s.0;
      sides = all_have SideName has_texture_names d.sides t.0;
      lines = all_stay d has_line_codes (all_have LineNumber (is_out_or_has_codes d) d.lines t.1);
    }

v1_reached : (d : DrawnLists) (k : ℕ) (e : Line) → k < length (kept_lines d) → (get_or (kept_lines d) k e).v1 < vertex_reach (kept_lines d)
v1_reached d k e h = let x = get_or (kept_lines d) k e in reached d k x.v1 e h (le-max_left (x.v1 + 1) (x.v2 + 1))

v2_reached : (d : DrawnLists) (k : ℕ) (e : Line) → k < length (kept_lines d) → (get_or (kept_lines d) k e).v2 < vertex_reach (kept_lines d)
v2_reached d k e h = let x = get_or (kept_lines d) k e in reached d k x.v2 e h (le-max_right (x.v1 + 1) (x.v2 + 1))

-- a line with the ends of another, between the vertices of the map
abbrev joined_from : DrawnLists → Line → Line → Line
joined_from d x y = record y { v1 = kept_number (reached_vertices d) x.v1; v2 = kept_number (reached_vertices d) x.v2 }

lines_fit : (d : DrawnLists) → HasAll d → AreFew d → AreSound d → All IsLine (imported_lines d)
lines_fit d all count sound = All-map IsLine (linked_line (kept_number (reached_vertices d))) (kept_lines d) (λ k e h.
    let x = get_or (kept_lines d) k e in
    let link = all.lines k e h in
    let codes = sound.lines k e h in
    let h1 = v1_reached d k e h in
    let h2 = v2_reached d k e h in
    by_flags (λ y. IsLine (joined_from d x y)) x (lacks_left_side x) refl
    (λ _. line_is d x (x.flags - 4) link codes (omega arith) h1 h2 count.vertices count.sides)
    (λ _. line_is d x x.flags link codes (omega arith) h1 h2 count.vertices count.sides))

lines_end : (d : DrawnLists) → HasAll d → All (HasEnds (imported_vertices d)) (imported_lines d)
lines_end d all = All-map (HasEnds (imported_vertices d)) (linked_line (kept_number (reached_vertices d))) (kept_lines d) (λ k e h.
    let x = get_or (kept_lines d) k e in
    let link = all.lines k e h in
    by_flags (λ y. HasEnds (imported_vertices d) (joined_from d x y)) x (lacks_left_side x) refl
    (λ _. ends_are d x (x.flags - 4) link (v1_reached d k e h) (v2_reached d k e h))
    (λ _. ends_are d x x.flags link (v1_reached d k e h) (v2_reached d k e h)))

lines_face : (d : DrawnLists) → HasAll d → All (HasSides (map mended_side d.sides)) (imported_lines d)
lines_face d all = All-map (HasSides (map mended_side d.sides)) (linked_line (kept_number (reached_vertices d))) (kept_lines d) (λ k e h.
    let x = get_or (kept_lines d) k e in
    let link = all.lines k e h in
    by_flags (λ y. HasSides (map mended_side d.sides) (joined_from d x y)) x (lacks_left_side x) refl
    (λ gone. sides_are d x (x.flags - 4) link (two_gone x gone))
    (λ stays. sides_are d x x.flags link (two_stays x stays)))

sides_fit : (d : DrawnLists) → HasAll d → AreFew d → AreSound d → All HasSideRanges (map mended_side d.sides)
sides_fit d all count sound = All-map HasSideRanges mended_side d.sides (λ k e h.
    let most = count.sectors in
    let within = number_is (get_or d.sides k e).sector (length d.sectors) (all.sides k e h) in
    side_is (get_or d.sides k e) (sound.sides k e h) (omega (arith, most, within)))

sides_face : (d : DrawnLists) → HasAll d → All (HasSector (map mended_sector d.sectors)) (map mended_side d.sides)
sides_face d all = All-map (HasSector (map mended_sector d.sectors)) mended_side d.sides (λ k e h.
    let count = length-map d.sectors mended_sector in
    let within = number_is (get_or d.sides k e).sector (length d.sectors) (all.sides k e h) in
    omega (arith, count, within))

things_fit : (d : DrawnLists) → All HasThingRanges (map mended_thing (kept_things d))
things_fit d = All-map HasThingRanges mended_thing (kept_things d) (λ k e h. thing_is (get_or (kept_things d) k e) (filter_passes is_kept d.things k e h))

-- each line runs between two of the vertices that are reached
pub ends_reached : (d : DrawnLists) → other_hindrance d ≡ None → All (IsBetweenSome (length (reached_vertices d))) (kept_lines d)
ends_reached d hindered =
    let all = all_linked d hindered in
    λ k e h.
    let x = get_or (kept_lines d) k e in
    let link = all.lines k e h in
    record { v1 = among d x.v1 (v1_reached d k e h) link.v1; v2 = among d x.v2 (v2_reached d k e h) link.v2 }

-- nothing hinders it, it has a map's name, and no table and no item refuses it
record IsUnrefused (name : Name8) (d : DrawnLists) : Type 0 where
  unhindered : other_hindrance d ≡ None
  named : cond (is_map_name name) None (Some NoMarker) ≡ None
  counts : count_refusal d ≡ None
  items : item_refusal d ≡ None

unrefused : (name : Name8) (d : DrawnLists) → import_refusal name d ≡ None → IsUnrefused name d
unrefused name d refused =
    let name_refusal = cond (is_map_name name) None (Some NoMarker) in
    let first = both_none (option_map Hindered (other_hindrance d)) (option_or name_refusal (option_or (count_refusal d) (item_refusal d))) refused in
    let second = both_none name_refusal (option_or (count_refusal d) (item_refusal d)) first.1 in
    let parts = both_none (count_refusal d) (item_refusal d) second.1 in
    record { unhindered = none_mapped Hindered (other_hindrance d) first.0; named = second.0; counts = parts.0; items = parts.1 }

pub fine : (name : Name8) (d : DrawnLists) → import_refusal name d ≡ None → IsFine d
fine name d refused =
    let parts = unrefused name d refused in
    let hindered = parts.unhindered in
    let all = all_linked d hindered in
    let count = all_few d parts.counts in
    let sound = all_sound d parts.items in
    let drawn : All IsVertex (reached_vertices d) = All-weaker (λ v. is_drawable v ≡ true) IsVertex drawn_vertex_is (reached_vertices d) sound.vertices in
    record {
      drawn = drawn;
      reached = ends_reached d hindered;
      sectors = All-map HasSectorRanges mended_sector d.sectors (λ k e h. sector_is (get_or d.sectors k e) (sound.flats k e h) (sound.sectors k e h));
      sides = sides_fit d all count sound;
      lines = lines_fit d all count sound;
      things = things_fit d;
      ends = lines_end d all;
      line_sides = lines_face d all;
      side_sectors = sides_face d all;
      vertex_count = count.vertices;
      sector_count = let n = length-map d.sectors mended_sector in let most = count.sectors in omega (arith, n, most);
      side_count = let n = length-map d.sides mended_side in let most = count.sides in omega (arith, n, most);
      line_count = let n = length-map (kept_lines d) (linked_line (kept_number (reached_vertices d))) in let most = count.lines in omega (arith, n, most);
      thing_count = let n = length-map (kept_things d) mended_thing in let most = count.things in omega (arith, n, most);
    }

no_marker : (name : Name8) (t : Bool) → is_map_name name ≡ t → cond t None (Some NoMarker) ≡ None → is_map_name name ≡ true
no_marker name true e h = e
no_marker name false e h = absurd cc

same_bytes_are : (xs ys : List ℕ) → bytes_eq xs ys ≡ true → xs ≡ ys
same_bytes_are xs ys h = (bytes_eq-Decides xs ys).0 h

pub map_named : (name : Name8) (d : DrawnLists) → import_refusal name d ≡ None → IsNamed is_marker name
map_named name d refused =
    let first = unrefused name d refused in
    let parts = and_parts (same_name (name_of (name_text name)) name) (is_marker (name_text name)) (no_marker name (is_map_name name) refl first.named) in
    record { padded = λ i. record { bytes = sym (same_bytes_are (name_of (name_text name)).bytes name.bytes parts.0) i }; named = parts.1 }
