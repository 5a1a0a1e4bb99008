-- A map stays well-formed under the edits of its lines and its things.
use Rattle.std.proofs.Common.{◌≡◌, ℕ, false, [], ◌∷◌, None, arith, length-append}
use Rattle.std.proofs.lemmas.List.Elements.{All-push, All-set}
use Rattle.std.proofs.lemmas.List.{length-set}
use Rattle.std.proofs.lemmas.List.Edits.{length-remove}
use Rattle.lump_records.specs.declared.records.Line.{Line}
use Rattle.lump_records.specs.declared.records.Thing.{Thing}
use Rattle.map_tables.specs.Tables.{Tables}
use Rattle.map_tables.specs.Ranges.{IsLine, IsThing}
use Rattle.map_tables.specs.WellFormed.{WellFormed, HasEnds, HasSides}
use Rattle.map_tables.specs.Outcomes.{least}
use Rattle.map_tables.specs.Faults.{reference_faults, shape_faults, line_faults, set_line_faults, drop_line_faults, thing_faults, drop_thing_faults, is_too_long}
use Rattle.map_tables.specs.Edits.{with_line, with_line_at, without_line, with_thing, with_thing_at, without_thing}
use Rattle.map_tables.proofs.ListLemmas.{All-remove}
use Rattle.map_tables.proofs.FaultLemmas.{NoneHold, none_hold, has_room, not_lacking}
use Rattle.map_tables.proofs.FormLemmas.{ends_from, sides_from}

-- a line has its ends if no fault's test holds
pub ends_of : (m : Tables) (l : Line) → NoneHold (reference_faults m l) → NoneHold (shape_faults l) → is_too_long m.vertices l ≡ false → HasEnds m.vertices l
ends_of m l references shape short = ends_from m.vertices l references.0 shape.0 short

-- and its sides
pub sides_of : (m : Tables) (l : Line) → NoneHold (reference_faults m l) → NoneHold (shape_faults l) → HasSides m.sides l
sides_of m l references shape = sides_from m.sides l references.1.0 shape.1.0

-- what a line names exists if adding the line isn't refused
pub new_fits : (m : Tables) (l : Line) → least (line_faults m l) ≡ None → HasEnds m.vertices l × HasSides m.sides l
new_fits m l fine =
    let none = none_hold (line_faults m l) fine in
    let references : NoneHold (reference_faults m l) = (none.0, (none.1.0, tt)) in
    let shape : NoneHold (shape_faults l) = (none.1.1.0, (none.1.1.1.0, tt)) in
    (ends_of m l references shape none.1.1.1.1.1.0, sides_of m l references shape)

-- and if replacing a line by it isn't refused
pub changed_fits : (m : Tables) (n : ℕ) (l : Line) → least (set_line_faults m n l) ≡ None → HasEnds m.vertices l × HasSides m.sides l
changed_fits m n l fine =
    let none = none_hold (set_line_faults m n l) fine in
    let references : NoneHold (reference_faults m l) = (none.0, (none.1.0, tt)) in
    let shape : NoneHold (shape_faults l) = (none.1.1.1.0, (none.1.1.1.1.0, tt)) in
    (ends_of m l references shape none.1.1.1.1.1.0, sides_of m l references shape)

-- with one more line
pub with_line-keeps : (m : Tables) (l : Line) → WellFormed m → IsLine l → least (line_faults m l) ≡ None → WellFormed (with_line m l)
with_line-keeps m l w range fine =
    let none = none_hold (line_faults m l) fine in
    let references : NoneHold (reference_faults m l) = (none.0, (none.1.0, tt)) in
    let shape : NoneHold (shape_faults l) = (none.1.1.0, (none.1.1.1.0, tt)) in
    let room = has_room m.lines none.1.1.1.1.0 in
    let longer = length-append m.lines (l ∷ []) in
    record {
      name = w.name;
      vertices = w.vertices;
      sectors = w.sectors;
      sides = w.sides;
      lines = All-push IsLine m.lines l w.lines range;
      things = w.things;
      places = w.places;
      ends = All-push (HasEnds m.vertices) m.lines l w.ends (ends_of m l references shape none.1.1.1.1.1.0);
      line_sides = All-push (HasSides m.sides) m.lines l w.line_sides (sides_of m l references shape);
      side_sectors = w.side_sectors;
      vertex_count = w.vertex_count;
      sector_count = w.sector_count;
      side_count = w.side_count;
      line_count = omega (arith, longer, room);
      thing_count = w.thing_count;
    }

-- with one line replaced
pub with_line_at-keeps : (m : Tables) (n : ℕ) (l : Line) → WellFormed m → IsLine l → least (set_line_faults m n l) ≡ None → WellFormed (with_line_at m n l)
with_line_at-keeps m n l w range fine =
    let none = none_hold (set_line_faults m n l) fine in
    let references : NoneHold (reference_faults m l) = (none.0, (none.1.0, tt)) in
    let shape : NoneHold (shape_faults l) = (none.1.1.1.0, (none.1.1.1.1.0, tt)) in
    let as_many = length-set m.lines n l in
    record {
      name = w.name;
      vertices = w.vertices;
      sectors = w.sectors;
      sides = w.sides;
      lines = All-set IsLine m.lines n l range w.lines;
      things = w.things;
      places = w.places;
      ends = All-set (HasEnds m.vertices) m.lines n l (ends_of m l references shape none.1.1.1.1.1.0) w.ends;
      line_sides = All-set (HasSides m.sides) m.lines n l (sides_of m l references shape) w.line_sides;
      side_sectors = w.side_sectors;
      vertex_count = w.vertex_count;
      sector_count = w.sector_count;
      side_count = w.side_count;
      line_count = omega (arith, as_many, w.line_count);
      thing_count = w.thing_count;
    }

-- without a line
pub without_line-keeps : (m : Tables) (n : ℕ) → WellFormed m → least (drop_line_faults m n) ≡ None → WellFormed (without_line m n)
without_line-keeps m n w fine =
    let none = none_hold (drop_line_faults m n) fine in
    let fewer = length-remove m.lines n (not_lacking m.lines n none.0) in
    record {
      name = w.name;
      vertices = w.vertices;
      sectors = w.sectors;
      sides = w.sides;
      lines = All-remove IsLine m.lines n w.lines;
      things = w.things;
      places = w.places;
      ends = All-remove (HasEnds m.vertices) m.lines n w.ends;
      line_sides = All-remove (HasSides m.sides) m.lines n w.line_sides;
      side_sectors = w.side_sectors;
      vertex_count = w.vertex_count;
      sector_count = w.sector_count;
      side_count = w.side_count;
      line_count = omega (arith, fewer, w.line_count);
      thing_count = w.thing_count;
    }

-- with one more thing
pub with_thing-keeps : (m : Tables) (t : Thing) → WellFormed m → IsThing t → least (thing_faults m) ≡ None → WellFormed (with_thing m t)
with_thing-keeps m t w range fine =
    let none = none_hold (thing_faults m) fine in
    let room = has_room m.things none.0 in
    let longer = length-append m.things (t ∷ []) in
    record {
      name = w.name;
      vertices = w.vertices;
      sectors = w.sectors;
      sides = w.sides;
      lines = w.lines;
      things = All-push IsThing m.things t w.things range;
      places = w.places;
      ends = w.ends;
      line_sides = w.line_sides;
      side_sectors = w.side_sectors;
      vertex_count = w.vertex_count;
      sector_count = w.sector_count;
      side_count = w.side_count;
      line_count = w.line_count;
      thing_count = omega (arith, longer, room);
    }

-- with one thing replaced
pub with_thing_at-keeps : (m : Tables) (n : ℕ) (t : Thing) → WellFormed m → IsThing t → WellFormed (with_thing_at m n t)
with_thing_at-keeps m n t w range =
    let as_many = length-set m.things n t in
    record {
      name = w.name;
      vertices = w.vertices;
      sectors = w.sectors;
      sides = w.sides;
      lines = w.lines;
      things = All-set IsThing m.things n t range w.things;
      places = w.places;
      ends = w.ends;
      line_sides = w.line_sides;
      side_sectors = w.side_sectors;
      vertex_count = w.vertex_count;
      sector_count = w.sector_count;
      side_count = w.side_count;
      line_count = w.line_count;
      thing_count = omega (arith, as_many, w.thing_count);
    }

-- without a thing
pub without_thing-keeps : (m : Tables) (n : ℕ) → WellFormed m → least (drop_thing_faults m n) ≡ None → WellFormed (without_thing m n)
without_thing-keeps m n w fine =
    let none = none_hold (drop_thing_faults m n) fine in
    let fewer = length-remove m.things n (not_lacking m.things n none.0) in
    record {
      name = w.name;
      vertices = w.vertices;
      sectors = w.sectors;
      sides = w.sides;
      lines = w.lines;
      things = All-remove IsThing m.things n w.things;
      places = w.places;
      ends = w.ends;
      line_sides = w.line_sides;
      side_sectors = w.side_sectors;
      vertex_count = w.vertex_count;
      sector_count = w.sector_count;
      side_count = w.side_count;
      line_count = w.line_count;
      thing_count = omega (arith, fewer, w.thing_count);
    }
