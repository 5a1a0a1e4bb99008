-- A map stays well-formed under the edits of its sectors.
use Rattle.std.proofs.Common.{◌≡◌, ℕ, [], ◌∷◌, length, None, arith, get_or, length-append}
use Rattle.std.specs.List.{remove}
use Rattle.std.proofs.lemmas.Bool.{eqb-false}
use Rattle.std.proofs.lemmas.List.Elements.{All-push, All-map, All-set}
use Rattle.std.proofs.lemmas.List.{length-map, length-set}
use Rattle.std.proofs.lemmas.List.Edits.{length-remove}
use Rattle.lump_records.specs.declared.records.Sector.{Sector}
use Rattle.lump_records.specs.declared.records.Side.{Side}
use Rattle.map_tables.specs.Tables.{Tables}
use Rattle.map_tables.specs.Ranges.{IsSector, IsSide}
use Rattle.map_tables.specs.WellFormed.{WellFormed, HasSector}
use Rattle.map_tables.specs.Outcomes.{least}
use Rattle.map_tables.specs.Faults.{sector_faults, drop_sector_faults, in_sector}
use Rattle.map_tables.specs.Edits.{with_sector, with_sector_at, without_sector, side_without_sector}
use Rattle.map_tables.proofs.ListLemmas.{All-remove, lowered_le, lowered_fits}
use Rattle.map_tables.proofs.FaultLemmas.{none_hold, has_sector_room, none_passes, not_lacking}

-- with one more sector
pub with_sector-keeps : (m : Tables) (s : Sector) → WellFormed m → IsSector s → least (sector_faults m) ≡ None → WellFormed (with_sector m s)
with_sector-keeps m s w range fine =
    let none = none_hold (sector_faults m) fine in
    let room = has_sector_room m.sectors none.0 in
    let longer = length-append m.sectors (s ∷ []) in
    record {
      name = w.name;
      vertices = w.vertices;
      sectors = All-push IsSector m.sectors s w.sectors range;
      sides = w.sides;
      lines = w.lines;
      things = w.things;
      places = w.places;
      ends = w.ends;
      line_sides = w.line_sides;
      side_sectors = λ k d h. omega (arith, longer, w.side_sectors k d h);
      vertex_count = w.vertex_count;
      sector_count = omega (arith, longer, room);
      side_count = w.side_count;
      line_count = w.line_count;
      thing_count = w.thing_count;
    }

-- with one sector replaced
pub with_sector_at-keeps : (m : Tables) (n : ℕ) (s : Sector) → WellFormed m → IsSector s → WellFormed (with_sector_at m n s)
with_sector_at-keeps m n s w range =
    let as_many = length-set m.sectors n s in
    record {
      name = w.name;
      vertices = w.vertices;
      sectors = All-set IsSector m.sectors n s range w.sectors;
      sides = w.sides;
      lines = w.lines;
      things = w.things;
      places = w.places;
      ends = w.ends;
      line_sides = w.line_sides;
      side_sectors = λ k d h. omega (arith, as_many, w.side_sectors k d h);
      vertex_count = w.vertex_count;
      sector_count = omega (arith, as_many, w.sector_count);
      side_count = w.side_count;
      line_count = w.line_count;
      thing_count = w.thing_count;
    }

-- a side's sector stays in range
pub range_without_sector : (n : ℕ) (s : Side) → IsSide s → IsSide (side_without_sector n s)
range_without_sector n s h =
    record {
      x_offset = h.x_offset;
      y_offset = h.y_offset;
      upper = h.upper;
      lower = h.lower;
      middle = h.middle;
      sector = omega (arith, lowered_le n s.sector, h.sector);
    }

-- without a sector to which no side belongs
pub without_sector-keeps : (m : Tables) (n : ℕ) → WellFormed m → least (drop_sector_faults m n) ≡ None → WellFormed (without_sector m n)
without_sector-keeps m n w fine =
    let none = none_hold (drop_sector_faults m n) fine in
    let at = not_lacking m.sectors n none.0 in
    let unused = none_passes (in_sector n) m.sides none.1.0 in
    let fewer = length-remove m.sectors n at in
    let as_many = length-map m.sides (side_without_sector n) in
    record {
      name = w.name;
      vertices = w.vertices;
      sectors = All-remove IsSector m.sectors n w.sectors;
      sides = All-map IsSide (side_without_sector n) m.sides (λ k d h. range_without_sector n (get_or m.sides k d) (w.sides k d h));
      lines = w.lines;
      things = w.things;
      places = w.places;
      ends = w.ends;
      line_sides = λ k d h.
          let old = w.line_sides k d h in
          record { right = rw as_many old.right; left = λ some. rw as_many (old.left some); two_sided = old.two_sided };
      side_sectors = All-map (HasSector (remove m.sectors n)) (side_without_sector n) m.sides (λ k d h.
          lowered_fits n (get_or m.sides k d).sector (length (remove m.sectors n)) (omega arith) (omega (arith, w.side_sectors k d h)) (eqb-false (get_or m.sides k d).sector n (unused k d h)));
      vertex_count = w.vertex_count;
      sector_count = omega (arith, fewer, w.sector_count);
      side_count = rw as_many w.side_count;
      line_count = w.line_count;
      thing_count = w.thing_count;
    }
