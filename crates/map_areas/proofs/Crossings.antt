-- Edges that cross lines at whole places alone.
use Rattle.std.proofs.Common.{◌≡◌, ℕ, ◌<◌, ◌≤◌, List, length, Some, ap, ◌∙◌, arith}
use Rattle.std.specs.List.{slice_get}
use Rattle.std.proofs.lemmas.Option.{slice_get_within}
use Rattle.map_plane.proofs.LineReads.{length-placed_lines}
use Rattle.map_plane.specs.Places.{placed_lines}
use Rattle.map_plane.specs.declared.places.PlacedLine.{PlacedLine}
use Rattle.map_tables.specs.Tables.{Tables}
use Rattle.map_areas.specs.Refusals.{AreEdgesRefused, CrossWhole, CrossesBetween, IsEdgeRefusal}
use Rattle.map_areas.specs.declared.error.AreaError.{AreaError}
use Rattle.map_areas.specs.declared.error.AreaError.TheVariants.{Crossing, NotAPolygon, NotEmpty, OutOfMemory, OutOfRange, OverVertex, Refused, SeveralSectors}

-- no line with a number at all
pub crosses_all : (m : Tables) (ls : List PlacedLine) (e : PlacedLine) (n : ℕ) → ls ≡ placed_lines m → length m.lines ≤ n
    → ((k : ℕ) → k < n → CrossesBetween ls e k → ⊥) → (k : ℕ) → CrossesBetween ls e k → ⊥
crosses_all m ls e n is le none k h =
    let within : k < length ls = slice_get_within ls k h.0 h.1 in
    let size : length ls ≡ length m.lines = ap length is ∙ length-placed_lines m in
    none k (omega arith) h

-- no edge at all
pub whole_all : (ls es : List PlacedLine) (n : ℕ) → length es ≤ n
    → ((k : ℕ) → k < n → (e : PlacedLine) → slice_get es k ≡ Some e → (i : ℕ) → CrossesBetween ls e i → ⊥) → CrossWhole ls es
whole_all ls es n le none i h =
    let within : h.0 < length es = slice_get_within es h.0 h.1 h.2 in
    none h.0 (omega arith) h.1 h.2 i h.3

-- a refusal for one of the edges is one for all
pub edge_refused : (ls es : List PlacedLine) (k : ℕ) (e : PlacedLine) → slice_get es k ≡ Some e → (r : AreaError) → IsEdgeRefusal ls e r → AreEdgesRefused ls es r
edge_refused ls es k e is OutOfRange h = absurd h
edge_refused ls es k e is (NotAPolygon corner) h = absurd h
edge_refused ls es k e is (Crossing line near) h = (k, e, is, h)
edge_refused ls es k e is (SeveralSectors first second) h = absurd h
edge_refused ls es k e is (NotEmpty line) h = absurd h
edge_refused ls es k e is (OverVertex vertex) h = absurd h
edge_refused ls es k e is (Refused r) h = absurd h
edge_refused ls es k e is OutOfMemory h = tt
