-- Refusals of the steps of an area, and the order in which they come.
use Rattle.std.proofs.Common.{◌≡◌, List, None, Result, Ok, Err, false, true, subst, sym}
use Rattle.std.specs.Result.{IfErr, IsErrAnd}
use Rattle.map_plane.specs.Places.{placed_lines}
use Rattle.map_plane.specs.declared.places.PlacedLine.{PlacedLine}
use Rattle.map_tables.specs.Tables.{Tables}
use Rattle.map_areas.specs.Drawn.{RefusesDrawing}
use Rattle.map_areas.specs.Errors.{IsOfMap}
use Rattle.map_areas.specs.Order.{ComesAfterSectors, ComesInOrder, IsOfCrossing, IsOfRound, MayBecome}
use Rattle.map_areas.specs.Refusals.{CrossWhole, IsAreaRefusal, IsInsideRefusal, IsOfSectors, are_several, is_border_part}
use Rattle.map_areas.specs.declared.error.AreaError.{AreaError}
use Rattle.map_areas.specs.declared.error.AreaError.TheVariants.{Crossing, NotAPolygon, NotEmpty, OutOfMemory, OutOfRange, OverVertex, Refused, SeveralSectors}
use Rattle.map_areas.specs.declared.error.Part.{Part}

-- what holds of a refusal holds of the one that is passed on
pub passed_on : {X : Type 0} (P : AreaError → Type 0) (r : Result X AreaError) (e : AreaError) → IsErrAnd r (λ x. x ≡ e) → P e → IfErr r P
passed_on P (Ok x) e is h = absurd is
passed_on P (Err x) e is h = subst P (sym is) h

pub crossing_of_map : (e : AreaError) → IsOfCrossing e → IsOfMap e
crossing_of_map OutOfRange h = absurd h
crossing_of_map (NotAPolygon corner) h = absurd h
crossing_of_map (Crossing line near) h = tt
crossing_of_map (SeveralSectors first second) h = absurd h
crossing_of_map (NotEmpty line) h = absurd h
crossing_of_map (OverVertex vertex) h = absurd h
crossing_of_map (Refused e) h = absurd h
crossing_of_map OutOfMemory h = tt

pub round_of_map : (e : AreaError) → IsOfRound e → IsOfMap e
round_of_map OutOfRange h = absurd h
round_of_map (NotAPolygon corner) h = absurd h
round_of_map (Crossing line near) h = absurd h
round_of_map (SeveralSectors first second) h = tt
round_of_map (NotEmpty line) h = tt
round_of_map (OverVertex vertex) h = absurd h
round_of_map (Refused e) h = absurd h
round_of_map OutOfMemory h = tt

pub sectors_of_round : (e : AreaError) → IsOfSectors e → IsOfRound e
sectors_of_round OutOfRange h = absurd h
sectors_of_round (NotAPolygon corner) h = absurd h
sectors_of_round (Crossing line near) h = absurd h
sectors_of_round (SeveralSectors first second) h = tt
sectors_of_round (NotEmpty line) h = absurd h
sectors_of_round (OverVertex vertex) h = absurd h
sectors_of_round (Refused e) h = absurd h
sectors_of_round OutOfMemory h = absurd h

pub sectors_after : (m : Tables) (es : List PlacedLine) (e : AreaError) → IsOfSectors e → ComesAfterSectors m es e
sectors_after m es OutOfRange h = absurd h
sectors_after m es (NotAPolygon corner) h = absurd h
sectors_after m es (Crossing line near) h = absurd h
sectors_after m es (SeveralSectors first second) h = tt
sectors_after m es (NotEmpty line) h = absurd h
sectors_after m es (OverVertex vertex) h = absurd h
sectors_after m es (Refused e) h = absurd h
sectors_after m es OutOfMemory h = absurd h

pub inside_of_round : (m : Tables) (es ds : List PlacedLine) (e : AreaError) → IsInsideRefusal m es ds e → IsOfRound e
inside_of_round m es ds OutOfRange h = absurd h
inside_of_round m es ds (NotAPolygon corner) h = absurd h
inside_of_round m es ds (Crossing line near) h = absurd h
inside_of_round m es ds (SeveralSectors first second) h = absurd h
inside_of_round m es ds (NotEmpty line) h = tt
inside_of_round m es ds (OverVertex vertex) h = absurd h
inside_of_round m es ds (Refused e) h = absurd h
inside_of_round m es ds OutOfMemory h = tt

-- a line inside is one in the void, if that is along the border
pub inside_void : (m : Tables) (es ds : List PlacedLine) (e : AreaError) → IsInsideRefusal m es ds e → (p : Part) → is_border_part m es p ≡ true → p.sector ≡ None
    → IsAreaRefusal m es ds e
inside_void m es ds OutOfRange h p part void = absurd h
inside_void m es ds (NotAPolygon corner) h p part void = absurd h
inside_void m es ds (Crossing line near) h p part void = absurd h
inside_void m es ds (SeveralSectors first second) h p part void = absurd h
inside_void m es ds (NotEmpty line) h p part void = (p, part, void, h)
inside_void m es ds (OverVertex vertex) h p part void = absurd h
inside_void m es ds (Refused e) h p part void = absurd h
inside_void m es ds OutOfMemory h p part void = tt

pub inside_after : (m : Tables) (es : List PlacedLine) (e : AreaError) → IsOfRound e → ((first second : Part) → are_several m es first second ≡ false) → ComesAfterSectors m es e
inside_after m es OutOfRange h one = absurd h
inside_after m es (NotAPolygon corner) h one = absurd h
inside_after m es (Crossing line near) h one = absurd h
inside_after m es (SeveralSectors first second) h one = tt
inside_after m es (NotEmpty line) h one = one
inside_after m es (OverVertex vertex) h one = absurd h
inside_after m es (Refused e) h one = absurd h
inside_after m es OutOfMemory h one = tt

pub crossing_in_order : (m : Tables) (es : List PlacedLine) (e : AreaError) → IsOfCrossing e → ComesInOrder m es e
crossing_in_order m es OutOfRange h = absurd h
crossing_in_order m es (NotAPolygon corner) h = absurd h
crossing_in_order m es (Crossing line near) h = tt
crossing_in_order m es (SeveralSectors first second) h = absurd h
crossing_in_order m es (NotEmpty line) h = absurd h
crossing_in_order m es (OverVertex vertex) h = absurd h
crossing_in_order m es (Refused e) h = absurd h
crossing_in_order m es OutOfMemory h = tt

pub round_in_order : (m : Tables) (es : List PlacedLine) (e : AreaError) → IsOfRound e → CrossWhole (placed_lines m) es → ComesAfterSectors m es e → ComesInOrder m es e
round_in_order m es OutOfRange h whole one = absurd h
round_in_order m es (NotAPolygon corner) h whole one = absurd h
round_in_order m es (Crossing line near) h whole one = absurd h
round_in_order m es (SeveralSectors first second) h whole one = whole
round_in_order m es (NotEmpty line) h whole one = record { whole = whole; sectors = one }
round_in_order m es (OverVertex vertex) h whole one = absurd h
round_in_order m es (Refused e) h whole one = absurd h
round_in_order m es OutOfMemory h whole one = tt

pub drawing_in_order : (m : Tables) (es : List PlacedLine) (e : AreaError) → RefusesDrawing m es e → MayBecome m es → ComesInOrder m es e
drawing_in_order m es OutOfRange h may = absurd h
drawing_in_order m es (NotAPolygon corner) h may = absurd h
drawing_in_order m es (Crossing line near) h may = absurd h
drawing_in_order m es (SeveralSectors first second) h may = absurd h
drawing_in_order m es (NotEmpty line) h may = absurd h
drawing_in_order m es (OverVertex vertex) h may = absurd h
drawing_in_order m es (Refused e) h may = may
drawing_in_order m es OutOfMemory h may = tt
