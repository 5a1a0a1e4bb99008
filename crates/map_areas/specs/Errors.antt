-- The numbers of the refusals.
use Rattle.std.specs.Prelude.{◌≡◌, ℕ}
use Rattle.map_areas.specs.declared.error.AreaError.{AreaError}
use Rattle.map_areas.specs.declared.error.AreaError.TheVariants.{OutOfRange, NotAPolygon, Crossing, SeveralSectors, NotEmpty, OverVertex, Refused, OutOfMemory}
use Rattle.map_tables.specs.Errors as of_map
use Rattle.map_tables.specs.declared.error.MapError.{MapError}
use Rattle.map_tables.specs.declared.error.MapError.TheVariants as map_error

-- the number of each refusal
abbrev pub code_of : AreaError → ℕ
code_of OutOfRange = 2
code_of (NotAPolygon corner) = 25
code_of (Crossing line near) = 26
code_of (SeveralSectors first second) = 27
code_of (NotEmpty line) = 28
code_of (OverVertex vertex) = 28
code_of (Refused e) = of_map.code_of e
code_of OutOfMemory = 31

-- the refusal of a command that a map refuses
abbrev pub refused_as : MapError → AreaError
refused_as map_error.OutOfMemory = OutOfMemory
refused_as e = Refused e

-- the refusal is lack of memory
abbrev pub IsOfMemory : AreaError → Type 0
IsOfMemory e = e ≡ OutOfMemory

-- the refusal isn't that of the outline, or of a number or a name out of its range
abbrev pub IsOfMap : AreaError → Type 0
IsOfMap (NotAPolygon corner) = ⊥
IsOfMap OutOfRange = ⊥
IsOfMap e = Unit {0}
