-- The numbers and names of areas and pillars, and refusals for them.
use Rattle.std.specs.Prelude.{All}
use Rattle.map_tables.specs.Ranges.{IsNamed, IsSector, IsVertex, is_name}
use Rattle.map_areas.specs.declared.area.Area.{Area}
use Rattle.map_areas.specs.declared.error.AreaError.{AreaError}
use Rattle.map_areas.specs.declared.error.AreaError.TheVariants.{NotAPolygon, OutOfMemory, OutOfRange}
use Rattle.map_areas.specs.declared.pillar.Pillar.{Pillar}

-- the heights, names and other numbers of an area's sector, its wall and its corners are in their ranges
pub record IsAreaInRange (a : Area) : Type 0 where
  pub sector : IsSector a.sector
  pub wall : IsNamed is_name a.wall
  pub corners : All IsVertex a.corners.items

-- the wall and the corners of a pillar are in their ranges
pub record IsPillarInRange (p : Pillar) : Type 0 where
  pub wall : IsNamed is_name p.wall
  pub corners : All IsVertex p.corners.items

-- a refusal is 2 exactly if a number or a name isn't in its range; 25 comes before, and memory may lack before that is
-- known
abbrev pub JudgesRange : Type 0 → AreaError → Type 0
JudgesRange InRange OutOfRange = InRange → ⊥
JudgesRange InRange (NotAPolygon corner) = Unit {0}
JudgesRange InRange OutOfMemory = Unit {0}
JudgesRange InRange e = InRange
