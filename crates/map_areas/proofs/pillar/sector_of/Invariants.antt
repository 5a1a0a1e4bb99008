use Rattle.std.proofs.Common.{◌≡◌, All, Some, take}
use Rattle.map_plane.specs.Nearest.{sector_of_place}
use Rattle.map_areas.proofs.pillar.sector_of.Given as goal

-- the corners so far are in the sector
abbrev pub invariant-loop-edge : goal.invariant-loop-edge
invariant-loop-edge l = All (λ e. sector_of_place l.map.tables e.from ≡ Some l.sector) (take l.edge-index l.edges)
