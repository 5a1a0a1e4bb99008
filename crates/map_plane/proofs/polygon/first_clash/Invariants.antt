use Rattle.std.proofs.Common.{◌≡◌, drop, false, find, take}
use Rattle.std.specs.List.{list_any}
use Rattle.map_plane.specs.Polygon.{has_clash}
use Rattle.map_plane.proofs.polygon.first_clash.Given as goal

-- no edge so far clashes
abbrev pub invariant-loop-edge : goal.invariant-loop-edge
invariant-loop-edge l = (list_any (has_clash l.edges) (take l.edge-index l.edges) ≡ false)
    × (find (has_clash l.edges) l.edges ≡ find (has_clash l.edges) (drop l.edge-index l.edges))
