use Rattle.std.proofs.Common.{◌≡◌, ◌++◌, take}
use Rattle.std.specs.Prelude.{flat_map}
use Rattle.map_areas.specs.Drawn.{LeadTo}
use Rattle.map_areas.proofs.Pillars.{corner_alone}
use Rattle.map_areas.proofs.pillar_walls.add_corners.Given as goal

-- the corners so far are drawn, and their commands noted
abbrev pub invariant-loop-edge : goal.invariant-loop-edge
invariant-loop-edge l = record {
  led : LeadTo l.initial.copy.tables (flat_map corner_alone (take l.edge-index l.edges)) l.copy.tables;
  noted : l.commands.items ≡ l.initial.commands.items ++ flat_map corner_alone (take l.edge-index l.edges);
}
