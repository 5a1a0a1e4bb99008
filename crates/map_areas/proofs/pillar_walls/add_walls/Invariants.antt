use Rattle.std.proofs.Common.{◌≡◌, ◌+◌, ◌++◌, length, take}
use Rattle.std.specs.List.{enumerate_from}
use Rattle.std.specs.Prelude.{flat_map}
use Rattle.map_areas.specs.Drawn.{LeadTo}
use Rattle.map_areas.specs.Pillars.{edge_drawn}
use Rattle.map_areas.proofs.pillar_walls.add_walls.Given as goal

-- the walls so far are drawn, and their commands noted
abbrev pub invariant-loop-n : goal.invariant-loop-n
invariant-loop-n l = record {
  led : LeadTo l.initial.copy.tables
      (flat_map (edge_drawn l.side l.first (length l.initial.copy.tables.sides) (length l.edges)) (take l.n (enumerate_from 0 l.edges))) l.copy.tables;
  noted : l.commands.items
      ≡ l.initial.commands.items
      ++ flat_map (edge_drawn l.side l.first (length l.initial.copy.tables.sides) (length l.edges)) (take l.n (enumerate_from 0 l.edges));
  sides : length l.copy.tables.sides ≡ length l.initial.copy.tables.sides + l.n;
}
