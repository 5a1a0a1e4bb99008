-- What an area makes of a map, when areas and pillars are accepted, and why they are refused.
use Rattle.std.specs.Prelude.{◌≡◌, ℕ, List, None, Option, false, length, true}
use Rattle.lump_records.specs.declared.records.Vertex.{Vertex}
use Rattle.map_commands.specs.declared.command.Command.{Command}
use Rattle.map_plane.specs.declared.places.PlacedLine.{PlacedLine}
use Rattle.map_tables.specs.Tables.{Tables}
use Rattle.map_areas.specs.Apart.{doubled}
use Rattle.map_areas.specs.Bordered.{IsBordered}
use Rattle.map_areas.specs.Drawn.{AreTaken, drawn}
use Rattle.map_areas.specs.Outlines.{JudgesRefusal, bad_corner, edges_round, outline_edges}
use Rattle.map_areas.specs.Order.{ComesInOrder, MayBecome}
use Rattle.map_areas.specs.Pillars.{pillar_drawn}
use Rattle.map_areas.specs.Refusals.{AreInSector, IsAreaRefusal, IsPillarRefusal, MayStand}
use Rattle.map_areas.specs.Stays.{KeepsItems, KeepsRest}
use Rattle.map_areas.specs.declared.error.AreaError.{AreaError}
use Rattle.map_areas.specs.declared.pillar.Pillar.{Pillar}

-- round the border is one sector, or the void; sides that faced it may face the new sector, all else stays, and lines
-- along each edge divide the new sector from what was outside
pub record DrawsArea (es : List PlacedLine) (old new : Tables) : Type 0 where
  pub round : Option ℕ
  pub stays : KeepsRest es round old new
  pub border : IsBordered es round (length old.sectors) old new

-- an area with these corners is accepted: they are a simple polygon, no reason refuses it for its border or
-- for what is inside, and the commands, which are accepted in turn, draw it
pub record AcceptsArea (m : Tables) (cs : List Vertex) (commands : List Command) : Type 0 where
  pub polygon : bad_corner (outline_edges cs) ≡ None
  pub becomes : MayBecome m (edges_round true cs)
  pub taken : AreTaken m commands
  pub area : DrawsArea (edges_round true cs) m (drawn m commands)

-- an area with these corners is refused: they are no simple polygon, or the map has the reason, and none that comes
-- before it
pub record RefusesArea (m : Tables) (cs : List Vertex) (e : AreaError) : Type 0 where
  pub polygon : JudgesRefusal cs e
  pub order : ComesInOrder m (edges_round true cs) e
  pub reason : IsAreaRefusal m (edges_round true cs) (doubled (edges_round true cs)) e

-- a pillar is accepted: its corners are a simple polygon, no reason refuses it, and the commands are those that draw it
-- in the sector of its corners, are accepted in turn, and keep what is there
pub record AcceptsPillar (m : Tables) (p : Pillar) (commands : List Command) : Type 0 where
  pub polygon : bad_corner (outline_edges p.corners.items) ≡ None
  pub stands : MayStand m (edges_round false p.corners.items)
  pub sector : ℕ
  pub corners : AreInSector m (edges_round false p.corners.items) sector
  pub drawing : commands ≡ pillar_drawn m (edges_round false p.corners.items) p.wall sector
  pub taken : AreTaken m commands
  pub stays : KeepsItems m (drawn m commands)

-- a pillar is refused: its corners are no simple polygon, or the map has the reason
pub record RefusesPillar (m : Tables) (p : Pillar) (e : AreaError) : Type 0 where
  pub polygon : JudgesRefusal p.corners.items e
  pub reason : IsPillarRefusal m (edges_round false p.corners.items) p.wall e
