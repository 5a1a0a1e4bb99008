use Rattle.map_areas.proofs.Walled.{edges_kept}
use Rattle.map_areas.proofs.area.draw.Goals as goal

pub turn_inside-requires-clause-paint : goal.turn_inside-requires-clause-paint
turn_inside-requires-clause-paint c = record {
  well_formed = c.requires.well_formed;
  sector = c.requires.number;
  room = c.in_ok-drawing.ensures.room;
  wall = c.requires.wall;
}

pub returns-clause-walled : goal.returns-clause-walled
returns-clause-walled c =
    edges_kept c.args.map.now.tables c.draw_border.new.self.map.tables c.turn_inside.new.self.map.tables c.args.paint.now.sector c.args.border.now.cut_edges.items
    c.in_ok-turn_inside.ensures.kept c.in_ok-draw_border.ensures.walled

pub draw_border-requires-clause-paint : goal.draw_border-requires-clause-paint
draw_border-requires-clause-paint c = record {
  well_formed = c.requires.well_formed;
  sector = c.requires.number;
  room = c.in_ok-drawing.ensures.room;
  wall = c.requires.wall;
}
