use Rattle.std.proofs.Common.{[], ◌∷◌, ap, sym, arith, append-nil}
use Rattle.map_commands.proofs.Drawing.{more_lines, wall_free, west_wall, north_wall, east_wall, south_wall}
use Rattle.map_commands.proofs.room.put_walls.Goals as goal

pub put-requires-clause-accepted : goal.put-requires-clause-accepted
put-requires-clause-accepted c =
    let m = c.args.maps.now.tables in
    wall_free m m [] c.wall.result _ _ _ (ap (λ xs. record m { lines = xs }) (sym (append-nil m.lines))) c.wall.ensures
    (west_wall m c.args.plan.now c.args.corner c.args.side c.requires.corners c.requires.range c.requires.sides) (omega arith)

pub put-requires-2-clause-accepted : goal.put-requires-2-clause-accepted
put-requires-2-clause-accepted c =
    let m = c.args.maps.now.tables in
    wall_free m c.put.new.maps.tables (c.wall.result ∷ []) c.wall-2.result _ _ _ c.put.ensures.tables c.wall-2.ensures
    (north_wall m c.args.plan.now c.args.corner c.args.side c.requires.corners c.requires.range c.requires.sides) (omega arith)

pub put-requires-3-clause-accepted : goal.put-requires-3-clause-accepted
put-requires-3-clause-accepted c =
    let m = c.args.maps.now.tables in
    wall_free m c.put-2.new.maps.tables (c.wall.result ∷ c.wall-2.result ∷ []) c.wall-3.result _ _ _
    (more_lines m c.put.new.maps.tables c.put-2.new.maps.tables (c.wall.result ∷ []) c.wall-2.result c.put.ensures.tables c.put-2.ensures.tables)
    c.wall-3.ensures
    (east_wall m c.args.plan.now c.args.corner c.args.side c.requires.corners c.requires.range c.requires.sides) (omega arith)

pub put-requires-4-clause-accepted : goal.put-requires-4-clause-accepted
put-requires-4-clause-accepted c =
    let m = c.args.maps.now.tables in
    wall_free m c.put-3.new.maps.tables (c.wall.result ∷ c.wall-2.result ∷ c.wall-3.result ∷ []) c.wall-4.result _ _ _
    (more_lines m c.put-2.new.maps.tables c.put-3.new.maps.tables (c.wall.result ∷ c.wall-2.result ∷ []) c.wall-3.result
    (more_lines m c.put.new.maps.tables c.put-2.new.maps.tables (c.wall.result ∷ []) c.wall-2.result c.put.ensures.tables c.put-2.ensures.tables)
    c.put-3.ensures.tables)
    c.wall-4.ensures
    (south_wall m c.args.plan.now c.args.corner c.args.side c.requires.corners c.requires.range c.requires.sides) (omega arith)
