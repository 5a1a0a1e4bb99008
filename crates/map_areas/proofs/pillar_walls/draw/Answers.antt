use Rattle.std.proofs.Common.{◌≡◌, List, ◌++◌, length, sym, ap, ◌∙◌, subst, arith}
use Rattle.map_commands.specs.declared.command.Command.{Command}
use Rattle.map_tables.specs.Tables.{Tables}
use Rattle.map_areas.specs.Drawn.{LeadTo, RefusesOneOf}
use Rattle.map_areas.specs.Pillars.{corners_drawn, pillar_drawn, solid_side, walls_drawn}
use Rattle.map_areas.proofs.InOrder.{passed_on}
use Rattle.map_areas.proofs.InTurn.{LeadTo-append, refuses_kept, refuses_past}
use Rattle.map_areas.proofs.Pillars.{corners_counted, same_walls}
use Rattle.map_areas.proofs.pillar_walls.draw.Goals as goal

pub returns-in_err-add_corners-clause-refused : goal.returns-in_err-add_corners-clause-refused
returns-in_err-add_corners-clause-refused c =
    let m = c.args.map.now.tables in
    let es = c.args.edges.now in
    let e = c.in_err-add_corners.field-0.0 in
    passed_on (RefusesOneOf m (pillar_drawn m es c.args.texture c.args.sector)) c.from_residual-in_err-add_corners.result e
    c.from_residual-in_err-add_corners.ensures.1
    (refuses_kept m (corners_drawn es) (walls_drawn (solid_side c.args.texture c.args.sector) (length m.vertices) (length m.sides) es) e
    (subst (λ (t : Tables). RefusesOneOf t (corners_drawn es) e) c.in_ok-copy.ensures.tables c.in_err-add_corners.ensures.refused))

pub add_walls-requires-clause-ends : goal.add_walls-requires-clause-ends
add_walls-requires-clause-ends c =
    let counted = (corners_counted c.in_ok-copy.copy.tables c.args.edges.now c.add_corners.new.copy.tables c.in_ok-add_corners.ensures.led).0 in
    let first = c.count-first.ensures.number in
    let last = c.count-count.ensures.number in
    let limit = c.count-count.ensures.limit in
    omega (arith, counted, first, last, limit)

pub returns-in_err-add_walls-clause-refused : goal.returns-in_err-add_walls-clause-refused
returns-in_err-add_walls-clause-refused c =
    let m = c.args.map.now.tables in
    let es = c.args.edges.now in
    let mid = c.add_corners.new.copy.tables in
    let e = c.in_err-add_walls.field-0.0 in
    passed_on (RefusesOneOf m (pillar_drawn m es c.args.texture c.args.sector)) c.from_residual-in_err-add_walls.result e
    c.from_residual-in_err-add_walls.ensures.1
    (refuses_past m (corners_drawn es) mid (walls_drawn (solid_side c.args.texture c.args.sector) (length m.vertices) (length m.sides) es) e
    (subst (λ (t : Tables). LeadTo t (corners_drawn es) mid) c.in_ok-copy.ensures.tables c.in_ok-add_corners.ensures.led)
    (subst (λ (cs : List Command). RefusesOneOf mid cs e)
    (same_walls m c.in_ok-copy.copy.tables mid es c.args.texture c.args.sector c.solid_side-side.result c.count-first.result c.in_ok-copy.ensures.tables
    c.solid_side-side.ensures c.count-first.ensures.number c.in_ok-add_corners.ensures.led)
    c.in_err-add_walls.ensures.refused))

pub returns-clause-drawing : goal.returns-clause-drawing
returns-clause-drawing c =
    let m = c.args.map.now.tables in
    let es = c.args.edges.now in
    let mid = c.add_corners.new.copy.tables in
    let corners : c.add_corners.new.commands.items ≡ corners_drawn es =
    c.in_ok-add_corners.ensures.noted ∙ ap (λ (cs : List Command). cs ++ corners_drawn es) c.new-commands.ensures.items in
    let walls = same_walls m c.in_ok-copy.copy.tables mid es c.args.texture c.args.sector c.solid_side-side.result c.count-first.result c.in_ok-copy.ensures.tables
    c.solid_side-side.ensures c.count-first.ensures.number c.in_ok-add_corners.ensures.led in
    c.in_ok-add_walls.ensures.noted ∙ (λ i. corners i ++ walls i)

pub returns-clause-taken : goal.returns-clause-taken
returns-clause-taken c =
    let m = c.args.map.now.tables in
    let es = c.args.edges.now in
    let mid = c.add_corners.new.copy.tables in
    let new = c.add_walls.new.copy.tables in
    let corners : c.add_corners.new.commands.items ≡ corners_drawn es =
    c.in_ok-add_corners.ensures.noted ∙ ap (λ (cs : List Command). cs ++ corners_drawn es) c.new-commands.ensures.items in
    let walls = walls_drawn c.solid_side-side.result c.count-first.result (length mid.sides) es in
    let all : c.add_walls.new.commands.items ≡ corners_drawn es ++ walls = c.in_ok-add_walls.ensures.noted ∙ ap (λ (cs : List Command). cs ++ walls) corners in (
      new,
      subst (λ (cs : List Command). LeadTo m cs new) (sym all)
          (LeadTo-append m (corners_drawn es) mid walls new
          (subst (λ (t : Tables). LeadTo t (corners_drawn es) mid) c.in_ok-copy.ensures.tables c.in_ok-add_corners.ensures.led) c.in_ok-add_walls.ensures.led),
    )
