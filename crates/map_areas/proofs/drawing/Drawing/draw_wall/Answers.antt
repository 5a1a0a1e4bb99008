use Rattle.std.proofs.Common.{◌≡◌, true, List, Some, ap, ◌∙◌}
use Rattle.std.specs.List.{slice_get}
use Rattle.std.specs.Option.{option_map}
use Rattle.lump_records.specs.declared.records.Vertex.{Vertex}
use Rattle.map_areas.proofs.Steps.{lines_then}
use Rattle.map_areas.proofs.Walled.{leads_between, other_sector, walled_by, walls_kept}
use Rattle.map_areas.proofs.Fits.{wall_fits}
use Rattle.map_areas.proofs.drawing.Drawing.draw_wall.Goals as goal

pub returns-clause-walled : goal.returns-clause-walled
returns-clause-walled c =
    let m = c.args.map.now.tables in
    let w = c.args.way.now in
    let one = c.vertex_at.new.self.map.tables in
    let two = c.vertex_at-2.new.self.map.tables in
    let three = c.add_sides.new.self.map.tables in
    let new = c.add_line.new.self.map.tables in
    let line = c.wall_between-line.result in
    let same : new.vertices ≡ two.vertices = c.in_ok-add_line.ensures.vertices ∙ c.in_ok-right.ensures.vertices in
    let from : slice_get new.vertices c.in_ok-v1.v1 ≡ Some w.from =
    ap (λ (vs : List Vertex). slice_get vs c.in_ok-v1.v1) same ∙ c.in_ok-v2.ensures.others c.in_ok-v1.v1 w.from c.in_ok-v1.ensures.there in
    let to : slice_get new.vertices c.in_ok-v2.v2 ≡ Some w.to = ap (λ (vs : List Vertex). slice_get vs c.in_ok-v2.v2) same ∙ c.in_ok-v2.ensures.there in
    let sides = c.in_ok-add_line.ensures.sides in
    walled_by m new c.args.paint.now.sector c.left_of_way-outer.result w true
    (record {
      number = c.in_ok-add_line.field-0;
      line = line;
      there = c.in_ok-add_line.ensures.there;
      leads = leads_between new c.in_ok-add_line.field-0 line w c.in_ok-v1.v1 c.in_ok-v2.v2 c.wall_between-line.ensures.v1 c.wall_between-line.ensures.v2 from to;
      inner = (λ i. option_map (λ s. s.sector) (slice_get (sides i) (c.wall_between-line.ensures.right i))) ∙ c.in_ok-right.ensures.inner;
      outer = (λ i. option_map (λ s. s.sector) (slice_get (sides i) (c.wall_between-line.ensures.left i))) ∙ c.in_ok-right.ensures.outer;
    })
    (other_sector c.left_of_way-outer.result m c.args.paint.now.sector c.left_of_way-outer.ensures.sector c.requires.paint.sector)
    c.left_of_way-outer.ensures.left

pub returns-clause-kept : goal.returns-clause-kept
returns-clause-kept c =
    let t = c.args.self.now.map.tables in
    let one = c.vertex_at.new.self.map.tables in
    let two = c.vertex_at-2.new.self.map.tables in
    let three = c.add_sides.new.self.map.tables in
    let new = c.add_line.new.self.map.tables in
    walls_kept c.args.map.now.tables t new c.args.paint.now.sector
    (lines_then t three new
    (lines_then t two three (lines_then t one two c.in_ok-v1.ensures.kept c.in_ok-v2.ensures.kept) c.in_ok-right.ensures.kept)
    c.in_ok-add_line.ensures.kept)

pub add_line-requires-clause-fits : goal.add_line-requires-clause-fits
add_line-requires-clause-fits c =
    let w = c.args.way.now in
    let three = c.add_sides.new.self.map.tables in
    let line = c.wall_between-line in
    let same = c.in_ok-right.ensures.vertices in
    let from : slice_get three.vertices c.in_ok-v1.v1 ≡ Some w.from =
    ap (λ (vs : List Vertex). slice_get vs c.in_ok-v1.v1) same ∙ c.in_ok-v2.ensures.others c.in_ok-v1.v1 w.from c.in_ok-v1.ensures.there in
    let to : slice_get three.vertices c.in_ok-v2.v2 ≡ Some w.to = ap (λ (vs : List Vertex). slice_get vs c.in_ok-v2.v2) same ∙ c.in_ok-v2.ensures.there in
    wall_fits three line.result c.in_ok-v1.v1 c.in_ok-v2.v2 c.in_ok-right.right c.in_ok-right.left c.args.paint.now.sector w.from w.to line.ensures.v1 line.ensures.v2
    line.ensures.right line.ensures.left from to c.requires.apart c.in_ok-right.ensures.inner c.in_ok-right.ensures.there line.ensures.two_sided
