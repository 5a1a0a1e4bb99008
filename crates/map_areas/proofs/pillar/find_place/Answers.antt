use Rattle.map_areas.proofs.Pillars.{corners_sector}
use Rattle.map_areas.proofs.Standing.{not_apart}
use Rattle.map_areas.proofs.pillar.find_place.Goals as goal

pub returns-clause-stands : goal.returns-clause-stands
returns-clause-stands c =
    let m = c.args.map.now.tables in
    let es = c.args.edges.now in
    record {
      corners = λ first second. not_apart m es c.in_ok-sector.sector first second c.in_ok-sector.ensures.same;
      lines = c.in_ok-find_no_line.ensures.outside;
      vertices = c.in_ok-find_no_vertex.ensures.free;
    }

pub returns-clause-range : goal.returns-clause-range
returns-clause-range c =
    corners_sector c.args.map.now.tables c.args.edges.now c.in_ok-sector.sector c.count-count.ensures.well_formed c.requires.some c.in_ok-sector.ensures.same
