use Rattle.std.proofs.Common.{◌++◌, ap, ◌∙◌}
use Rattle.std.proofs.lemmas.Result.{on_ok_weaker}
use Rattle.map_checks.proofs.CornerList.{open_list}
use Rattle.map_checks.proofs.EdgeCounts.{closed_outside}
use Rattle.map_checks.proofs.corners.list_open_sectors.Goals as goal

pub returns : goal.returns
returns c =
    let m = c.args.map.now.tables in
    let listed = open_list m c.in_ok-degrees.degrees c.list_open.ensures.ordered c.in_ok-degrees.ensures.tally
    (closed_outside m c.in_ok-degrees.ensures.well_formed) in
    on_ok_weaker c.list_open.result (λ h. h ∙ ap (λ l. c.args.found.now.items ++ l) listed) c.list_open.ensures.found
