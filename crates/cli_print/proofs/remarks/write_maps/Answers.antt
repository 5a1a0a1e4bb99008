use Rattle.std.proofs.Common.{◌<◌, ◌≤◌, List, arith, get_or, length, refl, subst}
use Rattle.std.proofs.KnownBytes.{Appends-nil}
use Rattle.std.proofs.lemmas.List.{take_all}
use Rattle.std.proofs.lemmas.Option.{slice_get-get_or}
use Rattle.cli_print.specs.Choosing.{wants_view}
use Rattle.map_tables.specs.Projects.{project_of}
use Rattle.map_tables.specs.Tables.{Tables, empty_tables}
use Rattle.cli_print.proofs.Linting.{HasSaid, maps_more, maps_stopped}
use Rattle.cli_print.proofs.remarks.write_maps.Goals as goal

pub loop-n-init : goal.loop-n-init
loop-n-init g c = (refl, Appends-nil (g.W.Write.contents c.args.writer.now))

pub loop-n-preserved : goal.loop-n-preserved
loop-n-preserved g c =
    let ms : List Tables = (project_of c.args.maps.now).maps in
    let within : c.loop-n.n < length ms = omega (arith, c.len-n-end.ensures.value, c.loop-n-test.true) in
    maps_more (g.O.Origin.origin c.args.origin.now) (wants_view c.args.wants) ms c.loop-n.n c.loop-n.count c.in-Ok.sum (g.W.Write.contents c.args.writer.now) (g.W.Write.contents c.loop-n.writer)
    (g.W.Write.contents c.write_nth.new.writer) within c.loop-n.invariant
    (c.in-Ok.ensures (get_or ms c.loop-n.n empty_tables) (slice_get-get_or ms c.loop-n.n empty_tables within))

pub returns-in-Err : goal.returns-in-Err
returns-in-Err g c =
    let ms : List Tables = (project_of c.args.maps.now).maps in
    let within : c.loop-n.n < length ms = omega (arith, c.len-n-end.ensures.value, c.loop-n-test.true) in
    maps_stopped (g.O.Origin.origin c.args.origin.now) (wants_view c.args.wants) ms c.loop-n.n c.loop-n.count c.in-Err.error (g.W.Write.contents c.args.writer.now) (g.W.Write.contents c.loop-n.writer)
    (g.W.Write.contents c.write_nth.new.writer) within c.loop-n.invariant
    (c.in-Err.ensures (get_or ms c.loop-n.n empty_tables) (slice_get-get_or ms c.loop-n.n empty_tables within))

pub returns : goal.returns
returns g c =
    let ms : List Tables = (project_of c.args.maps.now).maps in
    let whole : length ms ≤ c.loop-n.n = omega (arith, c.len-n-end.ensures.value, c.loop-n-test.false) in
    let said = subst (λ (ks : List Tables). HasSaid (g.O.Origin.origin c.args.origin.now) (wants_view c.args.wants) ks c.loop-n.count (g.W.Write.contents c.args.writer.now) (g.W.Write.contents c.loop-n.writer))
    (take_all c.loop-n.n ms whole) c.loop-n.invariant in
    (omega (arith, said.0), said.1)
