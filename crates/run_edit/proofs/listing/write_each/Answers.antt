use Rattle.std.proofs.Common.{◌<◌, ◌≤◌, List, arith, length, subst}
use Rattle.std.specs.Io.KnownBytes.{Appends}
use Rattle.std.proofs.lemmas.List.{take_all}
use Rattle.map_tables.specs.Projects.{project_of}
use Rattle.map_tables.specs.Tables.{Tables}
use Rattle.run_edit.specs.Texts.{map_lines}
use Rattle.run_edit.proofs.Going.{Appends-none}
use Rattle.run_edit.proofs.MapLines.{each_told}
use Rattle.run_edit.proofs.listing.write_each.Goals as goal

pub loop-n-init : goal.loop-n-init
loop-n-init g c = Appends-none (g.W.Write.contents c.args.writer.now)

pub loop-n-preserved : goal.loop-n-preserved
loop-n-preserved g c =
    let ms : List Tables = (project_of c.args.maps.now).maps in
    let below : c.loop-n.n < length ms = omega (arith, c.len-n-end.ensures.value, c.loop-n-test.true) in
    each_told ms c.loop-n.n (g.W.Write.contents c.args.writer.now) (g.W.Write.contents c.loop-n.writer)
    (g.W.Write.contents c.write_nth.new.writer) below c.loop-n.invariant c.in-Ok.ensures

pub returns : goal.returns
returns g c =
    let ms : List Tables = (project_of c.args.maps.now).maps in
    let whole : length ms ≤ c.loop-n.n = omega (arith, c.len-n-end.ensures.value, c.loop-n-test.false) in
    subst (λ (ks : List Tables). Appends (g.W.Write.contents c.args.writer.now) (g.W.Write.contents c.loop-n.writer) (map_lines 0 ks))
    (take_all c.loop-n.n ms whole) c.loop-n.invariant
