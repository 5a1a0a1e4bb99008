use Rattle.std.proofs.Common.{◌<◌, ◌≤◌, List, arith, get_or, length, subst}
use Rattle.std.proofs.KnownBytes.{Appends-nil}
use Rattle.std.proofs.lemmas.List.{take_all}
use Rattle.std.proofs.lemmas.Option.{slice_get-get_or}
use Rattle.std.specs.Prelude.{Err, flat_map}
use Rattle.std.specs.Io.KnownBytes.{Appends}
use Rattle.map_commands.specs.declared.command.Command.{Command}
use Rattle.map_commands.specs.declared.project.command.ProjectCommand.{ProjectCommand}
use Rattle.map_dump.specs.Dump.{additions_of}
use Rattle.map_dump.specs.Texts.{Writes}
use Rattle.map_dump.proofs.Written.{alone, each_more, each_stopped, items-all, length-additions, no_item, text}
use Rattle.map_dump.proofs.dump.write_table.Goals as goal

pub loop-n-init : goal.loop-n-init
loop-n-init g c = Appends-nil (g.W.Write.contents c.args.writer.now)

pub loop-n-preserved : goal.loop-n-preserved
loop-n-preserved g c =
    let adds : List Command = additions_of c.args.map.now.tables c.args.kind in
    let within : c.loop-n.n < length adds = omega (arith, c.count-count.ensures.number, length-additions c.args.map.now.tables c.args.kind, c.loop-n-test.true) in
    each_more alone adds c.loop-n.n no_item (g.W.Write.contents c.args.writer.now) (g.W.Write.contents c.loop-n.writer) (g.W.Write.contents c.write_item.new.writer)
    within c.loop-n.invariant (c.in-Ok.ensures (get_or adds c.loop-n.n no_item) (slice_get-get_or adds c.loop-n.n no_item within))

pub returns-in-Err : goal.returns-in-Err
returns-in-Err g c =
    let adds : List Command = additions_of c.args.map.now.tables c.args.kind in
    let u = g.W.Write.contents c.args.writer.now in
    let w = g.W.Write.contents c.write_item.new.writer in
    let within : c.loop-n.n < length adds = omega (arith, c.count-count.ensures.number, length-additions c.args.map.now.tables c.args.kind, c.loop-n-test.true) in
    subst (λ (cs : List ProjectCommand). Writes {U = Unit {0}} (Err c.in-Err.error) cs u w) (items-all adds)
    (each_stopped alone adds c.loop-n.n no_item c.in-Err.error u (g.W.Write.contents c.loop-n.writer) w within c.loop-n.invariant
    (c.in-Err.ensures (get_or adds c.loop-n.n no_item) (slice_get-get_or adds c.loop-n.n no_item within)))

pub returns : goal.returns
returns g c =
    let adds : List Command = additions_of c.args.map.now.tables c.args.kind in
    let u = g.W.Write.contents c.args.writer.now in
    let w = g.W.Write.contents c.loop-n.writer in
    let whole : length adds ≤ c.loop-n.n = omega (arith, c.count-count.ensures.number, length-additions c.args.map.now.tables c.args.kind, c.loop-n-test.false) in
    subst (λ (cs : List ProjectCommand). Appends u w (text cs)) (items-all adds)
    (subst (λ (ks : List Command). Appends u w (text (flat_map alone ks))) (take_all c.loop-n.n adds whole) c.loop-n.invariant)
