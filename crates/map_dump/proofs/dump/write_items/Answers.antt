use Rattle.std.proofs.Common.{◌<◌, ◌≤◌, List, arith, length, subst}
use Rattle.std.proofs.KnownBytes.{Appends-nil}
use Rattle.std.proofs.lemmas.List.{take_all}
use Rattle.std.specs.Prelude.{Err, flat_map}
use Rattle.std.specs.Io.KnownBytes.{Appends}
use Rattle.map_commands.specs.Spelling.{kinds}
use Rattle.map_commands.specs.declared.project.command.ProjectCommand.{ProjectCommand}
use Rattle.map_tables.specs.declared.kind.Kind.{Kind}
use Rattle.map_tables.specs.declared.kind.Kind.TheVariants as kind
use Rattle.map_dump.specs.Texts.{Writes}
use Rattle.map_dump.proofs.Written.{each_more, each_stopped, table, tables-all, text}
use Rattle.map_dump.proofs.dump.write_items.Goals as goal

pub loop-kind-init : goal.loop-kind-init
loop-kind-init g c = Appends-nil (g.W.Write.contents c.args.writer.now)

pub loop-kind-preserved : goal.loop-kind-preserved
loop-kind-preserved g c =
    let m = c.args.map.now.tables in
    let i = c.loop-kind.kind-index in
    let within : i < length kinds = omega arith in
    each_more (table m) kinds i kind.Vertex (g.W.Write.contents c.args.writer.now) (g.W.Write.contents c.loop-kind.writer) (g.W.Write.contents c.write_table.new.writer)
    within c.loop-kind.invariant c.in-Ok.ensures

pub returns-in-Err : goal.returns-in-Err
returns-in-Err g c =
    let m = c.args.map.now.tables in
    let i = c.loop-kind.kind-index in
    let u = g.W.Write.contents c.args.writer.now in
    let w = g.W.Write.contents c.write_table.new.writer in
    let within : i < length kinds = omega arith in
    subst (λ (cs : List ProjectCommand). Writes {U = Unit {0}} (Err c.in-Err.error) cs u w) (tables-all m)
    (each_stopped (table m) kinds i kind.Vertex c.in-Err.error u (g.W.Write.contents c.loop-kind.writer) w within c.loop-kind.invariant c.in-Err.ensures)

pub returns : goal.returns
returns g c =
    let m = c.args.map.now.tables in
    let u = g.W.Write.contents c.args.writer.now in
    let w = g.W.Write.contents c.loop-kind.writer in
    let whole : length kinds ≤ c.loop-kind.kind-index = omega arith in
    subst (λ (cs : List ProjectCommand). Appends u w (text cs)) (tables-all m)
    (subst (λ (ks : List Kind). Appends u w (text (flat_map (table m) ks))) (take_all c.loop-kind.kind-index kinds whole) c.loop-kind.invariant)
