use Rattle.std.proofs.Common.{◌≡◌, ◌∙◌, [], ◌∷◌, ap, subst}
use Rattle.std.specs.Prelude.{Err, map}
use Rattle.map_commands.specs.declared.project.command.ProjectCommand.{ProjectCommand}
use Rattle.map_commands.specs.declared.project.command.ProjectCommand.TheVariants.{Current}
use Rattle.map_dump.specs.Dump.{items_of, naming_of}
use Rattle.map_dump.specs.Texts.{Writes}
use Rattle.map_dump.proofs.Written.{Writes-append, Writes-stopped}
use Rattle.map_dump.proofs.dump.write_map.Goals as goal

pub returns-in-Ok : goal.returns-in-Ok
returns-in-Ok g c =
    let m = c.args.map.now.tables in
    let u = g.W.Write.contents c.args.writer.now in
    let w = g.W.Write.contents c.write_items.new.writer in
    let items = map Current (items_of m) in
    let named : c.naming.result ≡ naming_of c.args.n m.name = c.naming.ensures.command ∙ ap (naming_of c.args.n) c.name.ensures in
    subst (λ (k : ProjectCommand). Writes c.write_items.result (k ∷ items) u w) named
    (Writes-append c.write_items.result (c.naming.result ∷ []) items u (g.W.Write.contents c.write_command.new.writer) w c.in-Ok.ensures c.write_items.ensures)

pub returns-in-Err : goal.returns-in-Err
returns-in-Err g c =
    let m = c.args.map.now.tables in
    let u = g.W.Write.contents c.args.writer.now in
    let w = g.W.Write.contents c.write_command.new.writer in
    let items = map Current (items_of m) in
    let named : c.naming.result ≡ naming_of c.args.n m.name = c.naming.ensures.command ∙ ap (naming_of c.args.n) c.name.ensures in
    subst (λ (k : ProjectCommand). Writes {U = Unit {0}} (Err c.in-Err.error) (k ∷ items) u w) named
    (Writes-stopped c.in-Err.error (c.naming.result ∷ []) items u w c.in-Err.ensures)
