use Rattle.std.proofs.Common.{List, subst}
use Rattle.std.specs.Prelude.{map, string_bytes}
use Rattle.wad_rebuild.specs.Held.{directory_of}
use Rattle.wad_rebuild.specs.declared.levels.RebuiltLevel.{RebuiltLevel}
use Rattle.cli_rebuild.proofs.Given.{none_over, rebuilt_over}
use Rattle.cli_rebuild.proofs.Rebuilding.{IsTold}
use Rattle.cli_rebuild.proofs.request.rebuild_into.Goals as goal

pub returns-in-Ok-clause-rebuilt : goal.returns-in-Ok-clause-rebuilt
returns-in-Ok-clause-rebuilt g c =
    let given = c.args.given.now in
    let made = c.in-Ok.made in
    let how = c.tell_rebuilt.result in
    let u = g.W.Write.contents c.args.writer.now in
    let w = g.W.Write.contents c.tell_rebuilt.new.writer in
    let d = g.F.Write.contents c.args.errors.now in
    let x = g.F.Write.contents c.tell_rebuilt.new.errors in
    rebuilt_over g.E.File.Write.contents how given.bytes.now (directory_of given.held) given.len (map string_bytes c.args.names.now) made.levels.items given.unread made.size made.file u w d x
    c.in-Ok.ensures (subst (λ (ls : List RebuiltLevel). IsTold how ls made.size u w d x) c.deref.ensures.value c.tell_rebuilt.ensures.told)

pub returns-in-Err-clause-rebuilt : goal.returns-in-Err-clause-rebuilt
returns-in-Err-clause-rebuilt g c =
    let given = c.args.given.now in
    none_over given.bytes.now (directory_of given.held) given.len (map string_bytes c.args.names.now) given.unread c.in-Err.refusal (g.W.Write.contents c.args.writer.now)
    (g.F.Write.contents c.args.errors.now) c.in-Err.ensures
