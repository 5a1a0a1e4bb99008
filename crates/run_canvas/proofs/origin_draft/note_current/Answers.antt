use Rattle.std.proofs.Common.{refl}
use Rattle.run_canvas.proofs.Origins.{noted_err, noted_ok}
use Rattle.run_canvas.proofs.origin_draft.note_current.Goals as goal

pub returns-in-Some-clause-ok : goal.returns-in-Some-clause-ok
returns-in-Some-clause-ok c =
    noted_ok c.note.result c.args.origins.now.items c.args.number c.in-Some.own.now c.note.new.self c.args.command.now c.args.place (c.in-Some.ensures.variant.0 refl) c.in-Some.ensures.value
    c.note.ensures.ok

pub returns-in-Some-clause-refused : goal.returns-in-Some-clause-refused
returns-in-Some-clause-refused c =
    noted_err c.note.result c.args.origins.now.items c.args.number c.in-Some.own.now c.note.new.self (c.in-Some.ensures.variant.0 refl) c.in-Some.ensures.value c.note.ensures.refused
