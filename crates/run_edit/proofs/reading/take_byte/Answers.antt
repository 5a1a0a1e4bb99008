use Rattle.std.proofs.Common.{◌≡◌, ◌∙◌, false, arith, sym}
use Rattle.std.proofs.lemmas.Bool.Decides.{nat_tests}
use Rattle.std.proofs.lemmas.List.{take_all}
use Rattle.run_edit.specs.Lines.{is_break}
use Rattle.run_edit.proofs.Going.{Feeds-byte, Feeds-line, Feeds-lost}
use Rattle.run_edit.proofs.reading.take_byte.Goals as goal

pub returns-then-b-ne10-clause-feeds : goal.returns-then-b-ne10-clause-feeds
returns-then-b-ne10-clause-feeds g c = λ lines part wait begun.
    let other : is_break c.args.b ≡ false = grind (arith, nat_tests) in
    Feeds-byte g.S.Session.goes g.met.S.Session.then_more (g.S.Session.waits c.args.session.now c.args.waiting.now) c.args.session.now lines c.args.line.now part c.args.b c.push.new.self
    (g.W.Write.contents c.args.writer.now) (g.met.S.Session.none c.args.session.now) wait begun other c.push.ensures

pub returns-in-Ok-clause-feeds : goal.returns-in-Ok-clause-feeds
returns-in-Ok-clause-feeds g c = λ lines part wait begun.
    Feeds-line g.S.Session.goes g.met.S.Session.then_more (g.S.Session.waits c.take.new.self c.take.new.waiting) (tt {0}) c.args.session.now c.take.new.self lines c.args.line.now part c.args.b c.clear.new.self
    (g.W.Write.contents c.args.writer.now) (g.W.Write.contents c.take.new.writer) begun c.if-b-ne10.false c.clear.ensures
    (c.in-Ok.ensures lines part wait (c.as_slice.ensures.bytes ∙ begun.front))

pub returns-in-Err-clause-feeds : goal.returns-in-Err-clause-feeds
returns-in-Err-clause-feeds g c = λ lines part wait begun.
    Feeds-lost g.S.Session.goes g.met.S.Session.then_more (Unit {0}) (g.S.Session.waits c.take.new.self c.take.new.waiting) c.in-Err.error c.args.session.now c.take.new.self lines c.args.line.now part c.args.b c.args.line.now
    (g.W.Write.contents c.args.writer.now) (g.W.Write.contents c.take.new.writer) begun c.if-b-ne10.false
    (c.in-Err.ensures lines part wait (c.as_slice.ensures.bytes ∙ begun.front))

pub returns-in-Ok-clause-left : goal.returns-in-Ok-clause-left
returns-in-Ok-clause-left g c =
    let some = c.requires in
    let taken = c.in-Ok.ensures some.0 c.as_slice.result.now some.1 (sym (take_all 257 c.as_slice.result.now c.as_slice.ensures.short)) in
    (taken.2.0, taken.2.1)
