use Rattle.std.proofs.Common.{◌≡◌, ◌∙◌, [], false, arith, refl, Ok, Err}
use Rattle.std.proofs.lemmas.Bool.Decides.{nat_tests}
use Rattle.run_edit.specs.Composing.{IsTrace-append}
use Rattle.run_edit.specs.Lines.{is_break}
use Rattle.run_edit.specs.Runs.{IsTrace, none_waits}
use Rattle.run_edit.proofs.Going.{Feeds-byte, Feeds-line, Feeds-lost, taken_alone}
use Rattle.cli_requests.specs.Typing.{RepliesTyped}
use Rattle.cli_requests.proofs.typing.take_byte.Goals as goal

pub returns-then-b-ne10 : goal.returns-then-b-ne10
returns-then-b-ne10 g c = λ part begun.
    let answers = RepliesTyped g.P.Spoken.answers in
    let other : is_break c.args.b ≡ false = grind (arith, nat_tests) in
    Feeds-byte (IsTrace answers) (IsTrace-append answers) none_waits c.args.partner.now [] c.args.line.now part c.args.b c.push.new.self (g.W.Write.contents c.args.writer.now)
    refl refl begun other c.push.ensures

pub returns-in-Ok : goal.returns-in-Ok
returns-in-Ok g c = λ part begun.
    let answers = RepliesTyped g.P.Spoken.answers in
    let old = c.args.partner.now in
    let new = c.take_line.new.partner in
    let u = g.W.Write.contents c.args.writer.now in
    let w = g.W.Write.contents c.take_line.new.writer in
    Feeds-line (IsTrace answers) (IsTrace-append answers) none_waits (tt {0}) old new [] c.args.line.now part c.args.b c.clear.new.self u w begun c.if-b-ne10.false c.clear.ensures
    (taken_alone {U = Unit {0}} answers (IsTrace answers) (λ a b line text told. (b, told, refl)) (Ok (tt {0})) old new [] part u w refl
    (c.in-Ok.ensures part (c.as_slice.ensures.bytes ∙ begun.front)))

pub returns-in-Err : goal.returns-in-Err
returns-in-Err g c = λ part begun.
    let answers = RepliesTyped g.P.Spoken.answers in
    let old = c.args.partner.now in
    let new = c.take_line.new.partner in
    let u = g.W.Write.contents c.args.writer.now in
    let w = g.W.Write.contents c.take_line.new.writer in
    Feeds-lost (IsTrace answers) (IsTrace-append answers) (Unit {0}) none_waits c.in-Err.error old new [] c.args.line.now part c.args.b c.args.line.now u w begun c.if-b-ne10.false
    (taken_alone {U = Unit {0}} answers (IsTrace answers) (λ a b line text told. (b, told, refl)) (Err c.in-Err.error) old new [] part u w refl
    (c.in-Err.ensures part (c.as_slice.ensures.bytes ∙ begun.front)))
