use Rattle.std.proofs.Common.{◌≡◌, ◌<◌, ◌∙◌, [], length, refl, arith}
use Rattle.std.proofs.lemmas.Bool.Decides.{nat_tests}
use Rattle.run_edit.specs.Composing.{IsTrace-append}
use Rattle.run_edit.specs.Runs.{IsTrace, none_waits}
use Rattle.run_edit.proofs.Going.{line-of-none, line-of-some, nothing, taken_alone}
use Rattle.cli_requests.specs.Typing.{RepliesTyped}
use Rattle.cli_requests.proofs.typing.finish.Goals as goal

pub returns-then-is_empty : goal.returns-then-is_empty
returns-then-is_empty g c = λ part begun.
    let answers = RepliesTyped g.P.Spoken.answers in
    let none : length c.args.line.now ≡ 0 = let e = c.as_slice-kept.ensures.bytes in let f = c.is_empty.ensures in let h = c.if-is_empty.true in grind (arith, nat_tests) in
    rw (line-of-none c.args.line.now part begun none)
    (nothing (IsTrace answers) (IsTrace-append answers) {U = Unit {0}} none_waits (tt {0}) c.args.partner.now [] (g.W.Write.contents c.args.writer.now) refl refl)

pub returns : goal.returns
returns g c = λ part begun.
    let answers = RepliesTyped g.P.Spoken.answers in
    let some : 0 < length c.args.line.now = let e = c.as_slice-kept.ensures.bytes in let f = c.is_empty.ensures in let h = c.if-is_empty.false in grind (arith, nat_tests) in
    rw (line-of-some c.args.line.now part begun some)
    (taken_alone answers (IsTrace answers) (λ a b line text told. (b, told, refl)) c.take_line.result c.args.partner.now c.take_line.new.partner [] part
    (g.W.Write.contents c.args.writer.now) (g.W.Write.contents c.take_line.new.writer) refl
    (c.take_line.ensures part (c.as_slice-kept.ensures.bytes ∙ begun.front)))
