use Rattle.std.proofs.Common.{◌≡◌, ◌∙◌, ◌++◌, ◌∷◌, [], ◌≤◌, ◌+◌, ℕ, List, length, arith, length-append, ap, sym, refl, true, false}
use Rattle.std.specs.List.{list_any}
use Rattle.run_edit.specs.Composing.{IsTrace-append}
use Rattle.run_edit.specs.Lines.{line_if_any, lines_of, unfinished, whole_lines}
use Rattle.run_edit.specs.Runs.{IsTrace, none_waits}
use Rattle.run_edit.proofs.Going.{Consumes-append, Feeds-err, Feeds-none, Feeds-ok, begun-none, both, lost as failed}
use Rattle.cli_requests.specs.Typing.{RepliesTyped, quits, longest_input}
use Rattle.cli_requests.proofs.TypedLines.{consumes_none, cut, finished, given_none, given_some, last_some, left_by, lines-at, long, lost, none_quits, none_more, same_bytes}
use Rattle.cli_requests.proofs.typing.run_typed.Goals as goal

pub loop-init : goal.loop-init
loop-init g c =
    let answers = RepliesTyped g.P.Spoken.answers in (
      [],
      0,
      record {
        took = consumes_none (g.R.Read.remaining c.args.reader.now);
        size = refl;
        none = refl;
        fed =
            rw c.new-line.ensures
            (Feeds-none (IsTrace answers) (IsTrace-append answers) none_waits c.args.partner.now [] [] [] (g.W.Write.contents c.args.writer.now) refl refl begun-none);
      },
    )

pub loop-preserved : goal.loop-preserved
loop-preserved g c =
    let answers = RepliesTyped g.P.Spoken.answers in
    let read = c.loop.invariant.0 in
    let n = c.loop.invariant.1 in
    let i = c.loop.invariant.2 in
    let b = c.in-Some.b in
    let one : length (b ∷ []) ≡ 1 = refl in (
      read ++ b ∷ [],
      n + c.in-Ok-take_byte._more,
      record {
        took = Consumes-append _ _ _ read (b ∷ []) i.took (given_some c.in-Ok.byte c.in-Some.b _ _ c.in-Some.is c.in-Ok.ensures);
        size = omega (arith, i.size, one, length-append read (b ∷ []));
        none = none_more read b i.none (c.ends_session.ensures.on c.if-ends_session.false (unfinished read) i.fed.begun);
        fed =
            Feeds-ok (IsTrace answers) (IsTrace-append answers) none_waits none_waits c.args.partner.now c.loop.partner c.take_byte.new.partner [] [] read (b ∷ [])
            c.loop.line c.take_byte.new.line n c.in-Ok-take_byte._more (g.W.Write.contents c.args.writer.now) (g.W.Write.contents c.loop.writer)
            (g.W.Write.contents c.take_byte.new.writer) i.fed (λ left none. rw none (c.in-Ok-take_byte.ensures (unfinished read) i.fed.begun));
      },
    )

-- the reader failed
pub returns-in-Err : goal.returns-in-Err
returns-in-Err g c =
    let read = c.loop.invariant.0 in
    let i = c.loop.invariant.2 in
    let few : length read ≤ longest_input = omega (arith, i.size, c.loop-test.true) in
    rw c.in-Err.ensures.0
    (cut g.P.Spoken.answers c.args.partner.now c.loop.partner read c.loop.invariant.1 _ _ (g.W.Write.contents c.args.writer.now) (g.W.Write.contents c.loop.writer)
    (same_bytes _ _ _ read i.took c.in-Err.ensures.1) few i.none i.fed.ends)

-- the input ended with a line that quits
pub returns-then-is_leaving : goal.returns-then-is_leaving
returns-then-is_leaving g c =
    let read = c.loop.invariant.0 in
    let i = c.loop.invariant.2 in
    let few : length read ≤ longest_input = omega (arith, i.size, c.loop-test.true) in
    let leaving : quits (unfinished read) ≡ true = sym (c.is_leaving.ensures (unfinished read) i.fed.begun) ∙ c.if-is_leaving.true in
    let lines : lines_of read ≡ whole_lines read ++ unfinished read ∷ [] = ap (λ (z : List (List ℕ)). whole_lines read ++ z) (last_some (unfinished read) leaving) in
    left_by g.P.Spoken.answers c.args.partner.now c.loop.partner read (unfinished read) (whole_lines read) c.loop.invariant.1 _ _
    (g.W.Write.contents c.args.writer.now) (g.W.Write.contents c.loop.writer) (same_bytes _ _ _ read i.took (given_none c.in-Ok.byte _ _ c.in_default.is c.in-Ok.ensures).0) few leaving lines i.none i.fed.ends

-- the input ended
pub returns-in_default : goal.returns-in_default
returns-in_default g c =
    let goes = IsTrace (RepliesTyped g.P.Spoken.answers) in
    let then_more = IsTrace-append (RepliesTyped g.P.Spoken.answers) in
    let read = c.loop.invariant.0 in
    let i = c.loop.invariant.2 in
    let first = c.args.partner.now in
    let last = c.finish.new.partner in
    let u = g.W.Write.contents c.args.writer.now in
    let v = g.W.Write.contents c.loop.writer in
    let w = g.W.Write.contents c.finish.new.writer in
    let few : length read ≤ longest_input = omega (arith, i.size, c.loop-test.true) in
    let stays : quits (unfinished read) ≡ false = sym (c.is_leaving.ensures (unfinished read) i.fed.begun) ∙ c.if-is_leaving.false in
    let none : list_any quits (lines_of read) ≡ false = none_quits read i.none stays in
    finished g.P.Spoken.answers c.finish.result first last read _ _ u w (same_bytes _ _ _ read i.took (given_none c.in-Ok.byte _ _ c.in_default.is c.in-Ok.ensures).0) few (given_none c.in-Ok.byte _ _ c.in_default.is c.in-Ok.ensures).1 none
    (both goes then_more none_waits none_waits c.loop.invariant.1 c.finish.result first c.loop.partner last (whole_lines read) (line_if_any (unfinished read))
    u v w i.fed.ends (λ left waits. rw waits (c.finish.ensures (unfinished read) i.fed.begun)))

-- a line that quits
pub returns-then-ends_session : goal.returns-then-ends_session
returns-then-ends_session g c =
    let read = c.loop.invariant.0 in
    let i = c.loop.invariant.2 in
    let b = c.in-Some.b in
    let one : length (b ∷ []) ≡ 1 = refl in
    let few : length (read ++ b ∷ []) ≤ longest_input = omega (arith, i.size, one, c.loop-test.true, length-append read (b ∷ [])) in
    let told = c.ends_session.ensures.left c.if-ends_session.true in
    left_by g.P.Spoken.answers c.args.partner.now c.loop.partner (read ++ b ∷ []) (unfinished read) (whole_lines read) c.loop.invariant.1 _ _
    (g.W.Write.contents c.args.writer.now) (g.W.Write.contents c.loop.writer) (Consumes-append _ _ _ read (b ∷ []) i.took (given_some c.in-Ok.byte c.in-Some.b _ _ c.in-Some.is c.in-Ok.ensures)) few
    (told.1 (unfinished read) i.fed.begun) (lines-at read b told.0 (c.loop.invariant.2.fed.begun.open_ended)) i.none i.fed.ends

-- the writer failed
pub returns-in-Err-take_byte : goal.returns-in-Err-take_byte
returns-in-Err-take_byte g c =
    let goes = IsTrace (RepliesTyped g.P.Spoken.answers) in
    let then_more = IsTrace-append (RepliesTyped g.P.Spoken.answers) in
    let read = c.loop.invariant.0 in
    let i = c.loop.invariant.2 in
    let b = c.in-Some.b in
    let first = c.args.partner.now in
    let last = c.take_byte.new.partner in
    let u = g.W.Write.contents c.args.writer.now in
    let w = g.W.Write.contents c.take_byte.new.writer in
    let error = c.in-Err-take_byte.error in
    let one : length (b ∷ []) ≡ 1 = refl in
    let few : length (read ++ b ∷ []) ≤ longest_input = omega (arith, i.size, one, c.loop-test.true, length-append read (b ∷ [])) in
    let none = none_more read b i.none (c.ends_session.ensures.on c.if-ends_session.false (unfinished read) i.fed.begun) in
    let fed = Feeds-err goes then_more none_waits none_waits first c.loop.partner last [] [] read (b ∷ []) c.loop.line c.take_byte.new.line c.loop.invariant.1 error u
    (g.W.Write.contents c.loop.writer) w i.fed (λ left waits. rw waits (c.in-Err-take_byte.ensures (unfinished read) i.fed.begun)) in
    lost g.P.Spoken.answers error first last (read ++ b ∷ []) (whole_lines (read ++ b ∷ [])) (line_if_any (unfinished (read ++ b ∷ []))) _ _ u w
    (Consumes-append _ _ _ read (b ∷ []) i.took (given_some c.in-Ok.byte c.in-Some.b _ _ c.in-Some.is c.in-Ok.ensures)) few refl none (failed goes then_more ℕ (Unit {0}) none_waits none_waits first last (whole_lines (read ++ b ∷ [])) error u w fed.ends)

-- the bytes were too many
pub returns : goal.returns
returns g c =
    let read = c.loop.invariant.0 in
    let i = c.loop.invariant.2 in
    let many : length read ≡ longest_input = omega (arith, i.size, c.loop-test.false) in
    long g.P.Spoken.answers c.args.partner.now c.loop.partner read c.loop.invariant.1 _ _ (g.W.Write.contents c.args.writer.now) (g.W.Write.contents c.loop.writer)
    i.took many i.none i.fed.ends
