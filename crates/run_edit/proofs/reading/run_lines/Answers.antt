use Rattle.std.proofs.Common.{◌≡◌, ◌++◌, [], ◌≤◌, ◌*◌, ◌+◌, ℕ, Ok, Err, length, arith, take, length-append}
use Rattle.std.proofs.lemmas.Grind.{common_steps}
use Rattle.run_edit.specs.Lines.{whole_lines, unfinished, line_if_any, lines_of}
use Rattle.run_edit.specs.Runs.{none_waits}
use Rattle.run_edit.proofs.Going.{Consumes-append, Consumes-end, Feeds-ok, Feeds-err, Ran-lost, Ran-ok, both, further}
use Rattle.run_edit.proofs.reading.run_lines.Goals as goal

pub take_turn-requires : goal.take_turn-requires
take_turn-requires g c = c.loop.invariant.1.none

pub loop-preserved : goal.loop-preserved
loop-preserved g c =
    let read = c.loop.invariant.0 in
    let i = c.loop.invariant.1 in
    let more = take c.in-Ok.count c.read_retrying.new.buffer in
    let size : length more ≡ c.in-Ok.count = grind (arith, common_steps) in
    let short : length more ≤ 4096 = grind (arith, common_steps) in (
      read ++ more,
      record {
        none = c.in-Ok-take_turn.ensures.left;
        took = Consumes-append _ _ _ read more i.took c.in-Ok.ensures.bytes.0;
        turns = (let some = c.if-count-eq0.false in omega (arith, i.turns, length-append read more));
        few = omega (arith, c.in-Ok-take_turn.ensures.few, i.few);
        short = omega (arith, i.short, length-append read more);
        fed = Feeds-ok g.S.Session.goes g.met.S.Session.then_more none_waits none_waits c.args.session.now c.loop.session c.take_turn.new.session [] [] read more c.loop.line
            c.take_turn.new.line c.loop.answered c.in-Ok-take_turn.more (g.W.Write.contents c.args.writer.now) (g.W.Write.contents c.loop.writer)
            (g.W.Write.contents c.take_turn.new.writer) i.fed (λ left none. rw none (c.in-Ok-take_turn.ensures.feeds (unfinished read) i.fed.begun));
      },
    )

pub returns-in-Err-take_turn : goal.returns-in-Err-take_turn
returns-in-Err-take_turn g c =
    let goes = g.S.Session.goes in
    let read = c.loop.invariant.0 in
    let i = c.loop.invariant.1 in
    let first = c.args.session.now in
    let last = c.take_turn.new.session in
    let more = take c.in-Ok.count c.read_retrying.new.buffer in
    let short : length more ≤ 4096 = grind (arith, common_steps) in
    let u = g.W.Write.contents c.args.writer.now in
    let w = g.W.Write.contents c.take_turn.new.writer in
    let error = c.in-Err-take_turn.error in
    let fed = Feeds-err goes g.met.S.Session.then_more none_waits none_waits first c.loop.session last [] [] read more c.loop.line
    c.take_turn.new.line c.loop.answered error u (g.W.Write.contents c.loop.writer) w i.fed
    (λ left none. rw none (c.in-Err-take_turn.ensures.feeds (unfinished read) i.fed.begun)) in
    let few : length (read ++ more) ≤ 4096 * c.args.turns = omega (arith, i.short, c.loop-test.true, length-append read more) in
    Ran-lost goes g.met.S.Session.then_more error c.args.turns first last (read ++ more) _ _ u w (Consumes-append _ _ _ read more i.took c.in-Ok.ensures.bytes.0) few
    (further goes g.met.S.Session.then_more ℕ none_waits first last (whole_lines (read ++ more)) (line_if_any (unfinished (read ++ more))) error u w fed.ends)

pub returns-in-Ok-finish : goal.returns-in-Ok-finish
returns-in-Ok-finish g c =
    let read = c.loop.invariant.0 in
    let i = c.loop.invariant.1 in
    let first = c.args.session.now in
    let last = c.finish.new.session in
    let u = g.W.Write.contents c.args.writer.now in
    let w = g.W.Write.contents c.finish.new.writer in
    let few : length read ≤ 4096 * c.args.turns = omega (arith, i.short, c.loop-test.true) in
    let ended = c.in-Ok-finish.ensures (unfinished read) i.fed.begun in
    let a : c.loop.answered ≡ length (whole_lines read) = i.fed.count in
    let b : c.in-Ok-finish.last ≡ length (line_if_any (unfinished read)) = ended.1 in
    let count : c.loop.answered + c.in-Ok-finish.last ≡ length (lines_of read) = omega (arith, length-append (whole_lines read) (line_if_any (unfinished read))) in
    Ran-ok g.S.Session.goes g.met.S.Session.then_more _ c.args.turns first last read _ _ u w
    (Consumes-end _ _ _ read c.read_retrying.new.buffer c.in-Ok.count c.if-count-eq0.true i.took c.in-Ok.ensures.bytes.0) few
    (c.in-Ok.ensures.bytes.1 c.if-count-eq0.true (grind (arith, common_steps))) count
    (both g.S.Session.goes g.met.S.Session.then_more none_waits none_waits c.loop.answered (Ok (c.loop.answered + c.in-Ok-finish.last)) first c.loop.session last (whole_lines read) (line_if_any (unfinished read)) u
    (g.W.Write.contents c.loop.writer) w i.fed.ends (λ left none. rw none ended.0))

pub returns-in-Err-finish : goal.returns-in-Err-finish
returns-in-Err-finish g c =
    let read = c.loop.invariant.0 in
    let i = c.loop.invariant.1 in
    let first = c.args.session.now in
    let last = c.finish.new.session in
    let u = g.W.Write.contents c.args.writer.now in
    let w = g.W.Write.contents c.finish.new.writer in
    let error = c.in-Err-finish.error in
    let few : length read ≤ 4096 * c.args.turns = omega (arith, i.short, c.loop-test.true) in
    Ran-lost g.S.Session.goes g.met.S.Session.then_more error c.args.turns first last read _ _ u w
    (Consumes-end _ _ _ read c.read_retrying.new.buffer c.in-Ok.count c.if-count-eq0.true i.took c.in-Ok.ensures.bytes.0) few
    (both g.S.Session.goes g.met.S.Session.then_more {V = ℕ} none_waits none_waits c.loop.answered (Err error) first c.loop.session last (whole_lines read) (line_if_any (unfinished read))
    u (g.W.Write.contents c.loop.writer) w i.fed.ends (λ left none. rw none (c.in-Err-finish.ensures (unfinished read) i.fed.begun).0))
