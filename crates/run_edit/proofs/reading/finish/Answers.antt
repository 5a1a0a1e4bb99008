use Rattle.std.proofs.Common.{◌≡◌, ◌<◌, ◌∷◌, [], ◌∙◌, ℕ, List, length, sym, subst, refl, arith}
use Rattle.std.proofs.lemmas.Bool.Decides.{nat_tests}
use Rattle.std.specs.Prelude.{Err, Ok}
use Rattle.run_edit.specs.Lines.{line_if_any}
use Rattle.run_edit.specs.Runs.{TakesLines, none_waits}
use Rattle.run_edit.proofs.Going.{kept, line-of-none, line-of-some, lost, nothing, stopped}
use Rattle.run_edit.proofs.reading.finish.Goals as goal

pub returns-then-is_empty : goal.returns-then-is_empty
returns-then-is_empty g c = λ part begun.
    let none : length c.args.line.now ≡ 0 = let e = c.as_slice-kept.ensures.bytes in let f = c.is_empty.ensures in let h = c.if-is_empty.true in grind (arith, nat_tests) in
    rw (line-of-none c.args.line.now part begun none)
    (nothing g.S.Session.goes g.met.S.Session.then_more {U = ℕ} none_waits 0 c.args.session.now [] (g.W.Write.contents c.args.writer.now) (g.met.S.Session.none c.args.session.now) refl, refl)

pub returns-in-Ok-flush : goal.returns-in-Ok-flush
returns-in-Ok-flush g c = λ part begun.
    let some : 0 < length c.args.line.now = let e = c.as_slice-kept.ensures.bytes in let f = c.is_empty.ensures in let h = c.if-is_empty.false in grind (arith, nat_tests) in
    rw (line-of-some c.args.line.now part begun some) (
      kept g.S.Session.goes g.met.S.Session.then_more ℕ none_waits c.args.session.now c.take_alone.new.session (part ∷ []) (tt {0}) 1
          (g.W.Write.contents c.args.writer.now) (g.W.Write.contents c.take_alone.new.writer) (g.W.Write.contents c.flush.new.writer)
          (c.in-Ok.ensures part (c.as_slice-kept.ensures.bytes ∙ begun.front)) c.in-Ok-flush.ensures,
      refl,
    )

pub returns-in-Err-flush : goal.returns-in-Err-flush
returns-in-Err-flush g c = λ part begun.
    let some : 0 < length c.args.line.now = let e = c.as_slice-kept.ensures.bytes in let f = c.is_empty.ensures in let h = c.if-is_empty.false in grind (arith, nat_tests) in
    rw (line-of-some c.args.line.now part begun some) (
      stopped g.S.Session.goes g.met.S.Session.then_more ℕ none_waits c.args.session.now c.take_alone.new.session (part ∷ []) (tt {0}) c.in-Err-flush.error
          (g.W.Write.contents c.args.writer.now) (g.W.Write.contents c.take_alone.new.writer) (g.W.Write.contents c.flush.new.writer)
          (c.in-Ok.ensures part (c.as_slice-kept.ensures.bytes ∙ begun.front)) c.in-Err-flush.ensures,
      tt,
    )

pub returns-in-Err : goal.returns-in-Err
returns-in-Err g c = λ part begun.
    let some : 0 < length c.args.line.now = let e = c.as_slice-kept.ensures.bytes in let f = c.is_empty.ensures in let h = c.if-is_empty.false in grind (arith, nat_tests) in
    rw (line-of-some c.args.line.now part begun some) (
      lost g.S.Session.goes g.met.S.Session.then_more (Unit {0}) ℕ none_waits none_waits c.args.session.now c.take_alone.new.session (part ∷ []) c.in-Err.error
          (g.W.Write.contents c.args.writer.now) (g.W.Write.contents c.take_alone.new.writer) (c.in-Err.ensures part (c.as_slice-kept.ensures.bytes ∙ begun.front)),
      tt,
    )
