use Rattle.std.proofs.Common.{◌≡◌, ◌∙◌, ◌++◌, ◌+◌, [], ◌∷◌, sym, ap, subst, arith, take, drop, get_or, List, ℕ, Err}
use Rattle.std.proofs.lemmas.List.{take_more, take-append-drop}
use Rattle.run_edit.specs.Lines.{unfinished}
use Rattle.run_edit.specs.Runs.{Feeds}
use Rattle.run_edit.proofs.Going.{Feeds-none, Feeds-ok, Feeds-err, Feeds-further}
use Rattle.run_edit.proofs.reading.feed.Goals as goal

pub loop-b-init : goal.loop-b-init
loop-b-init g c = record {
  few = omega arith;
  some = ([], c.requires);
  fed = λ part begun.
      Feeds-none g.S.Session.goes g.met.S.Session.then_more (g.S.Session.waits c.args.session.now c.args.waiting.now) c.args.session.now [] c.args.line.now part (g.W.Write.contents c.args.writer.now)
      (g.met.S.Session.none c.args.session.now) c.requires begun;
}

pub returns-in-Err-clause-feeds : goal.returns-in-Err-clause-feeds
returns-in-Err-clause-feeds g c = λ part begun.
    let goes = g.S.Session.goes in
    let old = c.args.session.now in
    let mid = c.loop-b.session in
    let new = c.take_byte.new.session in
    let u = g.W.Write.contents c.args.writer.now in
    let v = g.W.Write.contents c.loop-b.writer in
    let w = g.W.Write.contents c.take_byte.new.writer in
    let bytes = c.args.bytes.now in
    let i = c.loop-b.b-index in
    let b = get_or bytes i 0 in
    let before = c.loop-b.invariant.fed part begun in
    let waits = g.S.Session.waits new c.take_byte.new.waiting in
    let both = Feeds-err goes g.met.S.Session.then_more (g.S.Session.waits mid c.loop-b.waiting) waits old mid new [] part (take i bytes) (b ∷ []) c.loop-b.line c.take_byte.new.line
    c.loop-b.answered c.in-Err.error u v w before (λ left wait. c.in-Err.ensures.feeds left (unfinished (part ++ take i bytes)) wait before.begun) in
    let all = Feeds-further goes g.met.S.Session.then_more waits old new [] part (take i bytes ++ b ∷ []) (drop (i + 1) bytes) c.take_byte.new.line c.in-Err.error u w both in
    let whole : (take i bytes ++ b ∷ []) ++ drop (i + 1) bytes ≡ bytes =
    ap (λ z. z ++ drop (i + 1) bytes) (sym (take_more bytes i 0 c.loop-b-test.true)) ∙ take-append-drop (i + 1) bytes in
    subst (λ (z : List ℕ). Feeds goes waits (Err c.in-Err.error) old new [] part z c.take_byte.new.line u w) whole all

pub loop-b-preserved : goal.loop-b-preserved
loop-b-preserved g c =
    let goes = g.S.Session.goes in
    let mid = c.loop-b.session in
    let new = c.take_byte.new.session in
    let waits = g.S.Session.waits new c.take_byte.new.waiting in
    record {
      few = omega (arith, c.in-Ok.ensures.few, c.loop-b.invariant.few);
      some = c.in-Ok.ensures.left;
      fed = λ part begun.
          let old = c.args.session.now in
          let bytes = c.args.bytes.now in
          let i = c.loop-b.b-index in
          let b = get_or bytes i 0 in
          let before = c.loop-b.invariant.fed part begun in
          rw (take_more bytes i 0 c.loop-b-test.true)
          (Feeds-ok goes g.met.S.Session.then_more (g.S.Session.waits mid c.loop-b.waiting) waits old mid new [] part (take i bytes) (b ∷ []) c.loop-b.line c.take_byte.new.line
          c.loop-b.answered c.in-Ok.count (g.W.Write.contents c.args.writer.now) (g.W.Write.contents c.loop-b.writer) (g.W.Write.contents c.take_byte.new.writer) before
          (λ left wait. c.in-Ok.ensures.feeds left (unfinished (part ++ take i bytes)) wait before.begun));
    }
