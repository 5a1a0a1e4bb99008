use Rattle.std.proofs.Common.{◌≡◌, [], ◌++◌, ℕ, List, Ok, Err}
use Rattle.run_edit.specs.Lines.{whole_lines}
use Rattle.run_edit.specs.Runs.{none_waits}
use Rattle.run_edit.proofs.Going.{both_same, kept, lost, stopped}
use Rattle.run_edit.proofs.reading.take_turn.Goals as goal

pub returns-in-Ok-flush-clause-feeds : goal.returns-in-Ok-flush-clause-feeds
returns-in-Ok-flush-clause-feeds g c = λ part begun.
    let fed = c.in-Ok.ensures.feeds part begun in
    let lines = [] ++ whole_lines (part ++ c.args.bytes.now) in
    let old = c.args.session.now in
    let mid = c.feed.new.session in
    let new = c.settle.new.self in
    let u = g.W.Write.contents c.args.writer.now in
    let v = g.W.Write.contents c.feed.new.writer in
    let w = g.W.Write.contents c.settle.new.writer in
    let x = g.W.Write.contents c.flush.new.writer in
    record {
      ends = kept g.S.Session.goes g.met.S.Session.then_more ℕ none_waits old new lines (tt {0}) c.in-Ok.count u w x
          (both_same g.S.Session.goes g.met.S.Session.then_more (g.S.Session.waits mid c.feed.new.waiting) none_waits c.in-Ok.count (Ok (tt {0})) old mid new lines u v w fed.ends
          (λ left wait. c.in-Ok-settle.ensures.taken left wait)) c.in-Ok-flush.ensures;
      count = fed.count;
      begun = fed.begun;
    }

pub returns-in-Err-flush-clause-feeds : goal.returns-in-Err-flush-clause-feeds
returns-in-Err-flush-clause-feeds g c = λ part begun.
    let fed = c.in-Ok.ensures.feeds part begun in
    let lines = [] ++ whole_lines (part ++ c.args.bytes.now) in
    let old = c.args.session.now in
    let mid = c.feed.new.session in
    let new = c.settle.new.self in
    let u = g.W.Write.contents c.args.writer.now in
    let v = g.W.Write.contents c.feed.new.writer in
    let w = g.W.Write.contents c.settle.new.writer in
    let x = g.W.Write.contents c.flush.new.writer in
    record {
      ends = stopped g.S.Session.goes g.met.S.Session.then_more ℕ none_waits old new lines (tt {0}) c.in-Err-flush.error u w x
          (both_same g.S.Session.goes g.met.S.Session.then_more (g.S.Session.waits mid c.feed.new.waiting) none_waits c.in-Ok.count (Ok (tt {0})) old mid new lines u v w fed.ends
          (λ left wait. c.in-Ok-settle.ensures.taken left wait)) c.in-Err-flush.ensures;
      count = tt;
      begun = tt;
    }

pub returns-in-Err-settle-clause-feeds : goal.returns-in-Err-settle-clause-feeds
returns-in-Err-settle-clause-feeds g c = λ part begun.
    let fed = c.in-Ok.ensures.feeds part begun in
    let lines = [] ++ whole_lines (part ++ c.args.bytes.now) in
    let old = c.args.session.now in
    let mid = c.feed.new.session in
    let new = c.settle.new.self in
    record {
      ends = lost g.S.Session.goes g.met.S.Session.then_more (Unit {0}) ℕ none_waits none_waits old new lines c.in-Err-settle.error (g.W.Write.contents c.args.writer.now) (g.W.Write.contents c.settle.new.writer)
          (both_same g.S.Session.goes g.met.S.Session.then_more {V = Unit {0}} (g.S.Session.waits mid c.feed.new.waiting) none_waits c.in-Ok.count (Err c.in-Err-settle.error) old mid new lines
          (g.W.Write.contents c.args.writer.now) (g.W.Write.contents c.feed.new.writer) (g.W.Write.contents c.settle.new.writer) fed.ends (λ left wait. c.in-Err-settle.ensures.taken left wait));
      count = tt;
      begun = tt;
    }
