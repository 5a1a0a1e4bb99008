use Rattle.std.proofs.Common.{◌≡◌, [], ◌∷◌, ◌∙◌, refl, sym, subst, List, ℕ}
use Rattle.std.proofs.lemmas.List.{take_all}
use Rattle.run_edit.specs.Runs.{none_waits}
use Rattle.run_edit.proofs.Going.{both_same, lost}
use Rattle.run_edit.proofs.reading.take_alone.Goals as goal

pub settle-requires : goal.settle-requires
settle-requires g c =
    let taken = c.in-Ok.ensures [] c.args.line.now (c.none_waiting-waiting.ensures c.args.session.now) (sym (take_all 257 c.args.line.now c.requires)) in
    (taken.2.0, taken.2.1)

pub returns : goal.returns
returns g c = λ whole front.
    both_same g.S.Session.goes g.met.S.Session.then_more (g.S.Session.waits c.take.new.self c.take.new.waiting) none_waits (tt {0}) c.settle.result c.args.session.now c.take.new.self c.settle.new.self (whole ∷ [])
    (g.W.Write.contents c.args.writer.now) (g.W.Write.contents c.take.new.writer) (g.W.Write.contents c.settle.new.writer)
    (c.in-Ok.ensures [] whole (c.none_waiting-waiting.ensures c.args.session.now) front) (λ left wait. c.settle.ensures.taken left wait)

pub returns-in-Err : goal.returns-in-Err
returns-in-Err g c = λ whole front.
    lost g.S.Session.goes g.met.S.Session.then_more (Unit {0}) (Unit {0}) (g.S.Session.waits c.take.new.self c.take.new.waiting) none_waits c.args.session.now c.take.new.self (whole ∷ []) c.in-Err.error
    (g.W.Write.contents c.args.writer.now) (g.W.Write.contents c.take.new.writer) (c.in-Err.ensures [] whole (c.none_waiting-waiting.ensures c.args.session.now) front)
