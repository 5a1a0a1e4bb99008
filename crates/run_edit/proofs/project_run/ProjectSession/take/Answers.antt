use Rattle.std.proofs.Common.{◌≡◌, ◌∙◌, ◌++◌, [], ◌∷◌, ℕ, List, Ok, Err, refl, subst, sym}
use Rattle.std.proofs.lemmas.List.{take_all}
use Rattle.run_edit.specs.Composing.{goes_behind, goes_none}
use Rattle.run_edit.specs.Editing.{RepliesInProject}
use Rattle.run_edit.specs.Groups.{Waits}
use Rattle.run_edit.specs.Runs.{none_waits}
use Rattle.run_edit.specs.Sessions.{GoesOver}
use Rattle.run_edit.proofs.Going.{both, further, lost, none_left, nothing, taken_alone, weaker}
use Rattle.run_edit.proofs.RunCalls.{line_goes}
use Rattle.run_edit.proofs.project_run.ProjectSession.take.Goals as goal

pub settle-requires : goal.settle-requires
settle-requires g c =
    let some = c.requires.waiting in
    (some.0 ++ c.args.line.now ∷ [], c.hold.ensures.waits some.0 c.args.line.now some.1 (sym (take_all 257 c.args.line.now c.requires.short)) c.if-hold.true)

pub settle-requires-else-hold : goal.settle-requires-else-hold
settle-requires-else-hold g c = let some = c.requires.waiting in (some.0, c.hold.ensures.same some.0 some.1 c.if-hold.false)

pub returns-then-is_full : goal.returns-then-is_full
returns-then-is_full g c = λ lines whole wait front.
    none_left (GoesOver g.D.Disk) (goes_behind g.D.Disk) (Waits c.settle.new.self c.settle.new.waiting) c.settle.result c.args.self.now c.settle.new.self (lines ++ whole ∷ [])
    (g.W.Write.contents c.args.writer.now) (g.W.Write.contents c.settle.new.writer) c.settle.ensures.left
    (c.settle.ensures.taken (lines ++ whole ∷ []) (c.hold.ensures.waits lines whole wait front c.if-hold.true))

pub returns-else-is_full : goal.returns-else-is_full
returns-else-is_full g c = λ lines whole wait front.
    nothing (GoesOver g.D.Disk) (goes_behind g.D.Disk) (Waits c.args.self.now c.hold.new.waiting) (tt {0}) c.args.self.now (lines ++ whole ∷ []) (g.W.Write.contents c.args.writer.now)
    (goes_none g.D.Disk c.args.self.now) (c.hold.ensures.waits lines whole wait front c.if-hold.true)

pub returns-in-Ok : goal.returns-in-Ok
returns-in-Ok g c = λ lines whole wait front.
    weaker (GoesOver g.D.Disk) (goes_behind g.D.Disk) none_waits (Waits c.answer_alone.new.project c.answer_alone.new.waiting) c.answer_alone.result c.args.self.now c.answer_alone.new.project (lines ++ whole ∷ [])
    (g.W.Write.contents c.args.writer.now) (g.W.Write.contents c.answer_alone.new.writer)
    (λ left none. subst (λ (ls : List (List ℕ)). Waits c.answer_alone.new.project c.answer_alone.new.waiting ls) (sym none) c.answer_alone.ensures.left)
    (both (GoesOver g.D.Disk) (goes_behind g.D.Disk) none_waits none_waits (tt {0}) c.answer_alone.result c.args.self.now c.settle-else-hold.new.self c.answer_alone.new.project lines (whole ∷ [])
    (g.W.Write.contents c.args.writer.now) (g.W.Write.contents c.settle-else-hold.new.writer) (g.W.Write.contents c.answer_alone.new.writer)
    (c.in-Ok.ensures.taken lines (c.hold.ensures.same lines wait c.if-hold.false))
    (λ left none.
    taken_alone (RepliesInProject g.D.Disk) (GoesOver g.D.Disk) (line_goes g.D.Disk g.met.D.Disk.counts_now) c.answer_alone.result c.settle-else-hold.new.self c.answer_alone.new.project left whole
    (g.W.Write.contents c.settle-else-hold.new.writer) (g.W.Write.contents c.answer_alone.new.writer) none (c.answer_alone.ensures.answered whole front)))

pub returns-in-Err : goal.returns-in-Err
returns-in-Err g c = λ lines whole wait front.
    lost (GoesOver g.D.Disk) (goes_behind g.D.Disk) (Unit {0}) (Unit {0}) none_waits (Waits c.settle-else-hold.new.self c.settle-else-hold.new.waiting) c.args.self.now c.settle-else-hold.new.self
    (lines ++ whole ∷ []) c.in-Err.error (g.W.Write.contents c.args.writer.now) (g.W.Write.contents c.settle-else-hold.new.writer)
    (further (GoesOver g.D.Disk) (goes_behind g.D.Disk) (Unit {0}) none_waits c.args.self.now c.settle-else-hold.new.self lines (whole ∷ []) c.in-Err.error
    (g.W.Write.contents c.args.writer.now) (g.W.Write.contents c.settle-else-hold.new.writer)
    (c.in-Err.ensures.taken lines (c.hold.ensures.same lines wait c.if-hold.false)))
