use Rattle.std.proofs.Common.{◌≡◌, ℕ, Result, subst, sym}
use Rattle.map_tables.specs.Outcomes.{nothing}
use Rattle.run_edit.specs.Answers.{ChangesBy}
use Rattle.run_edit.proofs.Answering.{tried}
use Rattle.run_canvas.specs.Origins.{NotesOrigins}
use Rattle.run_canvas.proofs.Origins.{notes}
use Rattle.run_canvas.proofs.origin_draft.OriginDraftCanvas.change.Goals as goal

pub returns : goal.returns
returns c =
    let old = c.args.self.now in
    let new = c.apply.new.self in
    let line = c.args.line.now in
    let command = c.in-Ok.command in
    let changes = tried old.draft.cap old.draft.maps new.draft.maps line command nothing c.apply.result c.in-Ok.ensures.ok.1 c.in-Ok.ensures.ok.0 c.in-Ok.ensures.fault c.apply.ensures.ends
    c.apply.ensures.promised in
    let noted = notes c.apply.result old line command new.origins c.in-Ok.ensures.ok.1 c.in-Ok.ensures.ok.0 c.apply.ensures.origins in (
      (
        subst (λ (outcome : Result ℕ ℕ). ChangesBy old.draft.cap old.draft.maps line outcome new.draft.maps) (sym c.outcome_of.ensures) changes,
        c.apply.ensures.cap,
      ),
      c.apply.ensures.place,
      subst (λ (outcome : Result ℕ ℕ). NotesOrigins old line outcome new.origins) (sym c.outcome_of.ensures) noted,
    )
