use Rattle.std.proofs.Common.{◌≡◌, ℕ, List, Option, Result, Ok, Err, refl, subst, sym}
use Rattle.run_edit.specs.Spoken.{TellsCode, refusal_in}
use Rattle.run_edit.specs.Texts.{outcome_text}
use Rattle.run_edit.proofs.spoken.write_told.Goals as goal

told : (outcome : Result ℕ ℕ) → TellsCode (refusal_in outcome) (outcome_text outcome)
told (Ok n) = tt
told (Err code) = refl

pub returns-in-Ok : goal.returns-in-Ok
returns-in-Ok g c = (
  c.in-Ok.ensures,
  subst (λ (r : Option ℕ). TellsCode r (outcome_text c.args.outcome)) (sym c.refusal_in.ensures) (told c.args.outcome),
)
