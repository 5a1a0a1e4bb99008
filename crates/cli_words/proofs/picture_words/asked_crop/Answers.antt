use Rattle.std.proofs.Common.{◌∙◌, List, Option, None, Some, ℕ, ap, subst, sym}
use Rattle.std.specs.Prelude.{codes}
use Rattle.clap.specs.Words.{found_of}
use Rattle.clap.proofs.WalkLemmas.{first_value-rows}
use Rattle.cli_words.specs.Boxes.{IsCropAsked, WritesNoBox}
use Rattle.cli_words.proofs.picture_words.asked_crop.Goals as goal

pub returns-in_default-clause-given : goal.returns-in_default-clause-given
returns-in_default-clause-given c =
    subst (λ (given : Option (List ℕ)). IsCropAsked given None) (c.in_default.ensures ∙ first_value-rows (found_of c.args.found.now) (codes "crop")) tt

pub returns-in-Some-box_in-clause-given : goal.returns-in-Some-box_in-clause-given
returns-in-Some-box_in-clause-given c =
    subst (λ (given : Option (List ℕ)). IsCropAsked given (Some c.in-Some-box_in.bounds))
    (c.in-Some.ensures ∙ first_value-rows (found_of c.args.found.now) (codes "crop")) c.in-Some-box_in.ensures.some

pub returns-in-Ok-clause-refused : goal.returns-in-Ok-clause-refused
returns-in-Ok-clause-refused c = (
  sym (first_value-rows (found_of c.args.found.now) (codes "crop")) ∙ sym c.in-Some.ensures ∙ ap Some (sym c.in-Ok.ensures.same),
  subst WritesNoBox (sym c.in-Ok.ensures.same) c.in-None.ensures.none,
)
