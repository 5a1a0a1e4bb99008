use Rattle.std.proofs.Common.{◌≡◌, ◌∙◌, ◌∷◌, [], ◌++◌, List, ℕ, IfOk, ap, map, refl, subst}
use Rattle.map_checks.specs.Texts.{finding_text}
use Rattle.cli_pictures.specs.Marking.{said_at}
use Rattle.map_svg.specs.declared.marks.MarkPlace.{MarkPlace}
use Rattle.cli_pictures.proofs.marking.add_finding.Goals as goal

pub returns-in-Ok-clause-added : goal.returns-in-Ok-clause-added
returns-in-Ok-clause-added c =
    let text = finding_text c.args.finding.now in
    let said = c.in-Ok.ensures.said text refl ∙ ap (λ (p : MarkPlace). (p, text)) c.finding_place.ensures in
    subst (λ (k : MarkPlace × List ℕ). IfOk c.add.result (λ _. map said_at c.add.new.marks.items ≡ map said_at c.args.marks.now.items ++ k ∷ [])) said
    c.add.ensures.added
