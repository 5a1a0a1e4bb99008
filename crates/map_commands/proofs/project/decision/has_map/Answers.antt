use Rattle.std.proofs.Common.{◌≡◌, ℕ, Bool, true, false, cond, Some, None, refl, ◌∙◌, ap}
use Rattle.std.specs.Option.{is_some}
use Rattle.map_commands.proofs.project.decision.has_map.Goals as goal

some-if : (t : Bool) (n : ℕ) → is_some (cond t (Some n) None) ≡ t
some-if true n = refl
some-if false n = refl

pub returns : goal.returns
returns c = c.is_some.ensures ∙ ap is_some c.find.ensures ∙ some-if _ _
