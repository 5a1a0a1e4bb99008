use Rattle.std.proofs.Common.{◌≡◌, ◌∙◌, List, None, ap, subst, ℕ}
use Rattle.wad_levels.specs.Graphics.{graphics, graphics_refusal}
use Rattle.cli_print.proofs.wad_graphics.graphics_read.Goals as goal

pub returns-in-Ok : goal.returns-in-Ok
returns-in-Ok g c = (
  c.in_ok-wad.wad.items,
  c.in_ok-wad.ensures.whole,
  subst (λ (w : List ℕ). graphics_refusal w ≡ None) c.deref.ensures.value c.in-Ok.ensures.0,
  c.in-Ok.ensures.1 ∙ ap graphics c.deref.ensures.value,
)
