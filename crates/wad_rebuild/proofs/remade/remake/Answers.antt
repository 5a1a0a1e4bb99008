use Rattle.std.proofs.Common.{subst}
use Rattle.wad_rebuild.specs.Remade.{IsUnmade}
use Rattle.wad_rebuild.proofs.MadeLemmas.{left_for}
use Rattle.wad_rebuild.proofs.remade.remake.Goals as goal

pub returns-in-Err-made_of : goal.returns-in-Err-made_of
returns-in-Err-made_of c =
    left_for c.args.wad.now c.args.level c.in-Err-made_of.cause c.in-Ok.ensures.0
    (subst (λ d. IsUnmade d c.in-Err-made_of.cause) c.in-Ok.ensures.1 c.in-Err-made_of.ensures)
