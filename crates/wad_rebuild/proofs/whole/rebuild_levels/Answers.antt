use Rattle.std.proofs.Common.{subst, List, ℕ, map, string_bytes}
use Rattle.wad_rebuild.specs.Rebuilt.{RefusesRebuild}
use Rattle.wad_rebuild.specs.Whole.{IsAcceptedWith}
use Rattle.wad_rebuild.proofs.whole.rebuild_levels.Goals as goal

pub returns-in-Ok-levels_with : goal.returns-in-Ok-levels_with
returns-in-Ok-levels_with c =
    let names = map string_bytes c.args.names.now in (
      c.in-Ok.ensures.1,
      subst (λ (w : List ℕ). IsAcceptedWith w names c.in-Ok-levels_with.levels.items) c.in-Ok.ensures.1 c.in-Ok-levels_with.ensures,
    )

pub returns-in-Err : goal.returns-in-Err
returns-in-Err c =
    let names = map string_bytes c.args.names.now in
    subst (λ (w : List ℕ). RefusesRebuild w names c.in-Err.error) c.in-Ok.ensures.1 c.in-Err.ensures
