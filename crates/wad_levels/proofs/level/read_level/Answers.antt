use Rattle.std.proofs.Common.{subst, List, ℕ}
use Rattle.std.specs.Prelude.{MatchResult}
use Rattle.wad_levels.specs.Levels.{IsLevel}
use Rattle.wad_levels.specs.Views.{RefusesLevel, view}
use Rattle.wad_levels.specs.declared.error.ReadError.TheVariants.{NotAWad, DirectoryOutside}
use Rattle.wad_levels.proofs.ReadLemmas.{refused}
use Rattle.wad_levels.proofs.ListingLemmas.{by_bytes}
use Rattle.wad_levels.proofs.level.read_level.Goals as goal

pub returns-in-Ok : goal.returns-in-Ok
returns-in-Ok c =
    let name = c.args.name.now in
    subst (λ (w : List ℕ). MatchResult c.level_named.result (λ level. IsLevel w name (view level)) (λ e. RefusesLevel w name e)) c.in-Ok.ensures.1 c.level_named.ensures

pub returns-in-Err : goal.returns-in-Err
returns-in-Err c =
    let wad = c.args.bytes.now in
    let name = c.args.name.now in
    by_bytes wad c.in-Err.error (RefusesLevel wad name) (refused wad name NotAWad) (refused wad name DirectoryOutside) c.in-Err.ensures
