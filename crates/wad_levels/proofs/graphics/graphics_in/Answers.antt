use Rattle.std.proofs.Common.{◌≡◌, subst, List, ℕ, None}
use Rattle.std.specs.Prelude.{MatchResult}
use Rattle.wad_levels.specs.Graphics.{RefusesGraphics, graphics, graphics_refusal, graphics_view}
use Rattle.wad_levels.specs.declared.error.ReadError.TheVariants.{NotAWad, DirectoryOutside}
use Rattle.wad_levels.proofs.GraphicLemmas.{refused}
use Rattle.wad_levels.proofs.ListingLemmas.{by_bytes}
use Rattle.wad_levels.proofs.graphics.graphics_in.Goals as goal

pub returns-in-Ok : goal.returns-in-Ok
returns-in-Ok c =
    subst (λ (w : List ℕ). MatchResult c.graphics_named.result (λ g. (graphics_refusal w ≡ None) × (graphics_view g ≡ graphics w)) (RefusesGraphics w)) c.in-Ok.ensures.1 c.graphics_named.ensures

pub returns-in-Err : goal.returns-in-Err
returns-in-Err c =
    let wad = c.args.bytes.now in
    by_bytes wad c.in-Err.error (RefusesGraphics wad) (refused wad NotAWad) (refused wad DirectoryOutside) c.in-Err.ensures
