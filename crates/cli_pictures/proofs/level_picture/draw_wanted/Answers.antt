use Rattle.std.proofs.Common.{◌∙◌, inl}
use Rattle.std.specs.Prelude.{is_some, option_map}
use Rattle.std.proofs.KnownBytes.{Keeps-refl}
use Rattle.wad_import.proofs.ProjectFacts.{alone_parts}
use Rattle.cli_print.specs.LevelLines.{level_map}
use Rattle.cli_pictures.proofs.LevelPicture.{level_bare, level_drawn, level_no_map}
use Rattle.cli_pictures.proofs.level_picture.draw_wanted.Goals as goal

pub returns-in-Err-map_or_refusal-clause-drawn : goal.returns-in-Err-map_or_refusal-clause-drawn
returns-in-Err-map_or_refusal-clause-drawn g c =
    inl (
      level_no_map c.args.wanted.layers (option_map (λ s. s.now) c.args.wanted.map) c.args.wad.now c.in-Err-map_or_refusal.refusal c.in-Ok.level c.in-Ok.ensures.wanted
          c.in-Err-map_or_refusal.ensures.refused,
      Keeps-refl (g.W.Write.contents c.args.writer.now),
    )

pub returns-in-Ok-laid_over_level-clause-drawn : goal.returns-in-Ok-laid_over_level-clause-drawn
returns-in-Ok-laid_over_level-clause-drawn g c =
    let wad = c.args.wad.now in
    let level = c.in-Ok.level in
    let found = c.in-Ok-map_or_refusal.ensures.map in
    level_drawn c.args.wanted.layers (option_map (λ s. s.now) c.args.wanted.map) (is_some c.args.wanted.out) wad c.draw_laid.result (g.W.Write.contents c.args.writer.now)
    (g.W.Write.contents c.draw_laid.new.writer) level c.current-map.result.now.tables c.in-Ok-laid_over_level.overlay c.in-Ok.ensures.wanted found.0
    (c.current-map.ensures.tables ∙ (alone_parts c.in-Ok-map_or_refusal.found.maps (level_map wad level) found.1).0) c.in-Ok-laid_over_level.ensures.laid
    c.draw_laid.ensures.drawn

pub returns-clause-drawn : goal.returns-clause-drawn
returns-clause-drawn g c =
    inl (
      level_bare c.args.wanted.layers (option_map (λ s. s.now) c.args.wanted.map) c.args.wad.now c.in-Err-laid_over_level.refusal c.in-Ok.level c.in-Ok.ensures.wanted
          c.in-Err-laid_over_level.ensures.refused,
      Keeps-refl (g.W.Write.contents c.args.writer.now),
    )
