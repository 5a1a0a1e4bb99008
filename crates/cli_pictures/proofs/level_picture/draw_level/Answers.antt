use Rattle.std.specs.Prelude.{List, is_some, option_map}
use Rattle.std.proofs.Common.{ℕ, inl, refl, subst}
use Rattle.std.proofs.KnownBytes.{Keeps-refl}
use Rattle.cli_pictures.specs.LevelPicture.{IsLevelPicturedOf}
use Rattle.cli_print.proofs.Unread.{unread}
use Rattle.cli_pictures.proofs.level_picture.draw_level.Goals as goal

pub returns-in-Ok-clause-drawn : goal.returns-in-Ok-clause-drawn
returns-in-Ok-clause-drawn g c =
    subst
    (λ (wad : List ℕ). IsLevelPicturedOf c.args.wanted.layers (option_map (λ s. s.now) c.args.wanted.map) (is_some c.args.wanted.out) wad c.draw_wanted.result
    (g.W.Write.contents c.args.writer.now) (g.W.Write.contents c.draw_wanted.new.writer))
    c.in-Ok.ensures.1 c.draw_wanted.ensures.drawn

pub returns-in-Err-clause-drawn : goal.returns-in-Err-clause-drawn
returns-in-Err-clause-drawn g c =
    inl (
      inl (c.in-Err.error, unread c.args.wad.now (option_map (λ s. s.now) c.args.wanted.map) c.in-Err.error c.in-Err.ensures, refl),
      Keeps-refl (g.W.Write.contents c.args.writer.now),
    )
