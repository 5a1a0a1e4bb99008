use Rattle.std.specs.Prelude.{List, option_map}
use Rattle.std.proofs.Common.{ℕ, subst}
use Rattle.std.proofs.KnownBytes.{Keeps-refl}
use Rattle.cli_print.specs.Choosing.{wants_view}
use Rattle.cli_print.specs.LevelLines.{IsWadLintedOf}
use Rattle.cli_print.proofs.Unread.{all_unread}
use Rattle.cli_print.proofs.level_remarks.tell_levels.Goals as goal

pub returns-in-Ok-clause-told : goal.returns-in-Ok-clause-told
returns-in-Ok-clause-told g c =
    subst
    (λ (wad : List ℕ). IsWadLintedOf (wants_view c.args.wants) wad (option_map (λ s. s.now) c.args.name) c.tell_wanted.result
    (g.W.Write.contents c.args.writer.now) (g.W.Write.contents c.tell_wanted.new.writer))
    c.in-Ok.ensures.1 c.tell_wanted.ensures.told

pub returns-in-Err-clause-told : goal.returns-in-Err-clause-told
returns-in-Err-clause-told g c = (all_unread c.args.wad.now (option_map (λ s. s.now) c.args.name) c.in-Err.error c.in-Err.ensures, Keeps-refl (g.W.Write.contents c.args.writer.now))
