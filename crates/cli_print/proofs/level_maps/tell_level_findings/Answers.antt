use Rattle.std.specs.Prelude.{List, option_map}
use Rattle.std.proofs.Common.{ℕ, subst}
use Rattle.std.proofs.KnownBytes.{Keeps-refl}
use Rattle.cli_print.specs.LevelLines.{IsWadChecked}
use Rattle.cli_print.proofs.Unread.{unread}
use Rattle.cli_print.proofs.level_maps.tell_level_findings.Goals as goal

pub returns-in-Ok-clause-told : goal.returns-in-Ok-clause-told
returns-in-Ok-clause-told g c =
    subst
    (λ (wad : List ℕ). IsWadChecked wad (option_map (λ s. s.now) c.args.name) c.tell_wanted.result (g.W.Write.contents c.args.writer.now) (g.W.Write.contents c.tell_wanted.new.writer))
    c.in-Ok.ensures.1 c.tell_wanted.ensures.told

pub returns-in-Err-clause-told : goal.returns-in-Err-clause-told
returns-in-Err-clause-told g c = (unread c.args.wad.now (option_map (λ s. s.now) c.args.name) c.in-Err.error c.in-Err.ensures, Keeps-refl (g.W.Write.contents c.args.writer.now))
