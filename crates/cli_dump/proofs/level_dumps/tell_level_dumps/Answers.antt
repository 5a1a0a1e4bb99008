use Rattle.std.specs.Prelude.{List, map, string_bytes}
use Rattle.std.proofs.Common.{ℕ, subst}
use Rattle.std.proofs.KnownBytes.{Keeps-refl}
use Rattle.cli_dump.specs.LevelDumps.{IsWadDumped}
use Rattle.cli_dump.proofs.AskedFor.{unread}
use Rattle.cli_dump.proofs.level_dumps.tell_level_dumps.Goals as goal

pub returns-in-Ok-clause-told : goal.returns-in-Ok-clause-told
returns-in-Ok-clause-told g c =
    subst
    (λ (wad : List ℕ). IsWadDumped wad (map string_bytes c.args.names.now) c.args.is_exact c.tell_asked.result (g.W.Write.contents c.args.writer.now)
    (g.W.Write.contents c.tell_asked.new.writer) (g.E.Write.contents c.args.errors.now) (g.E.Write.contents c.tell_asked.new.errors))
    c.in-Ok.ensures.1 c.tell_asked.ensures.told

pub returns-in-Err-clause-told : goal.returns-in-Err-clause-told
returns-in-Err-clause-told g c =
    (unread c.args.wad.now (map string_bytes c.args.names.now) c.in-Err.error c.in-Err.ensures, Keeps-refl (g.W.Write.contents c.args.writer.now), Keeps-refl (g.E.Write.contents c.args.errors.now))
