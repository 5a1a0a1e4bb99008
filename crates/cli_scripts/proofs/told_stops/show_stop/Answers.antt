use Rattle.std.proofs.Common.{List, ℕ, subst}
use Rattle.std.specs.Io.KnownBytes.{Appends}
use Rattle.lump_text.specs.Shown.{shown_lines}
use Rattle.cli_scripts.proofs.told_stops.show_stop.Goals as goal

pub returns-in-Ok-write_shown_lines : goal.returns-in-Ok-write_shown_lines
returns-in-Ok-write_shown_lines g c = λ file line in_file is. (
  c.in-Ok.told.items,
  c.in-Ok.ensures.told file line in_file is,
  subst (λ (t : List ℕ). Appends (g.F.Write.contents c.args.faults.now) (g.F.Write.contents c.write_shown_lines.new.writer) (shown_lines t)) c.deref.ensures.value
      c.in-Ok-write_shown_lines.ensures,
)
