use Rattle.std.proofs.Common.{List, subst}
use Rattle.std.specs.Prelude.{flat_map}
use Rattle.std.specs.Io.KnownBytes.{Appends}
use Rattle.wad_rebuild.specs.declared.kept.KeptFault.{KeptFault}
use Rattle.cli_rebuild.specs.Rebuilding.{kept_line, kept_of}
use Rattle.cli_rebuild.proofs.Rebuilding.{texts_more}
use Rattle.cli_rebuild.proofs.notes.write_notes.Goals as goal

pub loop-level-preserved : goal.loop-level-preserved
loop-level-preserved g c =
    let level = c.level-item.result in
    let v = g.F.Write.contents c.loop-level.errors in
    let w = g.F.Write.contents c.write_faults.new.errors in
    texts_more (λ l. flat_map (kept_line l.name) (kept_of l.fate)) c.args.levels.now c.loop-level.level-index level level (g.F.Write.contents c.args.errors.now) v w
    c.loop-level-test.true c.level-item.is c.loop-level.invariant
    (subst (λ (faults : List KeptFault). Appends v w (flat_map (kept_line level.name) faults)) c.kept_of.ensures c.in-Ok.ensures)
