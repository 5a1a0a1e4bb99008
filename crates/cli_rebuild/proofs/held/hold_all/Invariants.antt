-- The lumps of the entries so far are appended.
use Rattle.std.specs.Prelude.{[]}
use Rattle.wad_file.specs.Drafts.{Takes}
use Rattle.cli_rebuild.specs.Holding.{AreHeldIn}
use Rattle.cli_rebuild.proofs.held.hold_all.Given as goal

abbrev pub invariant-loop-k : goal.invariant-loop-k
invariant-loop-k g l = Takes l.writer [] × AreHeldIn l.directory l.k l.writer.lumps
