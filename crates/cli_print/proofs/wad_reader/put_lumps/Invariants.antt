-- One lump after another is taken.
use Rattle.std.specs.Prelude.{[]}
use Rattle.wad_file.specs.Drafts.{Takes}
use Rattle.cli_print.proofs.wad_reader.put_lumps.Given as goal

abbrev pub invariant-loop-k : goal.invariant-loop-k
invariant-loop-k g l = Takes l.writer []
