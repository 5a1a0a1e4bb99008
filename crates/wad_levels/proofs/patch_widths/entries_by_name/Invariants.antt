use Rattle.wad_levels.specs.Patches.{AreFirstEntries}
use Rattle.wad_levels.proofs.patch_widths.entries_by_name.Given as goal

abbrev pub invariant-loop-k : goal.invariant-loop-k
invariant-loop-k l = AreFirstEntries l.wad l.k l.by_name
