use Rattle.std.proofs.Common.{take}
use Rattle.std.specs.Prelude.{flat_map}
use Rattle.std.specs.Io.KnownBytes.{Appends}
use Rattle.cli_rebuild.specs.Rebuilding.{kept_line}
use Rattle.cli_rebuild.proofs.notes.write_faults.Given as goal

-- the faults so far have been told
abbrev pub invariant-loop-fault : goal.invariant-loop-fault
invariant-loop-fault g l =
    Appends (g.F.Write.contents l.fn.errors) (g.F.Write.contents l.errors) (flat_map (kept_line l.name) (take l.fault-index l.faults))
