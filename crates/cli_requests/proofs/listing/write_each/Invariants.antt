use Rattle.std.proofs.Common.{take}
use Rattle.std.specs.Prelude.{flat_map}
use Rattle.std.specs.Io.KnownBytes.{Appends}
use Rattle.cli_requests.specs.LevelNames.{level_line}
use Rattle.cli_requests.proofs.listing.write_each.Given as goal

-- the names so far have been written
abbrev pub invariant-loop-name : goal.invariant-loop-name
invariant-loop-name g l =
    Appends (g.W.Write.contents l.fn.writer) (g.W.Write.contents l.writer) (flat_map level_line (take l.name-index l.names))
