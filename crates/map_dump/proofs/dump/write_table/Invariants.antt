use Rattle.std.specs.Prelude.{flat_map, take}
use Rattle.std.specs.Io.KnownBytes.{Appends}
use Rattle.map_dump.specs.Dump.{additions_of}
use Rattle.map_dump.proofs.Written.{alone, text}
use Rattle.map_dump.proofs.dump.write_table.Given as goal

-- the lines of the items so far have been written
abbrev pub invariant-loop-n : goal.invariant-loop-n
invariant-loop-n g l =
    Appends (g.W.Write.contents l.fn.writer) (g.W.Write.contents l.writer) (text (flat_map alone (take l.n (additions_of l.map.tables l.kind))))
