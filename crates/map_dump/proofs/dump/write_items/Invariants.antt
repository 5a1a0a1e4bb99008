use Rattle.std.specs.Prelude.{flat_map, take}
use Rattle.std.specs.Io.KnownBytes.{Appends}
use Rattle.map_commands.specs.Spelling.{kinds}
use Rattle.map_dump.proofs.Written.{table, text}
use Rattle.map_dump.proofs.dump.write_items.Given as goal

-- the lines of the tables so far have been written
abbrev pub invariant-loop-kind : goal.invariant-loop-kind
invariant-loop-kind g l =
    Appends (g.W.Write.contents l.fn.writer) (g.W.Write.contents l.writer) (text (flat_map (table l.map.tables) (take l.kind-index kinds)))
