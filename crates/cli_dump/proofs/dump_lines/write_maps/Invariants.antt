-- The lines of the maps so far that are asked for.
use Rattle.std.specs.Prelude.{flat_map, map, string_bytes, take}
use Rattle.std.specs.Io.KnownBytes.{Appends}
use Rattle.map_dump.specs.Texts.{text_of}
use Rattle.map_tables.specs.Projects.{project_of}
use Rattle.cli_dump.specs.Dumping.{lines_asked}
use Rattle.cli_dump.proofs.dump_lines.write_maps.Given as goal

abbrev pub invariant-loop-n : goal.invariant-loop-n
invariant-loop-n g l =
    Appends (g.W.Write.contents l.fn.writer) (g.W.Write.contents l.writer) (text_of (flat_map (lines_asked (map string_bytes l.names)) (take l.n (project_of l.maps).maps)))
