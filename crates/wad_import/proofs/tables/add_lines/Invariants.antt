-- The lines so far are added, and nothing else.
use Rattle.std.proofs.Common.{◌≡◌, take}
use Rattle.wad_import.proofs.tables.add_lines.Given as goal

abbrev pub invariant-loop-line : goal.invariant-loop-line
invariant-loop-line l =
    record {
      tables : l.maps.tables ≡ record l.initial.maps.tables { lines = take l.line-index l.lines };
      others : l.maps.others ≡ l.initial.maps.others;
    }
