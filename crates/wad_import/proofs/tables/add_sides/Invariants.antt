-- The sides so far are added, and nothing else.
use Rattle.std.proofs.Common.{◌≡◌, take}
use Rattle.wad_import.proofs.tables.add_sides.Given as goal

abbrev pub invariant-loop-side : goal.invariant-loop-side
invariant-loop-side l =
    record {
      tables : l.maps.tables ≡ record l.initial.maps.tables { sides = take l.side-index l.sides };
      others : l.maps.others ≡ l.initial.maps.others;
    }
