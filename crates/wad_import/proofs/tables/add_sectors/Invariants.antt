-- The sectors so far are added, and nothing else.
use Rattle.std.proofs.Common.{◌≡◌, take}
use Rattle.wad_import.proofs.tables.add_sectors.Given as goal

abbrev pub invariant-loop-sector : goal.invariant-loop-sector
invariant-loop-sector l =
    record {
      tables : l.maps.tables ≡ record l.initial.maps.tables { sectors = take l.sector-index l.sectors };
      others : l.maps.others ≡ l.initial.maps.others;
    }
