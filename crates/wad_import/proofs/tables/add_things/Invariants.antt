-- The things so far are added, and nothing else.
use Rattle.std.proofs.Common.{◌≡◌, take}
use Rattle.wad_import.proofs.tables.add_things.Given as goal

abbrev pub invariant-loop-thing : goal.invariant-loop-thing
invariant-loop-thing l =
    record {
      tables : l.maps.tables ≡ record l.initial.maps.tables { things = take l.thing-index l.things };
      others : l.maps.others ≡ l.initial.maps.others;
    }
