-- The vertices so far are added, each place once, and nothing else; each has its number, or is told.
use Rattle.std.proofs.Common.{◌≡◌, map}
use Rattle.std.specs.List.{range_with_len}
use Rattle.wad_import.specs.Once.{kept_number, place_change}
use Rattle.wad_import.proofs.OnceLemmas.{made, once_to}
use Rattle.wad_import.proofs.vertices.add_vertices.Given as goal

abbrev pub invariant-loop-n : goal.invariant-loop-n
invariant-loop-n l =
    record {
      tables : l.maps.tables ≡ record l.initial.maps.tables { vertices = once_to l.vertices l.n };
      others : l.maps.others ≡ l.initial.maps.others;
      numbers : l.numbers.items ≡ map (kept_number l.vertices) (range_with_len 0 l.n);
      changes : l.changes.items ≡ made (place_change l.vertices) l.n;
    }
