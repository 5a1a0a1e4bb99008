-- What is true of each sector of the map is true of this one.
use Rattle.std.proofs.Common.{◌≡◌, ℕ, List, sym}
use Rattle.std.specs.Prelude.{Option, Some, None, IfSome, slice_get}
use Rattle.std.specs.List.{All}
use Rattle.std.proofs.lemmas.List.{map-id}
use Rattle.map_tables.specs.Ranges.{IsSector}
use Rattle.lump_records.specs.declared.records.Sector.{Sector}
use Rattle.map_tables.proofs.ListLemmas.{given_holds}
use Rattle.map_tables.proofs.map.Map.sector.Goals as goal

in_range : (sectors : List Sector) (n : ℕ) (o : Option Sector) → o ≡ slice_get sectors n → All IsSector sectors → IfSome o IsSector
in_range sectors n None is all = tt
in_range sectors n (Some x) is all = given_holds IsSector (λ s. s) sectors n x (sym is) (rw (map-id sectors) all)

pub returns-clause-range : goal.returns-clause-range
returns-clause-range c = in_range c.self.inside.sectors.items c.args.n c.get.result c.get.ensures c.self.invariant.sectors
