-- What was read stands for its maps alone.
use Rattle.std.proofs.Common.{◌≤◌, ℕ, List}
use Rattle.map_tables.specs.Projects.{ProjectMaps}
use Rattle.store_slots.specs.Handles.{generation_of, slot_of}
use Rattle.store_project.specs.Opening.{IsOpened, StandsOnlyFor}
use Rattle.store_project.specs.Places.{cap_of}
use Rattle.store_project.specs.declared.opening.Opened.{Opened}
use Rattle.store_project.proofs.Openings.{stands_opened}
use Rattle.store_project.proofs.OneMap.{one_map}

pub stands_alone : (o : Opened) (maps : ProjectMaps) (file : List ℕ) → slot_of o.slots ≤ 1 → IsOpened o maps file
    → StandsOnlyFor (cap_of o.geometry) maps (generation_of o.slots) file
stands_alone o maps file which is =
    let stands = stands_opened o maps file which is in
    record {
      stands = stands;
      only = λ limit other k stood. one_map limit (cap_of o.geometry) other maps k (generation_of o.slots) file stood stands;
    }
