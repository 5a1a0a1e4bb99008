-- The whole records of a journal, and which of them are kept.
use Rattle.std.specs.Prelude.{◌≡◌, ◌⊎◌, ◌+◌, ℕ, List, [], ◌∷◌}
use Rattle.store_disk.specs.declared.area.Area.{Area}
use Rattle.store_journal.specs.Damage.{BreaksOffAt, EndsBefore}
use Rattle.store_journal.specs.Records.{IsJournal}
use Rattle.map_tables.specs.Projects.{ProjectMaps}
use Rattle.map_commands.specs.ProjectLines.{LeadsTo}

-- these are the whole records up to the offset where the area is damaged: a bad record follows them, or there are
-- none because the file ends before the first gate
abbrev pub BreakOffAt : Area → List (List ℕ) → ℕ → List ℕ → Type 0
BreakOffAt area lines place file =
    ((breaks : BreaksOffAt area place file) × (breaks.payloads ≡ lines))
    ⊎ ((lines ≡ []) × (place ≡ area.base) × EndsBefore area (area.base + 1) file)

-- these are the whole records at the beginning of the area, up to a closed gate or the damage
abbrev pub AreRecordsOf : Area → List (List ℕ) → List ℕ → Type 0
AreRecordsOf area lines file = IsJournal area lines file
    ⊎ ((place : ℕ) × BreakOffAt area lines place file)

-- the maps don't accept the first of the lines, if there is one
abbrev pub RefusesFirst : ℕ → ProjectMaps → List (List ℕ) → Type 0
RefusesFirst cap maps [] = Unit {0}
RefusesFirst cap maps (line ∷ lines) = (new : ProjectMaps) → ¬ LeadsTo cap maps line new
