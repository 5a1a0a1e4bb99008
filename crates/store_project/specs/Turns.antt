-- What a change of the live slot makes of a project's file.
use Rattle.std.specs.Prelude.{◌≡◌, ◌≤◌, ◌⊎◌, ◌+◌, ℕ, List, length}
use Rattle.store_disk.specs.Files.{HasAt}
use Rattle.map_tables.specs.Projects.{ProjectMaps, WellFormedProject}
use Rattle.map_tables.specs.ProjectBody.{project_body}
use Rattle.store_project.specs.Stands.{StandsAt}
use Rattle.store_project.specs.declared.places.Parts.{Parts}

-- the other slot with its journal as the live one
abbrev pub turned : Parts → Parts
turned parts = record {
  live = parts.other;
  other = parts.live;
  journal = parts.other_journal;
  other_journal = parts.journal;
}

-- what stands in the first 16 bytes stays
abbrev pub KeepsHeader : List ℕ → List ℕ → Type 0
KeepsHeader old new = (bytes : List ℕ) → length bytes ≤ 16 → HasAt 0 bytes old → HasAt 0 bytes new

-- A file that stands for the map of these bytes stands for it still, at the parts from before or
-- turned.
pub record MayTurn (cap generation : ℕ) (parts : Parts) (bytes : List ℕ) (old new : List ℕ) :
    Type 0 where
  pub header : KeepsHeader old new
  pub stands : (map : ProjectMaps) → WellFormedProject map → project_body map ≡ bytes
      → StandsAt cap parts map generation old
      → StandsAt cap parts map generation new ⊎ StandsAt cap (turned parts) map (generation + 1) new

-- A file that stands for the map of these bytes stands for it at the turned parts.
pub record Turns (cap generation : ℕ) (parts : Parts) (bytes : List ℕ) (old new : List ℕ) :
    Type 0 where
  pub header : KeepsHeader old new
  pub stands : (map : ProjectMaps) → WellFormedProject map → project_body map ≡ bytes
      → StandsAt cap parts map generation old
      → StandsAt cap (turned parts) map (generation + 1) new
