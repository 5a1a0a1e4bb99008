-- What the request `dump --salvage` writes (docs/COMMANDS.md, "The program").
use Rattle.std.specs.Prelude.{◌≡◌, ◌⊎◌, ℕ, Option, None, Some, Result, Err, List, ◌++◌, codes, decimal}
use Rattle.std.specs.Io.KnownBytes.{Keeps}
use Rattle.store_disk.specs.Stops.{Each, Rose}
use Rattle.store_disk.specs.declared.disk.Disk.{Ghosts}
use Rattle.map_tables.specs.Projects.{MapsView, project_of}
use Rattle.store_project.specs.declared.error.ProjectError.{ProjectError}
use Rattle.store_project.specs.declared.error.ProjectError.TheVariants as opening
use Rattle.store_salvage.specs.Refusals.{RefusesSalvage}
use Rattle.store_salvage.specs.Salvages.{IsSalvaged}
use Rattle.store_salvage.specs.declared.error.SalvageError.{SalvageError}
use Rattle.store_salvage.specs.declared.error.SalvageError.TheVariants.{Damaged, Blank, NotAProject, BadGeometry, OutOfMemory}
use Rattle.cli_dump.specs.Dumping.{IsDumpedOf}
use Rattle.cli_refusals.specs.declared.refusal.Refusal.{Refusal}
use Rattle.cli_refusals.specs.declared.refusal.Refusal.TheVariants as of

-- the refusal of a salvage, as a project has it
abbrev pub refusal_for_salvage : SalvageError → ProjectError
refusal_for_salvage (Damaged place) = opening.Damaged place
refusal_for_salvage Blank = opening.Blank
refusal_for_salvage NotAProject = opening.NotAProject
refusal_for_salvage BadGeometry = opening.BadGeometry
refusal_for_salvage OutOfMemory = opening.OutOfMemory

-- where a file is damaged, how many records are kept and how many are not
abbrev pub damage_text : ℕ → ℕ → ℕ → List ℕ
damage_text place records behind =
    codes "leveled: damaged at " ++ (decimal place ++ (codes ": " ++ (decimal records
    ++ (codes " records are kept, " ++ (decimal behind ++ codes " behind them are not\n")))))

-- that nothing is damaged, and how many records there are
abbrev pub whole_text : ℕ → List ℕ
whole_text records = codes "leveled: no damage: " ++ (decimal records ++ codes " records\n")

-- the line on standard error
abbrev pub damage_line : Option ℕ → ℕ → ℕ → List ℕ
damage_line (Some place) records behind = damage_text place records behind
damage_line None records behind = whole_text records

-- nothing could be read of the file, and nothing was written; or the lines that draw the maps again
-- were, which are salvaged of it
abbrev pub IsSalvagedFrom : List ℕ → Result ℕ Refusal → Option (List ℕ) → Option (List ℕ) → Type 0
IsSalvagedFrom file (Err (of.Project e)) writer-old writer-new =
    (error : SalvageError) × (e ≡ refusal_for_salvage error) × RefusesSalvage file error
    × Keeps writer-old writer-new
IsSalvagedFrom file how writer-old writer-new =
    (maps : MapsView) × (records behind : ℕ) × IsSalvaged (project_of maps) records behind file
    × IsDumpedOf maps how writer-old writer-new

-- the file was not read, by a fault or for lack of memory, and nothing was written
abbrev pub IsUnreadFile : Result ℕ Refusal → Option (List ℕ) → Option (List ℕ) → Type 0
IsUnreadFile how writer-old writer-new =
    ((how ≡ Err (of.Project opening.Device)) ⊎ (how ≡ Err (of.Project opening.OutOfMemory)))
    × Keeps writer-old writer-new

-- the same of the bytes that a disk reads, or they were not read; a fault is told only where the
-- disk's count of failures rose
abbrev pub IsSalvagedOver : {D : Type 0} → Ghosts D → D → D → Result ℕ Refusal → Option (List ℕ)
    → Option (List ℕ) → Type 0
IsSalvagedOver facts before after how writer-old writer-new =
    (IsUnreadFile how writer-old writer-new × (how ≡ Err (of.Project opening.Device)
    → Rose (facts.failures before) (facts.failures after)))
    ⊎ ((file : List ℕ) × Each (facts.reads before) (λ other. file ≡ other)
    × IsSalvagedFrom file how writer-old writer-new)

-- the same of some file's bytes, since a file tells none
abbrev pub IsSalvagedInto : Result ℕ Refusal → Option (List ℕ) → Option (List ℕ) → Type 0
IsSalvagedInto how writer-old writer-new = IsUnreadFile how writer-old writer-new
    ⊎ ((file : List ℕ) × IsSalvagedFrom file how writer-old writer-new)
