-- What is told on standard error that is no refusal (docs/COMMANDS.md, "The program").
use Rattle.std.specs.Prelude.{◌≡◌, ℕ, Option, Result, Ok, List, map, string_bytes}
use Rattle.cli_rebuild.specs.Rebuilding.{IsRebuiltAt}
use Rattle.cli_program.specs.SourceDeeds.{IsDoneTelling}
use Rattle.cli_refusals.specs.declared.refusal.Refusal.{Refusal}
use Rattle.cli_words.specs.declared.asked.Request.{Request}
use Rattle.cli_words.specs.declared.asked.Request.TheVariants.{Check, Lint, Dump, Picture, Build, Rebuild}

-- a request over a file that may be a script, or what builds levels anew, told this on standard error
abbrev pub TellsNotes : Request → Result ℕ Refusal → Option (List ℕ) → Option (List ℕ)
    → Option (List ℕ) → Option (List ℕ) → Type 0
TellsNotes (Check file map) how writer-old writer-new errors-old errors-new =
    IsDoneTelling (Check file map) how writer-old writer-new errors-old errors-new
TellsNotes (Lint file map iwad only except) how writer-old writer-new errors-old errors-new =
    IsDoneTelling (Lint file map iwad only except) how writer-old writer-new errors-old errors-new
TellsNotes (Dump file names exact) how writer-old writer-new errors-old errors-new =
    IsDoneTelling (Dump file names exact) how writer-old writer-new errors-old errors-new
TellsNotes (Picture file map out numbers nodes lint heights grid crop) how writer-old writer-new
    errors-old errors-new =
    IsDoneTelling (Picture file map out numbers nodes lint heights grid crop) how
    writer-old writer-new errors-old errors-new
TellsNotes (Build file out) how writer-old writer-new errors-old errors-new =
    IsDoneTelling (Build file out) how writer-old writer-new errors-old errors-new
TellsNotes (Rebuild wad out maps) how writer-old writer-new errors-old errors-new =
    IsRebuiltAt (map string_bytes maps.items) how writer-old writer-new errors-old errors-new
TellsNotes request how writer-old writer-new errors-old errors-new = Unit {0}

-- the same of a request that ended with this status, where it isn't refused
abbrev pub HasToldNotes : Request → ℕ → Option (List ℕ) → Option (List ℕ) → Option (List ℕ)
    → Option (List ℕ) → Type 0
HasToldNotes request status writer-old writer-new errors-old errors-new =
    ¬ (status ≡ 1)
    → TellsNotes request (Ok status) writer-old writer-new errors-old errors-new
