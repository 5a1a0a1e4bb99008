-- What was done for a request over a project, a WAD or a script (docs/COMMANDS.md, "The program"), and
-- what was told on standard error: nothing, but for a refused line of a script, or notes on levels.
use Rattle.std.specs.Prelude.{ℕ, Bool, Option, Result, List, is_some, map, option_map, string_bytes}
use Rattle.std.specs.Io.KnownBytes.{Keeps}
use Rattle.cli_dump.specs.Dumping.{IsDumpedIn}
use Rattle.cli_dump.specs.LevelDumps.{IsWadDumped}
use Rattle.cli_print.specs.Checking.{IsCheckedIn}
use Rattle.cli_print.specs.Choosing.{ChosenWords}
use Rattle.cli_pictures.specs.LaidOver.{layers_of}
use Rattle.cli_print.specs.LevelLines.{IsWadChecked, IsWadLintedBy}
use Rattle.cli_pictures.specs.LevelPicture.{IsLevelPicturedOf}
use Rattle.cli_print.specs.Linting.{IsLintedBy}
use Rattle.cli_pictures.specs.Picturing.{IsPicturedOf}
use Rattle.cli_pictures.specs.declared.laid_over.Layers.{Layers}
use Rattle.cli_scripts.specs.ScriptCanvases.{maps_alone, maps_with_origins}
use Rattle.cli_program.specs.SomeSource.{OverSource}
use Rattle.cli_requests.specs.Requests.{IsBuiltFrom}
use Rattle.cli_refusals.specs.declared.refusal.Refusal.{Refusal}
use Rattle.cli_words.specs.declared.asked.Request.{Request}
use Rattle.cli_words.specs.declared.asked.Request.TheVariants.{Check, Lint, Dump, Picture, Build}

-- the findings of a map of the file at the path, or of a level, were written: of the one of the name
-- where one is asked for; of a script with the origins of their items
abbrev pub IsCheckedAt : List ℕ → Option (List ℕ) → Result ℕ Refusal → Option (List ℕ)
    → Option (List ℕ) → Option (List ℕ) → Option (List ℕ) → Option (List ℕ) → Option (List ℕ)
    → Type 0
IsCheckedAt path name how reader-old reader-new writer-old writer-new faults-old faults-new =
    OverSource maps_with_origins path how reader-old reader-new writer-old writer-new
    faults-old faults-new
    (λ origin maps. IsCheckedIn origin name maps how writer-old writer-new)
    (λ wad. IsWadChecked wad name how writer-old writer-new × Keeps faults-old faults-new)

-- what there is to say of the maps of the file at the path, or of its levels, was told; of a script
-- with the origins of the items
abbrev pub IsLintedAt : List ℕ → Bool → ChosenWords → Option (List ℕ) → Result ℕ Refusal
    → Option (List ℕ) → Option (List ℕ) → Option (List ℕ) → Option (List ℕ) → Option (List ℕ)
    → Option (List ℕ) → Type 0
IsLintedAt path asked words name how reader-old reader-new writer-old writer-new
    faults-old faults-new =
    OverSource maps_with_origins path how reader-old reader-new writer-old writer-new
    faults-old faults-new
    (λ origin maps. IsLintedBy origin asked words name maps how writer-old writer-new)
    (λ wad. IsWadLintedBy asked words wad name how writer-old writer-new
    × Keeps faults-old faults-new)

-- a map of the file at the path, or a level, was drawn
abbrev pub IsPicturedAt : List ℕ → Layers → Option (List ℕ) → Bool → Result ℕ Refusal
    → Option (List ℕ) → Option (List ℕ) → Option (List ℕ) → Option (List ℕ) → Option (List ℕ)
    → Option (List ℕ) → Type 0
IsPicturedAt path layers name into how reader-old reader-new writer-old writer-new
    faults-old faults-new =
    OverSource maps_alone path how reader-old reader-new writer-old writer-new
    faults-old faults-new
    (λ origin maps. IsPicturedOf layers name into maps how writer-old writer-new)
    (λ wad. IsLevelPicturedOf layers name into wad how writer-old writer-new
    × Keeps faults-old faults-new)

-- the maps of the file at the path were dumped; or the levels of a WAD, and their notes told
abbrev pub IsDumpedAt : List ℕ → List (List ℕ) → Bool → Result ℕ Refusal → Option (List ℕ)
    → Option (List ℕ) → Option (List ℕ) → Option (List ℕ) → Option (List ℕ) → Option (List ℕ)
    → Type 0
IsDumpedAt path names exact how reader-old reader-new writer-old writer-new
    faults-old faults-new =
    OverSource maps_alone path how reader-old reader-new writer-old writer-new
    faults-old faults-new
    (λ origin maps. IsDumpedIn names maps how writer-old writer-new)
    (λ wad. IsWadDumped wad names exact how writer-old writer-new faults-old faults-new)

-- the maps of the file at the path, which is no WAD, were built, and the counts told
abbrev pub IsBuiltAt : List ℕ → Result ℕ Refusal → Option (List ℕ) → Option (List ℕ)
    → Option (List ℕ) → Option (List ℕ) → Option (List ℕ) → Option (List ℕ) → Type 0
IsBuiltAt path how reader-old reader-new writer-old writer-new faults-old faults-new =
    OverSource maps_alone path how reader-old reader-new writer-old writer-new
    faults-old faults-new
    (λ origin maps. IsBuiltFrom maps how writer-old writer-new) (λ wad. ⊥)

-- one of these was done, as the request asks for
abbrev pub IsDoneWith : Request → Result ℕ Refusal → Option (List ℕ) → Option (List ℕ)
    → Option (List ℕ) → Option (List ℕ) → Option (List ℕ) → Option (List ℕ) → Type 0
IsDoneWith (Check file map) how reader-old reader-new writer-old writer-new
    faults-old faults-new =
    IsCheckedAt (string_bytes file) (option_map string_bytes map) how reader-old reader-new
    writer-old writer-new faults-old faults-new
IsDoneWith (Lint file map-name iwad only except) how reader-old reader-new writer-old writer-new
    faults-old faults-new =
    IsLintedAt (string_bytes file) (is_some iwad)
    (record {
      only = map string_bytes only.items;
      except = map string_bytes except.items;
    })
    (option_map string_bytes map-name) how reader-old reader-new writer-old writer-new
    faults-old faults-new
IsDoneWith (Dump file names exact) how reader-old reader-new writer-old writer-new
    faults-old faults-new =
    IsDumpedAt (string_bytes file) (map string_bytes names.items) exact how reader-old reader-new
    writer-old writer-new faults-old faults-new
IsDoneWith (Picture file map out numbers nodes lint heights grid crop) how reader-old reader-new
    writer-old writer-new faults-old faults-new =
    IsPicturedAt (string_bytes file) (layers_of numbers heights grid crop nodes lint)
    (option_map string_bytes map) (is_some out) how reader-old reader-new writer-old writer-new
    faults-old faults-new
IsDoneWith (Build file out) how reader-old reader-new writer-old writer-new
    faults-old faults-new =
    IsBuiltAt (string_bytes file) how reader-old reader-new writer-old writer-new
    faults-old faults-new
IsDoneWith request how reader-old reader-new writer-old writer-new faults-old faults-new = ⊥

-- the same, whatever was told
abbrev pub IsDoneWithSome : Request → Result ℕ Refusal → Option (List ℕ) → Option (List ℕ)
    → Option (List ℕ) → Option (List ℕ) → Type 0
IsDoneWithSome request how reader-old reader-new writer-old writer-new =
    (faults-old faults-new : Option (List ℕ))
    × IsDoneWith request how reader-old reader-new writer-old writer-new faults-old faults-new

-- the same, whatever the input gave
abbrev pub IsDoneTelling : Request → Result ℕ Refusal → Option (List ℕ) → Option (List ℕ)
    → Option (List ℕ) → Option (List ℕ) → Type 0
IsDoneTelling request how writer-old writer-new faults-old faults-new =
    (reader-old reader-new : Option (List ℕ))
    × IsDoneWith request how reader-old reader-new writer-old writer-new faults-old faults-new
