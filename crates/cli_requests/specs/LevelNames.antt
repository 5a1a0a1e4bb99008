-- What `inspect` tells of a WAD without a level's name: the names of its levels (docs/COMMANDS.md,
-- "The program").
use Rattle.std.specs.Prelude.{◌≡◌, ◌⊎◌, ℕ, ◌++◌, List, [], ◌∷◌, map, flat_map, Option, None, Result, Ok, Err}
use Rattle.std.specs.Io.KnownBytes.{Appends, Keeps}
use Rattle.lump_records.specs.Names.{name_text}
use Rattle.lump_records.specs.declared.records.Name8.{Name8}
use Rattle.wad_levels.specs.Listing.{RefusesListing, level_names, listing_refusal}
use Rattle.cli_print.specs.ShownNames.{shown}
use Rattle.run_edit.specs.declared.error.EditorError.TheVariants.{WriterFailed}
use Rattle.run_edit.specs.declared.error.InspectError.{InspectError}
use Rattle.run_edit.specs.declared.error.InspectError.TheVariants as inspecting
use Rattle.cli_refusals.specs.declared.refusal.Refusal.{Refusal}
use Rattle.cli_refusals.specs.declared.refusal.Refusal.TheVariants as of

-- the name of a level as a line
abbrev pub level_line : Name8 → List ℕ
level_line name = map shown (name_text name) ++ 10 ∷ []

-- a line for each level
abbrev pub levels_text : List ℕ → List ℕ
levels_text wad = flat_map level_line (level_names wad)

-- the names of a WAD's levels were not written: nothing was where they can't be listed, and else
-- the writer failed
abbrev pub RefusesNames : List ℕ → InspectError → Option (List ℕ) → Option (List ℕ) → Type 0
RefusesNames wad (inspecting.Level e) writer-old writer-new =
    RefusesListing wad e × Keeps writer-old writer-new
RefusesNames wad inspecting.WriterFailed writer-old writer-new = listing_refusal wad ≡ None

-- the names of the levels in some bytes were written, since a file tells none; or it was refused
abbrev pub IsListed : Result ℕ Refusal → Option (List ℕ) → Option (List ℕ) → Type 0
IsListed (Ok status) writer-old writer-new =
    (wad : List ℕ) × (status ≡ 0) × (listing_refusal wad ≡ None)
    × Appends writer-old writer-new (levels_text wad)
IsListed (Err (of.Level e)) writer-old writer-new =
    (wad : List ℕ) × RefusesNames wad e writer-old writer-new
IsListed (Err (of.Lines e)) writer-old writer-new = (e ≡ WriterFailed) ⊎ Keeps writer-old writer-new
IsListed _ writer-old writer-new = ⊥
