-- What `rebuild` tells and answers (docs/COMMANDS.md, "The program").
use Rattle.std.specs.Prelude.{◌≡◌, ◌⊎◌, ℕ, ◌+◌, ◌/◌, List, [], ◌∷◌, ◌++◌, Option, Result, Ok, Err, codes, count_by, decimal, flat_map, length, map, ◌==◌, Bool, true, false}
use Rattle.std.specs.Io.KnownBytes.{Appends, Keeps}
use Rattle.run_edit.specs.declared.error.EditorError.TheVariants.{InputTooLong, WriterFailed}
use Rattle.run_edit.specs.declared.error.InspectError.TheVariants as inspecting
use Rattle.wad_levels.specs.declared.error.ReadError.TheVariants as reading
use Rattle.lump_records.specs.Names.{name_text}
use Rattle.lump_records.specs.declared.records.Name8.{Name8}
use Rattle.cli_sources.specs.Unread.{EndsUnread}
use Rattle.cli_files.specs.NewFile.{IsMadeOf}
use Rattle.cli_print.specs.ShownNames.{shown}
use Rattle.wad_rebuild.specs.Rebuilt.{IsRebuiltAs, RefusesRebuild, kept_in}
use Rattle.wad_rebuild.specs.Texts.{cause_text, kept_text}
use Rattle.wad_rebuild.specs.declared.cause.Cause.{Cause}
use Rattle.wad_rebuild.specs.declared.error.RebuildError.{RebuildError}
use Rattle.wad_rebuild.specs.declared.error.RebuildError.TheVariants as rebuilding
use Rattle.wad_rebuild.specs.declared.kept.KeptFault.{KeptFault}
use Rattle.wad_rebuild.specs.declared.levels.Fate.{Fate}
use Rattle.wad_rebuild.specs.declared.levels.Fate.TheVariants.{NotAsked, Made, Left}
use Rattle.wad_rebuild.specs.declared.levels.RebuiltLevel.{RebuiltLevel}
use Rattle.wad_rebuild.specs.declared.made.MadeLumps.{MadeLumps}
use Rattle.cli_refusals.specs.Statuses.{status_told}
use Rattle.cli_refusals.specs.declared.refusal.Refusal.{Refusal}
use Rattle.cli_refusals.specs.declared.refusal.Refusal.TheVariants as of

-- behind a level's name: that it was built anew, and how many items it has
abbrev pub items_text : ℕ → ℕ → ℕ → ℕ → List ℕ
items_text vertices segs subs nodes =
    codes " rebuilt vertices " ++ decimal vertices ++ codes " segs " ++ decimal segs
    ++ codes " subsectors " ++ decimal subs ++ codes " nodes " ++ decimal nodes ++ 10 ∷ []

-- the same of the lumps that were made: a vertex has 4 bytes, a seg 12, a subsector 4, a node 28
abbrev pub made_text : MadeLumps → List ℕ
made_text m =
    items_text (length m.vertices.items / 4) (length m.segs.items / 12)
    (length m.subs.items / 4) (length m.nodes.items / 28)

-- behind a level's name: that it was left, and why
abbrev pub left_as_text : Cause → List ℕ
left_as_text c = codes " left: " ++ cause_text c ++ 10 ∷ []

-- what is told of a level: nothing where it isn't asked for; else a line
abbrev pub fate_text : Name8 → Fate → List ℕ
fate_text name NotAsked = []
fate_text name (Made m) = map shown (name_text name) ++ made_text m
fate_text name (Left c) = map shown (name_text name) ++ left_as_text c

-- what is told of levels, of one behind another
abbrev pub fate_texts : List RebuiltLevel → List ℕ
fate_texts levels = flat_map (λ l. fate_text l.name l.fate) levels

-- the faults that stay in a level, as they stand beside what was made of it
abbrev pub kept_of : Fate → List KeptFault
kept_of NotAsked = []
kept_of (Made m) = m.kept.items
kept_of (Left c) = []

-- the line on standard error for a fault that stays in the level of a name
abbrev pub kept_line : Name8 → KeptFault → List ℕ
kept_line name fault = map shown (name_text name) ++ codes ": " ++ kept_text fault ++ 10 ∷ []

-- these lines of levels, of one behind another
abbrev pub kept_notes : List RebuiltLevel → List ℕ
kept_notes levels = flat_map (λ l. flat_map (kept_line l.name) (kept_of l.fate)) levels

-- the same of levels of a WAD: a line for each fault that stays in one that is built anew
abbrev pub kept_fault_lines : List ℕ → List RebuiltLevel → List ℕ
kept_fault_lines wad levels =
    flat_map (λ l. flat_map (kept_line l.name) (kept_in wad l.entries l.fate)) levels

-- the level was built anew; it was left
abbrev pub was_made : Fate → Bool
was_made NotAsked = false
was_made (Made m) = true
was_made (Left c) = false

abbrev pub was_left : Fate → Bool
was_left NotAsked = false
was_left (Made m) = false
was_left (Left c) = true

-- `rebuilt K of N levels, B bytes`
abbrev pub rebuilt_text : ℕ → ℕ → ℕ → List ℕ
rebuilt_text made asked bytes =
    codes "rebuilt " ++ decimal made ++ codes " of " ++ decimal asked ++ codes " levels, "
    ++ decimal bytes ++ codes " bytes" ++ 10 ∷ []

-- how many levels were built anew, and how many were left
abbrev pub made_count : List RebuiltLevel → ℕ
made_count levels = count_by (λ l. was_made l.fate) levels

abbrev pub left_count : List RebuiltLevel → ℕ
left_count levels = count_by (λ l. was_left l.fate) levels

-- what became of levels was told, how many were built anew, and how many bytes the WAD has
abbrev pub IsToldOf : List RebuiltLevel → ℕ → Option (List ℕ) → Option (List ℕ) → Type 0
IsToldOf levels size writer-old writer-new =
    Appends writer-old writer-new (fate_texts levels
    ++ rebuilt_text (made_count levels) (made_count levels + left_count levels) size)

-- the status that tells whether no level was left
abbrev pub status_rebuilt : List RebuiltLevel → ℕ
status_rebuilt levels = status_told (left_count levels == 0)

-- the refusal of a WAD whose levels aren't built anew
abbrev pub refusal_for : RebuildError → Refusal
refusal_for rebuilding.TooLong = of.Lines InputTooLong
refusal_for rebuilding.NotAWad = of.Level (inspecting.Level reading.NotAWad)
refusal_for rebuilding.DirectoryOutside = of.Level (inspecting.Level reading.DirectoryOutside)
refusal_for rebuilding.NoSuchLevel = of.Level (inspecting.Level reading.NoSuchLevel)
refusal_for rebuilding.LumpOutside = of.Level (inspecting.Level reading.LumpOutside)
refusal_for rebuilding.OutOfMemory = of.Level (inspecting.Level reading.OutOfMemory)

-- why no file was made of this WAD: it is refused, or else the file can't be made
abbrev pub MakesNone : List ℕ → List (List ℕ) → Refusal → Type 0
MakesNone wad names refusal =
    ((e : RebuildError) × (refusal ≡ refusal_for e) × RefusesRebuild wad names e)
    ⊎ (refusal ≡ of.Lines WriterFailed)

-- the file was made of the bytes of the WAD with its levels built anew, and has so many
abbrev pub IsMadeFrom : {F : Type 0} → (F → Option (List ℕ)) → List ℕ → List (List ℕ)
    → List RebuiltLevel → ℕ → F → Type 0
IsMadeFrom contents wad names levels size file =
    (bytes : List ℕ) × IsRebuiltAs wad names levels bytes × (size ≡ length bytes)
    × IsMadeOf contents file bytes

-- what was made of this WAD was told and the faults that stay could not be, or they were not told,
-- and a writer failed
abbrev pub IsCutShort : List ℕ → List (List ℕ) → Option (List ℕ) → Option (List ℕ)
    → Option (List ℕ) → Option (List ℕ) → Type 0
IsCutShort wad names writer-old writer-new errors-old errors-new =
    ((levels : List RebuiltLevel) × (bytes : List ℕ) × IsRebuiltAs wad names levels bytes
    × IsToldOf levels (length bytes) writer-old writer-new)
    ⊎ Keeps errors-old errors-new

-- what became of this WAD was told, and beside it the faults that stay, and the status tells whether
-- a level was left; or no file was made of it, and nothing told; or a writer failed
abbrev pub IsRebuiltOf : List ℕ → List (List ℕ) → Result ℕ Refusal → Option (List ℕ)
    → Option (List ℕ) → Option (List ℕ) → Option (List ℕ) → Type 0
IsRebuiltOf wad names (Ok status) writer-old writer-new errors-old errors-new =
    (levels : List RebuiltLevel) × (bytes : List ℕ) × IsRebuiltAs wad names levels bytes
    × (status ≡ status_rebuilt levels) × IsToldOf levels (length bytes) writer-old writer-new
    × Appends errors-old errors-new (kept_fault_lines wad levels)
IsRebuiltOf wad names (Err refusal) writer-old writer-new errors-old errors-new =
    (MakesNone wad names refusal × Keeps writer-old writer-new × Keeps errors-old errors-new)
    ⊎ ((refusal ≡ of.Lines WriterFailed)
    × IsCutShort wad names writer-old writer-new errors-old errors-new)

-- the WAD was not read to its end, and nothing was told; or this was done with what was read
abbrev pub IsRebuiltAt : List (List ℕ) → Result ℕ Refusal → Option (List ℕ) → Option (List ℕ)
    → Option (List ℕ) → Option (List ℕ) → Type 0
IsRebuiltAt names how writer-old writer-new errors-old errors-new =
    (EndsUnread how writer-old writer-new × Keeps errors-old errors-new)
    ⊎ ((wad : List ℕ)
    × IsRebuiltOf wad names how writer-old writer-new errors-old errors-new)

-- the same, whatever was told on standard error
abbrev pub IsRebuiltInto : List (List ℕ) → Result ℕ Refusal → Option (List ℕ) → Option (List ℕ)
    → Type 0
IsRebuiltInto names how writer-old writer-new =
    (errors-old errors-new : Option (List ℕ))
    × IsRebuiltAt names how writer-old writer-new errors-old errors-new
