-- From where `draw` takes a script, and what it does with the project in a file (docs/COMMANDS.md,
-- "Scripts").
use Rattle.std.specs.Prelude.{◌≡◌, ◌⊎◌, ℕ, Bool, true, false, not, List, Option, None, Some, Result, bytes_eq, codes}
use Rattle.std.specs.Io.KnownBytes.{Consumes, IsAtEnd, Keeps}
use Rattle.store_disk.specs.declared.disk.Disk.{Ghosts}
use Rattle.store_project.specs.States.{State}
use Rattle.map_script.specs.Scripts.{script_lines}
use Rattle.run_canvas.specs.Canvases.{Drafted, draft_canvas, draft_over, project_canvas}
use Rattle.run_canvas.specs.Waiting.{Drawing, first_drawing}
use Rattle.cli_refusals.specs.declared.refusal.Refusal.{Refusal}
use Rattle.cli_scripts.specs.Drawing.{DrawsWhole, IsDrawnOnto, IsHeldBack, IsTriedOn, IsTriedOver}
use Rattle.cli_scripts.specs.Including.{IsScriptJoined, IsUnjoined}
use Rattle.cli_sources.specs.Opened.{EndsUnopened}
use Rattle.cli_sources.specs.Unread.{IsUnread, IsUnreadOf, IsRefusedFor}

-- a path is that of a file, and not `-`, which is standard input
abbrev pub is_file : List ℕ → Bool
is_file path = not (bytes_eq path (codes "-"))

-- the path of the script that is asked for: `-` without one
abbrev pub script_path : Option (List ℕ) → List ℕ
script_path None = codes "-"
script_path (Some path) = path

-- the text is all that the input gave, or all that a file gave, which tells no bytes
abbrev pub IsInput : Bool → List ℕ → Option (List ℕ) → Option (List ℕ) → Type 0
IsInput true text reader-old reader-new = Keeps reader-old reader-new
IsInput false text reader-old reader-new =
    Consumes reader-old reader-new text × IsAtEnd reader-new

-- a script that a file, which tells no bytes, or the input should give isn't read to its end
abbrev pub IsUnreadInput : Bool → Option (List ℕ) → Option (List ℕ) → Refusal → Type 0
IsUnreadInput true reader-old reader-new refusal = IsUnread refusal × Keeps reader-old reader-new
IsUnreadInput false reader-old reader-new refusal = IsUnreadOf reader-old reader-new refusal

-- ---- The lines of a script

-- how it ends where the script at a path isn't read, or not joined, and what was told then
abbrev pub IsUnreadAt : List ℕ → Result ℕ Refusal → Option (List ℕ) → Option (List ℕ)
    → Option (List ℕ) → Option (List ℕ) → Type 0
IsUnreadAt path how reader-old reader-new faults-old faults-new =
    IsRefusedFor (IsUnreadInput (is_file path) reader-old reader-new) how faults-old faults-new
    ⊎ ((text : List ℕ) × IsInput (is_file path) text reader-old reader-new
    × IsUnjoined path (script_lines text) how faults-old faults-new)

-- the script at a path was read whole, and these are its lines, joined, and the file of each
abbrev pub IsReadAt : List ℕ → List (ℕ × List ℕ) → List (List ℕ) → Option (List ℕ)
    → Option (List ℕ) → Type 0
IsReadAt path lines files reader-old reader-new =
    (text : List ℕ) × IsInput (is_file path) text reader-old reader-new
    × IsScriptJoined path (script_lines text) lines files

-- the script at a path isn't read or not joined, and nothing was written; or this was done with its
-- lines
abbrev pub OverLines : List ℕ → Result ℕ Refusal → Option (List ℕ) → Option (List ℕ)
    → Option (List ℕ) → Option (List ℕ) → (List (ℕ × List ℕ) → Type 0) → Type 0
OverLines path how reader-old reader-new writer-old writer-new does =
    ((faults-old faults-new : Option (List ℕ))
    × IsUnreadAt path how reader-old reader-new faults-old faults-new × Keeps writer-old writer-new)
    ⊎ ((lines : List (ℕ × List ℕ)) × (files : List (List ℕ))
    × IsReadAt path lines files reader-old reader-new × does lines)

-- ---- What is done with them

-- Not all lines of the script can be drawn onto the project, so none was, and nothing was written; or
-- all can be drawn over its maps, and they were drawn onto it.
abbrev pub IsDrawnOrLeft : {D : Type 0} → Ghosts D → Bool → List (ℕ × List ℕ) → Result ℕ Refusal
    → State D → D → Option (List ℕ) → Option (List ℕ) → Type 0
IsDrawnOrLeft {D = D} facts verbose lines how project disk writer-old writer-new =
    (IsHeldBack (draft_over project) lines how × (disk ≡ project.disk)
    × Keeps writer-old writer-new)
    ⊎ ((tried : Drafted) × DrawsWhole draft_canvas lines (draft_over project) tried
    × (last : Drawing D) × (disk ≡ last.project.disk)
    × IsDrawnOnto (project_canvas facts) verbose lines how (first_drawing project) last
    writer-old writer-new)

-- the same of some project
abbrev pub IsDrawnOntoSome : {D : Type 0} → Ghosts D → Bool → List (ℕ × List ℕ) → Result ℕ Refusal
    → Option (List ℕ) → Option (List ℕ) → Type 0
IsDrawnOntoSome {D = D} facts verbose lines how writer-old writer-new =
    (project : State D) × (disk : D) × (project.must_reopen ≡ false)
    × IsDrawnOrLeft facts verbose lines how project disk writer-old writer-new

-- the script can't be read or joined; or no project was opened, or its lines were drawn onto one, or
-- left
abbrev pub IsDrawnInto : {D : Type 0} → Ghosts D → List ℕ → Bool → Result ℕ Refusal
    → Option (List ℕ) → Option (List ℕ) → Option (List ℕ) → Option (List ℕ) → Type 0
IsDrawnInto facts path verbose how reader-old reader-new writer-old writer-new =
    OverLines path how reader-old reader-new writer-old writer-new
    (λ lines. EndsUnopened how writer-old writer-new
    ⊎ IsDrawnOntoSome facts verbose lines how writer-old writer-new)

-- the script can't be read or joined, or its lines were tried over the empty project
abbrev pub IsScriptTried : List ℕ → Bool → Result ℕ Refusal → Option (List ℕ) → Option (List ℕ)
    → Option (List ℕ) → Option (List ℕ) → Type 0
IsScriptTried path verbose how reader-old reader-new writer-old writer-new =
    OverLines path how reader-old reader-new writer-old writer-new
    (λ lines. IsTriedOn verbose lines how writer-old writer-new)

-- the script can't be read or joined; or no project was opened, or its lines were tried over some
-- project's maps
abbrev pub IsTriedOntoSome : List ℕ → Bool → Result ℕ Refusal → Option (List ℕ) → Option (List ℕ)
    → Option (List ℕ) → Option (List ℕ) → Type 0
IsTriedOntoSome path verbose how reader-old reader-new writer-old writer-new =
    OverLines path how reader-old reader-new writer-old writer-new
    (λ lines. EndsUnopened how writer-old writer-new
    ⊎ ((maps : Drafted) × IsTriedOver maps verbose lines how writer-old writer-new))
