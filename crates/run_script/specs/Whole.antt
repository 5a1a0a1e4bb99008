-- A shape that is drawn onto a project: its commands go to the disk together (docs/COMMANDS.md,
-- "Shapes").
use Rattle.std.specs.Prelude.{◌≡◌, ◌⊎◌, ◌≤◌, ℕ, List, ◌∷◌, ◌++◌, None, Some, length}
use Rattle.store_disk.specs.declared.disk.Disk.{Ghosts}
use Rattle.store_journal.specs.Records.{records_bytes}
use Rattle.store_project.specs.Groups.{Staged, staged_lines}
use Rattle.map_commands.specs.declared.command.Command.{Command}
use Rattle.run_canvas.specs.Rooms.{MakesRoom}
use Rattle.run_canvas.specs.Waiting.{AreWaiting, Drawing, IsLostWith, drawn_maps}
use Rattle.run_script.specs.Shaped.{IsPlanned, RefusesWhole, command_lines}

-- commands with these lines wait behind what waited, and nothing was put meanwhile
pub record WaitTogether {D : Type 0} (old : Drawing D) (lines : List (List ℕ)) (new : Drawing D) :
    Type 0 where
  pub staged : List Staged
  pub are : staged_lines staged ≡ lines
  pub wait : (before : List Staged) → AreWaiting old before → AreWaiting new (before ++ staged)
  pub project : new.project ≡ old.project

-- The commands that a shape became wait together in one group; or they are longer than an empty
-- journal holds, whose last gate takes a byte.
abbrev pub IsDrawnWhole : {D : Type 0} → Ghosts D → List ℕ → Drawing D → ℕ → Drawing D → Type 0
IsDrawnWhole {D = D} facts line old answer new =
    (commands : List Command)
    × IsPlanned (drawn_maps old) old.project.cap line commands answer
    × (mid : Drawing D) × MakesRoom facts old (command_lines commands) None mid
    × (WaitTogether mid (command_lines commands) new
    ⊎ (mid.project.journal ≤ length (records_bytes (command_lines commands))))

-- One of these commands was refused with this code. Those before it wait together; or, with 30, the
-- first was put with others behind it by one call of `put`, which failed.
abbrev pub StopsTogether : {D : Type 0} → Ghosts D → Drawing D → List (List ℕ) → ℕ → Drawing D
    → Type 0
StopsTogether facts old lines code new =
    ((front : List (List ℕ)) × (line : List ℕ) × (back : List (List ℕ))
    × (lines ≡ front ++ line ∷ back) × WaitTogether old front new)
    ⊎ ((code ≡ 30) × (line : List ℕ) × (back : List (List ℕ)) × (lines ≡ line ∷ back)
    × IsLostWith facts old line new)

-- A shape that is refused leaves no part of it on the disk: it was refused as a whole, or room for its
-- commands was; or one of them was, and they stayed together; or they are longer than an empty journal
-- holds.
abbrev pub IsRefusedWhole : {D : Type 0} → Ghosts D → List ℕ → Drawing D → ℕ → Drawing D → Type 0
IsRefusedWhole {D = D} facts line old code new =
    (RefusesWhole (drawn_maps old) old.project.cap line code × (new ≡ old))
    ⊎ ((commands : List Command) × (answer : ℕ)
    × IsPlanned (drawn_maps old) old.project.cap line commands answer
    × (MakesRoom facts old (command_lines commands) (Some code) new
    ⊎ ((mid : Drawing D) × MakesRoom facts old (command_lines commands) None mid
    × (StopsTogether facts mid (command_lines commands) code new
    ⊎ (mid.project.journal ≤ length (records_bytes (command_lines commands)))))))
