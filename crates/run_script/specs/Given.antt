-- What a line of a script gives: first items, a name to numbers or words, a note of its answer.
use Rattle.std.specs.Prelude.{◌≡◌, ◌⊎◌, ℕ, Bool, true, false, List, [], ◌∷◌, ◌++◌, Option, Some, None, MatchResult, codes, decimal}
use Rattle.map_tables.specs.Projects.{ProjectMaps, current_map}
use Rattle.map_commands.specs.ProjectCommands.{InProjectRange, project_spelling}
use Rattle.map_commands.specs.declared.project.command.ProjectCommand.{ProjectCommand}
use Rattle.map_script.specs.Errors.{code_of}
use Rattle.map_script.specs.Firsts.{firsts_of}
use Rattle.map_script.specs.Lines.{names_after}
use Rattle.map_script.specs.Meant.{numbered}
use Rattle.map_script.specs.Referents.{kind_referred}
use Rattle.map_script.specs.Scopes.{Scope, with_answer, with_given}
use Rattle.map_script.specs.declared.firsts.Firsts.{Firsts}
use Rattle.map_script.specs.declared.firsts.Numbers.{Numbers}
use Rattle.map_script.specs.declared.referent.Referent.{Referent}
use Rattle.run_canvas.specs.declared.canvas.Canvas.{Ghosts}

-- if a line is a command, these are the first items that it adds to the maps
abbrev pub AddsFirst : List ℕ → ProjectMaps → Firsts → Type 0
AddsFirst text p firsts =
    (c : ProjectCommand) → InProjectRange c → text ≡ project_spelling c
    → firsts ≡ firsts_of c (current_map p)

-- the names, with the one that a line gives to its numbers, if it gives one
abbrev pub with_line_name : Option (List ℕ) → Numbers → Referent → Scope → Scope
with_line_name None numbers referent names = names
with_line_name (Some name) numbers referent names =
    with_given names name (numbered numbers referent)

-- the same behind the line, which answered a number of this
abbrev pub with_given_name : Option (List ℕ) → Numbers → Referent → Scope → Scope
with_given_name name numbers referent names =
    with_line_name name numbers referent
    (with_answer names (record { number = numbers.answer; kind = kind_referred referent }))

-- `NUMBER: ok N`, if the answers to commands are written
abbrev pub noted_text : Bool → ℕ → ℕ → List ℕ
noted_text true number n = decimal number ++ codes ": ok " ++ decimal n ++ 10 ∷ []
noted_text false number n = []

-- the names after NAME WORD .., or refused with this code: for what is wrong with it, or for lack of
-- memory
abbrev pub GivesWords : {S : Type 0} → Ghosts S → List (List ℕ) → S → Scope → Option ℕ → Scope
    → Type 0
GivesWords facts words canvas old refusal new =
    MatchResult (names_after old (current_map (facts.maps_in canvas)) words)
    (λ names. (refusal ≡ None) × (new ≡ names))
    (λ fault. (refusal ≡ Some (code_of fault)) × (new ≡ old))
    ⊎ ((refusal ≡ Some 31) × (new ≡ old))
