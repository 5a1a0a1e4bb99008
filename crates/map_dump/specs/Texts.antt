-- The text of lines, and the outcome of a call that writes lines.
use Rattle.std.specs.Prelude.{◌≡◌, ℕ, Bool, ◌==◌, not, List, ◌∷◌, [], ◌++◌, map, flat_map, IsTrue, Option, Result, Ok, Err}
use Rattle.std.specs.Io.KnownBytes.{Appends}
use Rattle.std.specs.List.{list_all}
use Rattle.map_commands.specs.ProjectCommands.{project_spelling}
use Rattle.map_commands.specs.declared.project.command.ProjectCommand.{ProjectCommand}
use Rattle.map_dump.specs.declared.error.DumpError.{DumpError}
use Rattle.map_dump.specs.declared.error.DumpError.TheVariants.{WriterFailed, OutOfMemory}

-- a line ended by LF
abbrev pub with_lf : List ℕ → List ℕ
with_lf line = line ++ 10 ∷ []

-- the text of lines: each ended by LF
abbrev pub text_of : List (List ℕ) → List ℕ
text_of lines = flat_map with_lf lines

-- no byte is LF
abbrev pub is_one_line : List ℕ → Bool
is_one_line bytes = list_all (λ b. not (b == 10)) bytes

-- the text, cut at LF, is these lines
pub record IsCutInto (text : List ℕ) (lines : List (List ℕ)) : Type 0 where
  pub joined : text ≡ text_of lines
  pub cut : IsTrue (list_all is_one_line lines)

-- some first ones of these lines were written, each ended by LF, and nothing else
pub record WritesFront (lines : List (List ℕ)) (old new : Option (List ℕ)) : Type 0 where
  pub front : List (List ℕ)
  pub back : List (List ℕ)
  pub parted : lines ≡ front ++ back
  pub written : Appends old new (text_of front)

-- the outcome of a call that writes these lines: all were written, or, if memory ran out, some first ones; if the
-- writer failed, nothing is said of what it holds
abbrev pub WritesLines : {U : Type 0} → Result U DumpError → List (List ℕ)
    → Option (List ℕ) → Option (List ℕ) → Type 0
WritesLines (Ok u) lines old new = Appends old new (text_of lines)
WritesLines (Err OutOfMemory) lines old new = WritesFront lines old new
WritesLines (Err WriterFailed) lines old new = Unit {0}

-- the same for the lines of commands
abbrev pub Writes : {U : Type 0} → Result U DumpError → List ProjectCommand
    → Option (List ℕ) → Option (List ℕ) → Type 0
Writes result commands old new = WritesLines result (map project_spelling commands) old new
