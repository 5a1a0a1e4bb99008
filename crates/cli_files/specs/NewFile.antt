-- A new file for a path.
use Rattle.std.specs.Prelude.{ℕ, List, Option}
use Rattle.std.specs.Io.KnownBytes.{Appends}
use Rattle.cli_files.specs.declared.new_file.NewFile.{NewFile}

-- the file that is written
abbrev pub file_of : {F : Type 0} → NewFile F → F
file_of new = new.file

-- the file was made of these bytes: it has them behind what a new file had, where files tell that
abbrev pub IsMadeOf : {F : Type 0} → (F → Option (List ℕ)) → F → List ℕ → Type 0
IsMadeOf {F = F} contents file bytes =
    (first : F) × Appends (contents first) (contents file) bytes
