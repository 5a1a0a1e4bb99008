-- In which file each line of a script stands (docs/COMMANDS.md, "Files that a script includes").
use Rattle.std.specs.Prelude.{ℕ, List, [], ◌∷◌, ◌++◌, replicate, string_bytes}
use Rattle.map_script.specs.declared.files.FilePart.{FilePart}

-- the name of the file of each line
abbrev pub files_of : List FilePart → List (List ℕ)
files_of [] = []
files_of (p ∷ ps) = replicate p.count (string_bytes p.name) ++ files_of ps
