-- A file that is only read.
use Rattle.std.specs.Prelude.{◌++◌, ℕ, List, Option, drop, option_map, replicate, take}
use Rattle.cli_files.specs.declared.read_file.ReadFile.{ReadFile}

-- the file itself
abbrev pub file_read : {F : Type 0} → ReadFile F → F
file_read read = read.file

-- the bytes that its reads show in place of the file's, if it is a copy
abbrev pub copy_read : {F : Type 0} → ReadFile F → Option (List ℕ)
copy_read read = option_map (λ bytes. bytes.items) read.copy

-- as many of the bytes from an offset on, and zeros behind their end
abbrev pub filled_from : List ℕ → ℕ → ℕ → List ℕ
filled_from bytes offset count = take count (drop offset bytes ++ replicate count 0)
