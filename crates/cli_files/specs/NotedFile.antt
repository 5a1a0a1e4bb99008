-- A file that knows why its last call failed.
use Rattle.cli_files.specs.declared.noted.NotedFile.{NotedFile}

-- the file itself
abbrev pub file_noted : {F : Type 0} → NotedFile F → F
file_noted noted = noted.file
