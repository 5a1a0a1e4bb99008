-- A file in which something new is made.
use Rattle.cli_files.specs.declared.gapless.GaplessFile.{GaplessFile}
use Rattle.cli_files.specs.NotedFile.{file_noted}

-- the file that is written
abbrev pub file_within : {F : Type 0} → GaplessFile F → F
file_within made = file_noted made.file
