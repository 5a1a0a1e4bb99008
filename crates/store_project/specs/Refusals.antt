-- The numbers and the texts of a project's refusals.
use Rattle.std.specs.Prelude.{◌≡◌, ℕ, List, ◌++◌, codes, decimal}
use Rattle.map_commands.specs.declared.error.CommandError.{CommandError}
use Rattle.map_commands.specs.declared.error.CommandError.TheVariants as command
use Rattle.map_commands.specs.Errors as commands
use Rattle.store_project.specs.declared.error.ProjectError.{ProjectError}
use Rattle.store_project.specs.declared.error.ProjectError.TheVariants.{Device, OutOfMemory, Reopen, GenerationsSpent, Refused, Damaged, Blank, NotAProject, NotEmpty, BadGeometry}

-- the number of a refusal
abbrev pub code_of : ProjectError → ℕ
code_of (Refused e) = commands.code_of e
code_of Device = 30
code_of OutOfMemory = 31
code_of Reopen = 32
code_of GenerationsSpent = 33
code_of (Damaged place) = 40
code_of Blank = 41
code_of NotAProject = 42
code_of NotEmpty = 43
code_of BadGeometry = 44

-- the text of a refusal
abbrev pub message_of : ProjectError → List ℕ
message_of (Refused e) = codes "the line is refused"
message_of Device = codes "the device failed"
message_of Reopen = codes "the project must be opened again"
message_of GenerationsSpent = codes "the generations are spent"
message_of (Damaged place) = codes "damaged at " ++ decimal place
message_of Blank = codes "no slot is open"
message_of NotAProject = codes "not a project"
message_of NotEmpty = codes "the file is not empty"
message_of BadGeometry = codes "a length is outside its limits"
message_of OutOfMemory = codes "out of memory"

-- the refusal of a command as a project answers it
abbrev pub IsRefusalOf : ProjectError → CommandError → Type 0
IsRefusalOf refusal command.OutOfMemory = refusal ≡ OutOfMemory
IsRefusalOf refusal e = refusal ≡ Refused e
