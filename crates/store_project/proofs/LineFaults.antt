-- The fault of a line is 1, 2 or 15: none is as great as the numbers behind those of commands.
use Rattle.std.proofs.Common.{◌≡◌, ◌≤◌, ℕ, List, [], ◌∷◌, length, nat_lt, Option, None, Some, subst}
use Rattle.lump_records.specs.Names.{is_marker}
use Rattle.map_commands.specs.Grammar.{command_fault, head_fault, head_of, parts}
use Rattle.map_commands.specs.Places.{Named}
use Rattle.map_commands.specs.ProjectGrammar as of_project
use Rattle.map_commands.specs.ProjectGrammar.{fault_by_head, project_fault_of, map_head_of}
use Rattle.map_commands.specs.declared.grammar.Head.{Head}
use Rattle.map_commands.specs.declared.project.command.MapHead.{MapHead}
use Rattle.map_commands.proofs.Commands.{behind_low}
use Rattle.map_commands.proofs.LowFaults.{IsLow, low_either, low_one, places_low}

head_low : (h : Option Head) (ws : List (List ℕ)) → IsLow (head_fault h ws)
head_low None ws = low_one
head_low (Some h) ws = behind_low h ws

words_low : (ws : List (List ℕ)) → IsLow (command_fault ws)
words_low [] = low_one
words_low (w ∷ ws) = head_low (head_of w) ws

map_head_low : (h : Option MapHead) (w : List ℕ) (ws : List (List ℕ)) → IsLow (fault_by_head h w ws)
map_head_low (Some h) w ws = places_low (Named is_marker ∷ []) ws
map_head_low None w ws = words_low (w ∷ ws)

project_words_low : (ws : List (List ℕ)) → IsLow (of_project.project_command_fault ws)
project_words_low [] = low_one
project_words_low (w ∷ ws) = map_head_low (map_head_of w) w ws

line_low : (line : List ℕ) → IsLow (project_fault_of line)
line_low line =
    low_either (nat_lt 256 (length line)) (Some 1) (of_project.project_command_fault (parts line)) low_one (project_words_low (parts line))

pub low_fault : (line : List ℕ) (code : ℕ) → project_fault_of line ≡ Some code → code ≤ 15
low_fault line code is = subst IsLow is (line_low line)
