-- Laws about lines and commands of a project, which hold of the definitions alone.
use Rattle.std.specs.Prelude.{◌≡◌, ◌++◌, ℕ, Bool, List, [], ◌∷◌, None, MatchOption, Result, bytes_eq, drop, find, get_or, length, map}
use Rattle.map_tables.specs.Projects.{ProjectMaps}
use Rattle.map_commands.specs.Grammar.{head_word, heads}
use Rattle.map_commands.specs.ProjectCommands.{InProjectRange, map_word, project_spelling, project_words_of}
use Rattle.map_commands.specs.ProjectGrammar.{map_heads, project_fault_of}
use Rattle.map_commands.specs.ProjectLines.{EndsLine, Leads}
use Rattle.map_words.specs.Words.{parts}
use Rattle.map_commands.specs.declared.grammar.Head.TheVariants.{Name}
use Rattle.map_commands.specs.declared.grammar.TheConstants.{DEEDS, FORMS}
use Rattle.map_commands.specs.declared.project.command.ProjectCommand.{ProjectCommand}

-- one line spells one command at most
abbrev pub LinesSpellOneCommand : Type 0
LinesSpellOneCommand = (c d : ProjectCommand) → InProjectRange c → InProjectRange d
    → project_spelling c ≡ project_spelling d → c ≡ d

-- the line of a command is accepted
abbrev pub SpellingsAreAccepted : Type 0
SpellingsAreAccepted = (c : ProjectCommand) → InProjectRange c
    → project_fault_of (project_spelling c) ≡ None

-- a line has one outcome, and leaves one project
abbrev pub LinesEndInOneWay : Type 0
LinesEndInOneWay =
    (cap : ℕ) (old new other : ProjectMaps) (line : List ℕ) (a b : Result ℕ ℕ)
    → EndsLine cap old line a new → EndsLine cap old line b other
    → (a ≡ b) × (new ≡ other)

-- lines that are all accepted lead to one project
abbrev pub LinesLeadToOneProject : Type 0
LinesLeadToOneProject =
    (cap : ℕ) (old new other : ProjectMaps) (lines : List (List ℕ)) → Leads cap old lines new
    → Leads cap old lines other → new ≡ other

-- the first word of a line or a form
abbrev pub first_part : List (List ℕ) → List ℕ
first_part ws = get_or ws 0 []

-- the first words of all commands, in the order in which people see them
abbrev pub first_words : List (List ℕ)
first_words = head_word Name ∷ map map_word map_heads ++ map head_word (drop 1 heads)

-- the form begins with the first word of the command
abbrev pub begins_alike : List ℕ → ProjectCommand → Bool
begins_alike form c = bytes_eq (first_part (parts form)) (first_part (project_words_of c))

-- each first word has one form and one deed; and the form of a command has as many words as the command
pub record CommandsHaveForms : Type 0 where
  pub forms : map (λ f. first_part (parts f.now)) FORMS.now ≡ first_words
  pub deeds : map (λ d. d.0.now) DEEDS.now ≡ first_words
  pub words : (c : ProjectCommand) → MatchOption (find (λ f. begins_alike f.now c) FORMS.now) ⊥
      (λ f. length (parts f.now) ≡ length (project_words_of c))
