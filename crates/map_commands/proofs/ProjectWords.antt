-- Each command of a project in range is read back from its line, and its line has no fault.
use Rattle.std.proofs.Common.{◌≡◌, ℕ, ◌≤◌, Bool, true, false, cond, List, [], ◌∷◌, length, refl, sym, ◌∙◌, ap, arith, nat_lt, Option, Some, None, Result, Ok, Err, lit≤}
use Rattle.std.specs.Prelude.{IfOk, MatchResult}
use Rattle.std.specs.List.{join_with_byte}
use Rattle.std.proofs.lemmas.Bool.{le-ltb, ltb-false}
use Rattle.lump_records.specs.declared.records.Name8.{Name8}
use Rattle.lump_records.specs.Names.{IsNamed, is_marker, name_of, name_text}
use Rattle.map_commands.specs.declared.error.CommandError.{CommandError}
use Rattle.map_commands.specs.declared.grammar.Head.{Head}
use Rattle.map_commands.specs.declared.grammar.Head.TheVariants as head
use Rattle.map_commands.specs.declared.project.command.MapHead.{MapHead}
use Rattle.map_commands.specs.declared.project.command.MapHead.TheVariants as map_head
use Rattle.map_commands.specs.declared.project.command.ProjectCommand.{ProjectCommand}
use Rattle.map_commands.specs.declared.project.command.ProjectCommand.TheVariants.{Current, SelectMap, DropMap}
use Rattle.map_commands.specs.Errors.{code_of}
use Rattle.map_commands.specs.Grammar as of_one_map
use Rattle.map_commands.specs.Places.{Named, places_fault}
use Rattle.map_commands.specs.ProjectCommands.{InProjectRange, map_word, project_spelling, project_words_of}
use Rattle.map_commands.specs.ProjectGrammar.{project_command_fault, fault_by_head, project_fault_of, map_head_of}
use Rattle.map_words.specs.Words.{parts}
use Rattle.map_commands.proofs.Accepted.{all-read, marker-ok, next}
use Rattle.map_commands.proofs.Commands as proved_of_one_map
use Rattle.map_commands.proofs.Lines.{join-parts}
use Rattle.map_commands.proofs.Wordings.{AreTexts, IsText, join-short, marker-is-text, parts-join}

-- ---- First words

-- the first words of the commands of one map are none behind which a map is named
other-head : (h : Head) → map_head_of (of_one_map.head_word h) ≡ None
other-head head.Name = refl
other-head h = refl

-- the first word behind which a command names a map
abbrev head_in : ProjectCommand → Option MapHead
head_in (Current c) = None
head_in (SelectMap name) = Some map_head.Select
head_in (DropMap name) = Some map_head.Drop

abbrev first : List (List ℕ) → List ℕ
first [] = []
first (w ∷ ws) = w

abbrev second : List (List ℕ) → List ℕ
second [] = []
second (w ∷ ws) = first ws

first-word : (c : ProjectCommand) → map_head_of (first (project_words_of c)) ≡ head_in c
first-word (Current c) = other-head (of_one_map.head_for c)
first-word (SelectMap name) = refl
first-word (DropMap name) = refl

-- ---- The fault of a line

-- another line is as for one map
pub as-one-map : (line w : List ℕ) (ws : List (List ℕ)) → parts line ≡ w ∷ ws → map_head_of w ≡ None → project_fault_of line ≡ of_one_map.fault_of line
as-one-map line w ws words none =
    ap (λ x. cond {A = Option ℕ} (nat_lt 256 (length line)) (Some 1) x)
    (ap project_command_fault words ∙ (λ i. fault_by_head (none i) w ws) ∙ ap of_one_map.command_fault (sym words))

short-enough : (n : ℕ) → n ≤ 256 → nat_lt 256 n ≡ false
short-enough n h = le-ltb 256 n h

-- the fault of a line that names a map
pub as-named : (line w : List ℕ) (ws : List (List ℕ)) (h : MapHead) → length line ≤ 256 → parts line ≡ w ∷ ws → map_head_of w ≡ Some h → project_fault_of line ≡ places_fault (Named is_marker ∷ []) ws
as-named line w ws h few words is =
    let short = short-enough (length line) few in
    (λ i. cond {A = Option ℕ} (short i) (Some 1) (project_command_fault (words i))) ∙ (λ i. fault_by_head (is i) w ws)

head-text : (h : MapHead) → IsText (map_word h)
head-text map_head.Select = record { inside = refl; short = lit≤ tt }
head-text map_head.Drop = record { inside = refl; short = lit≤ tt }

pub head-found : (h : MapHead) → map_head_of (map_word h) ≡ Some h
head-found map_head.Select = refl
head-found map_head.Drop = refl

named-texts : (h : MapHead) (name : Name8) → IsNamed is_marker name → AreTexts (map_word h ∷ name_text name ∷ [])
named-texts h name is = (head-text h, (marker-is-text name is, tt))

named-accepted : (h : MapHead) (name : Name8) → IsNamed is_marker name → project_fault_of (join_with_byte 32 (map_word h ∷ name_text name ∷ [])) ≡ None
named-accepted h name is =
    let texts = named-texts h name is in
    let short = join-short (map_word h ∷ name_text name ∷ []) texts in
    as-named (join_with_byte 32 (map_word h ∷ name_text name ∷ [])) (map_word h) (name_text name ∷ []) h (omega (arith, short)) (parts-join (map_word h) (name_text name ∷ []) texts) (head-found h)
    ∙ (next _ _ _ _ (marker-ok name is) all-read).none

-- the line of a command in range has no fault
pub project_spelling-accepted : (c : ProjectCommand) → InProjectRange c → project_fault_of (project_spelling c) ≡ None
project_spelling-accepted (Current c) h =
    as-one-map (of_one_map.spelling c) (of_one_map.head_word (of_one_map.head_for c))
    (of_one_map.words_behind c) (proved_of_one_map.parts-spelling c h) (other-head (of_one_map.head_for c))
    ∙ proved_of_one_map.spelling-accepted c h
project_spelling-accepted (SelectMap name) h = named-accepted map_head.Select name h
project_spelling-accepted (DropMap name) h = named-accepted map_head.Drop name h

-- ---- The command of a line

-- the parts of a command's line are its words
parts-spelling : (c : ProjectCommand) → InProjectRange c → parts (project_spelling c) ≡ project_words_of c
parts-spelling (Current c) h = proved_of_one_map.parts-spelling c h
parts-spelling (SelectMap name) h = parts-join (map_word map_head.Select) (name_text name ∷ []) (named-texts map_head.Select name h)
parts-spelling (DropMap name) h = parts-join (map_word map_head.Drop) (name_text name ∷ []) (named-texts map_head.Drop name h)

one-name : (m n : Name8) (w v : List ℕ) → IsNamed is_marker m → IsNamed is_marker n → w ∷ name_text m ∷ [] ≡ v ∷ name_text n ∷ [] → m ≡ n
one-name m n w v h g e = h.padded ∙ ap (λ ws. name_of (second ws)) e ∙ sym g.padded

one-command : (c d : ProjectCommand) → InProjectRange c → InProjectRange d → head_in c ≡ head_in d → project_words_of c ≡ project_words_of d → project_spelling c ≡ project_spelling d → c ≡ d
one-command (Current c) (Current d) h g e w s = ap Current (proved_of_one_map.spelling-one c d h g s)
one-command (Current c) (SelectMap n) h g e w s = absurd (cc e)
one-command (Current c) (DropMap n) h g e w s = absurd (cc e)
one-command (SelectMap m) (Current d) h g e w s = absurd (cc e)
one-command (SelectMap m) (SelectMap n) h g e w s = ap SelectMap (one-name m n (map_word map_head.Select) (map_word map_head.Select) h g w)
one-command (SelectMap m) (DropMap n) h g e w s = absurd (cc e)
one-command (DropMap m) (Current d) h g e w s = absurd (cc e)
one-command (DropMap m) (SelectMap n) h g e w s = absurd (cc e)
one-command (DropMap m) (DropMap n) h g e w s = ap DropMap (one-name m n (map_word map_head.Drop) (map_word map_head.Drop) h g w)

-- one line is the line of one command in range
pub project_spelling-one : (c d : ProjectCommand) → InProjectRange c → InProjectRange d → project_spelling c ≡ project_spelling d → c ≡ d
project_spelling-one c d h g e =
    let words = sym (parts-spelling c h) ∙ ap parts e ∙ parts-spelling d g in
    one-command c d h g (sym (first-word c) ∙ ap (λ ws. map_head_of (first ws)) words ∙ first-word d) words e

-- what reads a line by the grammar gives the command whose line it is
pub complete : (line : List ℕ) (r : Result ProjectCommand CommandError)
    → IfOk r (λ d. (line ≡ project_spelling d) × InProjectRange d)
    → MatchResult r (λ _. project_fault_of line ≡ None) (λ e. project_fault_of line ≡ Some (code_of e))
    → (c : ProjectCommand) → InProjectRange c → line ≡ project_spelling c → r ≡ Ok c
complete line (Ok d) ok fault c h e = ap Ok (project_spelling-one d c ok.1 h (sym ok.0 ∙ e))
complete line (Err f) ok fault c h e = let none = ap project_fault_of e ∙ project_spelling-accepted c h in absurd (cc (fault, none))

long-fault : (n : ℕ) (t : Bool) (x : Option ℕ) → nat_lt 256 n ≡ t → cond t (Some 1) x ≡ None → n ≤ 256
long-fault n true x e f = absurd cc
long-fault n false x e f = ltb-false 256 n e

-- a line that is taken is no longer than 256 bytes
pub not-long : (line : List ℕ) (r : Result ProjectCommand CommandError)
    → MatchResult r (λ _. project_fault_of line ≡ None) (λ e. project_fault_of line ≡ Some (code_of e))
    → IfOk r (λ _. length line ≤ 256)
not-long line (Ok d) fault = long-fault (length line) (nat_lt 256 (length line)) (project_command_fault (parts line)) refl fault
not-long line (Err f) fault = tt

-- the words of a line are those of a command, so the line is the command's
pub spelled : (line : List ℕ) (ws : List (List ℕ)) (r : Result ProjectCommand CommandError) → parts line ≡ ws
    → IfOk r (λ c. (ws ≡ project_words_of c) × InProjectRange c)
    → IfOk r (λ c. (line ≡ project_spelling c) × InProjectRange c)
spelled line ws (Ok c) e h = (sym (join-parts line) ∙ ap (join_with_byte 32) (e ∙ h.0), h.1)
spelled line ws (Err x) e h = tt
