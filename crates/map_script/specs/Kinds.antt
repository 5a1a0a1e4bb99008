-- Of which kinds of items the words of a line are the numbers, and which of them don't fit their
-- places (docs/COMMANDS.md, "Scripts").
use Rattle.std.specs.Prelude.{ℕ, zero, suc, ◌+◌, Bool, true, false, ◌||◌, ◌==◌, is_some, if◌then◌else◌, List, [], ◌∷◌, length, take, drop, position, slice_index, Option, Some, None, Result, Ok, Err, bytes_eq, codes}
use Rattle.map_tables.specs.declared.kind.Kind.{Kind}
use Rattle.map_tables.specs.declared.kind.Kind.TheVariants as kind
use Rattle.map_commands.specs.Spelling.{kind_of}
use Rattle.map_script.specs.Cuts.{behind_byte, cut_place, inside}
use Rattle.map_script.specs.Meant.{Meant, meant_by}
use Rattle.map_script.specs.Names.{cut, is_script_name}
use Rattle.map_script.specs.Referents.{kind_referred, wall_place, wanted_in}
use Rattle.map_script.specs.Scopes.{Scope, visible}
use Rattle.map_script.specs.Words.{text_words}
use Rattle.map_script.specs.declared.error.DrawError.{DrawError}
use Rattle.map_script.specs.declared.kinds.Misfit.{Misfit}

-- ---- NAME=VALUE

-- `NAME=` and VALUE of a word whose first `=` is here, or nothing and the whole word
abbrev pub field_at : List ℕ → Option ℕ → List ℕ × List ℕ
field_at text None = ([], text)
field_at text (Some i) =
    if is_script_name (take i text) then (take (i + 1) text, drop (i + 1) text) else ([], text)

-- `NAME=` and VALUE of a word, or nothing and the whole word
abbrev pub field_parts : List ℕ → List ℕ × List ℕ
field_parts text = field_at text (position (λ b. b == 61) text)

-- ---- The kind of a word

-- the kind of what stands behind the dot of a reference: a wall is a line
abbrev pub kind_of_part : List ℕ → Option Kind
kind_of_part w = if is_some (wall_place w) then Some kind.Line else kind_of w

-- the kind that a name has; or else, by where a `(` and a dot cut a reference, KIND of KIND(X,Y), or the
-- kind of what stands behind the dot
abbrev pub kind_by : Option Meant → List ℕ × Option (List ℕ) → List ℕ × Option (List ℕ)
    → Option Kind
kind_by (Some meant) bracket dot = kind_referred meant.referent
kind_by None (k, Some rest) dot = kind_of k
kind_by None (k, None) (name, Some part) = kind_of_part part
kind_by None (k, None) (name, None) = None

-- the kind of the item of which a reference is the number, given without its `$`
abbrev pub reference_kind : Scope → List ℕ → Option Kind
reference_kind scope text = kind_by (meant_by (visible scope) text) (cut 40 text) (cut 46 text)

-- the same, if there is a reference
abbrev pub referred_kind : Scope → Option (List ℕ) → Option Kind
referred_kind scope None = None
referred_kind scope (Some text) = reference_kind scope text

-- the kind of a sum or a difference of two parts: that of the one that has a kind, if it isn't
-- subtracted; a product and a quotient have none
abbrev pub kept_kind : ℕ → Option Kind → Option Kind → Option Kind
kept_kind sign (Some k) None = if (sign == 43) || (sign == 45) then Some k else None
kept_kind sign None (Some k) = if sign == 43 then Some k else None
kept_kind sign left right = None

-- the kind of a text that no sign cuts; parts have these kinds
abbrev pub whole_kind : (List ℕ → Option Kind) → Scope → List ℕ → Option (List ℕ) → Option Kind
whole_kind part scope text (Some inner) = part inner
whole_kind part scope text None = referred_kind scope (behind_byte 36 text)

-- the kind of a text that is cut at the sign that is reckoned last, if it has one
abbrev pub kind_cut_at : (List ℕ → Option Kind) → Scope → List ℕ → Option ℕ → Option Kind
kind_cut_at part scope text (Some i) =
    kept_kind (slice_index text i) (part (take i text)) (part (drop (i + 1) text))
kind_cut_at part scope text None = whole_kind part scope text (inside text)

-- the kind of the item of which a sum is the number, if its parts nest less than so deep
unfoldable pub sum_kind : ℕ → Scope → List ℕ → Option Kind
sum_kind zero scope text = None
sum_kind (suc depth) scope text =
    kind_cut_at (λ part. sum_kind depth scope part) scope text (cut_place text)

-- the same of a word that has no `NAME=` in front
abbrev pub word_kind : Scope → List ℕ → List ℕ → Option Kind
word_kind scope [] w = sum_kind 65 scope w
word_kind scope (b ∷ bs) w = None

-- the same of the only word
abbrev pub only_kind : Scope → List (List ℕ) → Option Kind
only_kind scope (w ∷ []) = word_kind scope (field_parts w).0 w
only_kind scope ws = None

-- ---- Places

-- the kind of the item whose number is the VALUE of `NAME=`
abbrev pub field_kind : List ℕ → Option Kind
field_kind field =
    if bytes_eq field (codes "V1=") || bytes_eq field (codes "V2=") then Some kind.Vertex
    else (if bytes_eq field (codes "RIGHT=") || bytes_eq field (codes "LEFT=") then Some kind.Side
    else (if bytes_eq field (codes "SECTOR=") then Some kind.Sector else None))

-- the kind that the first place wants
abbrev pub first_wanted : List (Option Kind) → Option Kind
first_wanted [] = None
first_wanted (k ∷ ks) = k

-- the kind that is wanted of a word at the first place, or of the VALUE of `NAME=`
abbrev pub wanted_at : List (Option Kind) → List ℕ → Option Kind
wanted_at places [] = first_wanted places
wanted_at places (b ∷ bs) = field_kind (b ∷ bs)

-- how many words a name stands for, or else one
abbrev pub words_meant : Option Meant → ℕ
words_meant None = 1
words_meant (Some meant) = length (text_words meant.words)

-- how many words a reference stands for, if there is one
abbrev pub words_referred : Scope → Option (List ℕ) → ℕ
words_referred scope None = 1
words_referred scope (Some text) = words_meant (meant_by (visible scope) text)

-- the places behind those of a word: it has one, or as many as the words of the name that it is
abbrev pub places_after : Scope → List (Option Kind) → List ℕ → List (Option Kind)
places_after scope places w =
    drop (words_referred scope (behind_byte 36 (field_parts w).1)) places

-- ---- What doesn't fit

-- two kinds are the same
abbrev pub is_same_kind : Kind → Kind → Bool
is_same_kind kind.Vertex kind.Vertex = true
is_same_kind kind.Sector kind.Sector = true
is_same_kind kind.Side kind.Side = true
is_same_kind kind.Line kind.Line = true
is_same_kind kind.Thing kind.Thing = true
is_same_kind one other = false

-- the kind that is wanted and the one that is found, if they differ
abbrev pub misfit_of : Option Kind → Option Kind → Option (Kind × Kind)
misfit_of (Some wanted) (Some found) =
    if is_same_kind wanted found then None else Some (wanted, found)
misfit_of wanted found = None

-- the same of a word at the first place
abbrev pub misfit_at : Scope → List (Option Kind) → List ℕ → Option (Kind × Kind)
misfit_at scope places w =
    misfit_of (wanted_at places (field_parts w).0) (sum_kind 65 scope (field_parts w).1)

-- a word that doesn't fit, with the two kinds, or else another
abbrev pub misfit_or : List ℕ → Option (Kind × Kind) → Option (List ℕ × Kind × Kind)
    → Option (List ℕ × Kind × Kind)
misfit_or w (Some (wanted, found)) other = Some (w, wanted, found)
misfit_or w None other = other

-- the first of some words that doesn't fit its place, with the two kinds
abbrev pub first_misfit : Scope → List (Option Kind) → List (List ℕ)
    → Option (List ℕ × Kind × Kind)
first_misfit scope places [] = None
first_misfit scope places (w ∷ ws) =
    misfit_or w (misfit_at scope places w) (first_misfit scope (places_after scope places w) ws)

-- the same as a value of the program
abbrev pub misfit_told : Misfit → List ℕ × Kind × Kind
misfit_told m = (m.word.now, m.wanted, m.found)

-- the same of a command's words that stand for this line, if they stand for one
abbrev pub misfit_in : Scope → List (List ℕ) → Result (List ℕ) DrawError
    → Option (List ℕ × Kind × Kind)
misfit_in scope ws (Ok line) = first_misfit scope (wanted_in (text_words line)) ws
misfit_in scope ws (Err e) = None
