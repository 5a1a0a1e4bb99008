-- What a refused line would have done to the maps, by the word with which its command begins, and
-- what another line may be refused for (README.md).
use Rattle.std.specs.Prelude.{ℕ, Bool, true, false, ◌==◌, ◌||◌, ◌&&◌, nat_le, not, if◌then◌else◌, List, [], ◌∷◌, drop, Option, Some, None, bytes_eq, codes, length, slice_index}
use Rattle.std.specs.List.{list_any}
use Rattle.map_script.specs.Defines.{define_words}
use Rattle.map_script.specs.Lines.{command_words}
use Rattle.map_script.specs.Words.{first_word, text_words}
use Rattle.map_blocks.specs.Naming.{gives_anew}
use Rattle.map_commands.specs.declared.deed.Deed.{Deed}
use Rattle.map_commands.specs.declared.deed.Deed.TheVariants.{AddsSector, AddsThing, Draws, Frees, Reads, SetsThing, Turns}
use Rattle.map_blocks.specs.declared.deeds.Ground.{Ground}
use Rattle.map_blocks.specs.declared.deeds.Ground.TheVariants.{Anything, Drawn, MapNames, Nothing, Place, Sectors, Things}
use Rattle.map_blocks.specs.declared.deeds.TheConstants.{OTHER_DEEDS}
use Rattle.map_commands.specs.declared.grammar.TheConstants.{DEEDS}

-- ---- What a command does

-- it may draw something that is no thing, or take it away
abbrev pub may_draw : Deed → Bool
may_draw AddsSector = true
may_draw Draws = true
may_draw Frees = true
may_draw Turns = true
may_draw d = false

-- the place of a vertex may be free behind it
abbrev pub may_free : Deed → Bool
may_free Frees = true
may_free Turns = true
may_free d = false

-- another map may be the current one behind it, or have another name
abbrev pub may_turn : Deed → Bool
may_turn Turns = true
may_turn d = false

-- there may be a sector more behind it
abbrev pub may_add_sector : Deed → Bool
may_add_sector AddsSector = true
may_add_sector d = may_turn d

-- there may be a thing more behind it
abbrev pub may_add_thing : Deed → Bool
may_add_thing AddsThing = true
may_add_thing d = may_turn d

-- it changes or adds something
abbrev pub may_change : Deed → Bool
may_change Reads = false
may_change d = true

-- what was refused on such a ground might not be behind it
abbrev pub can_lift : Ground → Deed → Bool
can_lift Nothing d = false
can_lift Sectors d = may_add_sector d
can_lift Things d = may_add_thing d
can_lift Place d = may_free d
can_lift Drawn d = may_draw d
can_lift MapNames d = may_turn d
can_lift Anything d = may_change d

-- ---- Which command a line is

-- two words begin with two letters in the one and in the other order, and are alike behind them
abbrev pub begin_exchanged : List ℕ → List ℕ → Bool
begin_exchanged (a ∷ b ∷ xs) (c ∷ d ∷ ys) = (a == d) && ((b == c) && bytes_eq xs ys)
begin_exchanged xs ys = false

-- two words are one, but for a letter that is another one, is missing or is too many, or for two that
-- stand side by side in the other order
abbrev pub are_near : List ℕ → List ℕ → Bool
are_near [] ys = nat_le (length ys) 1
are_near (x ∷ xs) [] = nat_le (length (x ∷ xs)) 1
are_near (x ∷ xs) (y ∷ ys) =
    if x == y then are_near xs ys
    else (bytes_eq xs ys || (bytes_eq (x ∷ xs) ys || (bytes_eq xs (y ∷ ys)
    || begin_exchanged (x ∷ xs) (y ∷ ys))))

-- what a command that may free a place does to an item of the kind that its second word names
abbrev pub freed : List ℕ → Deed
freed kind =
    if bytes_eq kind (codes "thing") then SetsThing
    else (if bytes_eq kind (codes "sector")
    || (bytes_eq kind (codes "side") || bytes_eq kind (codes "line")) then Draws else Frees)

-- what a command does, by what its first word says and by its second word
abbrev pub deed_with : Deed → List ℕ → Deed
deed_with Frees kind = freed kind
deed_with d kind = d

-- a word is one with which a command begins
unfoldable pub is_known_word : List ℕ → Bool
is_known_word word =
    list_any (λ d. bytes_eq d.0.now word) DEEDS.now
    || list_any (λ d. bytes_eq d.0.now word) OTHER_DEEDS.now

-- a word is meant as this one: it is the same, or, where it is none of those, it is near
abbrev pub is_meant_as : List ℕ → List ℕ → Bool
is_meant_as word own =
    bytes_eq own word || (not (is_known_word word) && are_near own word)

-- a word is meant as one with which a command begins
unfoldable pub is_meant : List ℕ → Bool
is_meant word =
    list_any (λ d. is_meant_as word d.0.now) DEEDS.now
    || list_any (λ d. is_meant_as word d.0.now) OTHER_DEEDS.now

-- a command of these two first words, if they are meant so, could lift what was refused on a ground
unfoldable pub command_lifts : Ground → List ℕ → List ℕ → Bool
command_lifts cause first second =
    list_any (λ d. is_meant_as first d.0.now && can_lift cause (deed_with d.1 second)) DEEDS.now
    || list_any (λ d. is_meant_as first d.0.now
    && can_lift cause (deed_with d.1 second)) OTHER_DEEDS.now

-- a shape's name, if there is one, is near to a word
abbrev pub is_shape_near : List ℕ → Option (List (List ℕ)) → Bool
is_shape_near word None = false
is_shape_near word (Some ws) = are_near (first_word ws) word

-- a line defines a shape whose name is near to a word
abbrev pub defines_near : List ℕ → List ℕ → Bool
defines_near line word = is_shape_near word (define_words (text_words line))

-- one of some lines does
abbrev pub one_defines_near : List (ℕ × List ℕ) → List ℕ → Bool
one_defines_near lines word = list_any (λ l. defines_near l.1 word) lines

-- a word may be meant as anything: no command begins with it, and it is near to none with which one
-- does, or near to that of a shape of the script
abbrev pub is_any_word : List (ℕ × List ℕ) → List ℕ → Bool
is_any_word lines word =
    not (is_known_word word) && (one_defines_near lines word || not (is_meant word))

-- whether there is such a ground
abbrev pub is_ground : Ground → Bool
is_ground Nothing = false
is_ground g = true

-- a line of the script, once it is mended, could lift what was refused on a ground: by its command, or
-- as it may give a name that other lines give too, which then stands for something else in any line
abbrev pub could_lift : List (ℕ × List ℕ) → Ground → List ℕ → Bool
could_lift lines cause line =
    let ws = command_words (text_words line) in
    is_ground cause && (is_any_word lines (first_word ws)
    || (command_lifts cause (first_word ws) (first_word (drop 1 ws)) || gives_anew lines line))

-- one of some lines could
abbrev pub one_could_lift : List (ℕ × List ℕ) → Ground → List (ℕ × List ℕ) → Bool
one_could_lift lines cause out = list_any (λ l. could_lift lines cause l.1) out

-- a line that isn't refused may free a place: so does its command, or it begins with a name
abbrev pub frees_place : List ℕ → Bool
frees_place line =
    let ws = command_words (text_words line) in
    (slice_index (first_word ws) 0 == 36)
    || (is_known_word (first_word ws)
    && command_lifts Place (first_word ws) (first_word (drop 1 ws)))

-- one of some lines may
abbrev pub one_frees : List (ℕ × List ℕ) → Bool
one_frees lines = list_any (λ l. frees_place l.1) lines
