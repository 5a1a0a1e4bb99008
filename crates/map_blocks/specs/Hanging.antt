-- Which refused lines of a script hang on others that were left out: once these are mended, they
-- might not be refused (docs/COMMANDS.md, "Scripts"; README.md).
use Rattle.std.specs.Prelude.{ℕ, Bool, false, true, ◌==◌, ◌||◌, ◌&&◌, not, nat_lt, if◌then◌else◌, List, [], ◌∷◌, Option, Some, None, bytes_eq, codes, get_or, length, take}
use Rattle.std.specs.List.{list_all, list_any}
use Rattle.map_commands.specs.Grammar.{head_of, head_puts_vertex}
use Rattle.map_commands.specs.declared.grammar.Head.{Head}
use Rattle.map_script.specs.Lines.{command_words}
use Rattle.map_script.specs.Words.{first_word, text_words}
use Rattle.map_blocks.specs.Deeds.{one_could_lift, one_frees}
use Rattle.map_blocks.specs.Naming.{are_sums_settled, is_settled, mentions_given, mentions_unknown}
use Rattle.map_blocks.specs.Ranges.{has_outside}
use Rattle.map_blocks.specs.declared.deeds.Ground.{Ground}
use Rattle.map_blocks.specs.declared.deeds.Ground.TheVariants.{Anything, Drawn, MapNames, Nothing, Place, Sectors, Things}
use Rattle.map_blocks.specs.declared.hanging.TheConstants.{OF_DRAWN, OF_MAPS, OF_PLAIN_WORDS, OF_WORDS}
use Rattle.map_blocks.specs.declared.stop.OpenBlock.{OpenBlock}
use Rattle.map_blocks.specs.declared.stop.Stop.{Stop}

-- the text of the line at a place, which is empty behind the last
abbrev pub text_at_place : List (ℕ × List ℕ) → ℕ → List ℕ
text_at_place lines place = (get_or lines place (0, [])).1

-- a code is one of these
unfoldable pub is_code_of : List ℕ → ℕ → Bool
is_code_of codes code = list_any (λ n. n == code) codes

-- the words of a line and of the lines that opened the blocks round it hang on no map; or, if places
-- may stand in them, on no more than what is drawn
abbrev pub are_settled : Bool → List (ℕ × List ℕ) → List ℕ → List OpenBlock → Bool
are_settled places lines line blocks =
    is_settled places lines line
    && list_all (λ (b : OpenBlock). is_settled places lines (text_at_place lines b.place)) blocks

-- the first word of a line's command
abbrev pub command_word : List ℕ → List ℕ
command_word line = first_word (command_words (text_words line))

-- a command of this first word, if it is one, puts vertices at places of its own
abbrev pub puts_vertex_at : Option Head → Bool
puts_vertex_at None = false
puts_vertex_at (Some h) = head_puts_vertex h

-- a command that puts vertices at places of its own, whatever else is drawn
abbrev pub puts_vertex : List ℕ → Bool
puts_vertex word = puts_vertex_at (head_of word)

-- these words alone are the reason, where they hang on no map
abbrev pub is_of_plain_words : ℕ → List ℕ → Bool
is_of_plain_words code word =
    is_code_of OF_PLAIN_WORDS.now code
    || (((code == 9) || (code == 11)) && not (bytes_eq word (codes "change")))

-- the ground of a refusal, where the words hang on no map
abbrev pub plain_ground : List (ℕ × List ℕ) → ℕ → List ℕ → Ground → Ground
plain_ground lines code word else-so =
    if is_of_plain_words code word then Nothing
    else (if code == 4 then Sectors
    else (if code == 7 then Things
    else (if (code == 10) && (puts_vertex word && not (one_frees lines)) then Place else else-so)))

-- the ground of a refusal, where the words hang on what is drawn, if at all
abbrev pub drawn_ground : Bool → ℕ → Ground
drawn_ground drawn code =
    if is_code_of OF_MAPS.now code then MapNames
    else (if drawn && is_code_of OF_DRAWN.now code then Drawn else Anything)

-- of so many first lines one may give a name that stands for something at a place, within these blocks:
-- of those before it, or of any, since a loop may have turned, or a shape be drawn later
abbrev pub known_until : List (ℕ × List ℕ) → ℕ → List OpenBlock → ℕ
known_until lines place [] = place
known_until lines place (b ∷ bs) = length lines

-- words of the line at a place are the reason of its refusal with a code, whatever the others stand
-- for: that of each such code, a name that is given nowhere or later, a number out of its range, or a
-- sum that hangs on no map
abbrev pub is_of_own_words : List (ℕ × List ℕ) → ℕ → List ℕ → ℕ → List OpenBlock → Bool
is_of_own_words lines place line code blocks =
    is_code_of OF_WORDS.now code
    || (((code == 22) && mentions_unknown (take (known_until lines place blocks) lines) line)
    || (((code == 2) && has_outside line) || ((code == 46) && are_sums_settled lines line)))

-- what the line at a place of a script was refused for with a code, within these blocks
abbrev pub ground_of : List (ℕ × List ℕ) → ℕ → List ℕ → ℕ → List OpenBlock → Ground
ground_of lines place line code blocks =
    if is_of_own_words lines place line code blocks then Nothing
    else (if are_settled false lines line blocks
    then plain_ground lines code (command_word line) (drawn_ground true code)
    else drawn_ground (are_settled true lines line blocks) code)

-- A refused line of a script hangs on lines that were left out: it is too long to be looked at, or
-- mentions a name that one of them may be meant to give, or one of them could lift its refusal.
abbrev pub hangs : List (ℕ × List ℕ) → List (ℕ × List ℕ) → Stop → Bool
hangs lines out stop =
    let line = text_at_place lines stop.place in
    nat_lt 1000 (length line)
    || (mentions_given out line
    || one_could_lift lines (ground_of lines stop.place line stop.code stop.«open».items) out)
