-- The names in a line of a script: which it mentions, as `$NAME`, which it gives, and which it may be
-- meant to give (docs/COMMANDS.md, "Scripts").
use Rattle.std.specs.Prelude.{ℕ, Bool, false, ◌==◌, ◌||◌, ◌&&◌, not, if◌then◌else◌, List, [], ◌∷◌, ◌++◌, Option, Some, None, bytes_eq, codes, drop, length, slice_index, is_some, unwrap_or}
use Rattle.std.specs.List.{before_first, list_all, list_any, slice_split}
use Rattle.map_script.specs.Defines.{define_words}
use Rattle.map_script.specs.Lines.{let_words, name_in}
use Rattle.map_script.specs.Loops.{loop_words}
use Rattle.map_script.specs.Names.{is_script_name_byte}
use Rattle.map_script.specs.Words.{first_word, is_some_text, text_words}
use Rattle.map_blocks.specs.Blocks.{defines}

-- ---- Names that a line mentions

-- what stands behind each `$` of a line
abbrev pub behind_dollars : List ℕ → List (List ℕ)
behind_dollars [] = []
behind_dollars (b ∷ bs) = if b == 36 then bs ∷ behind_dollars bs else behind_dollars bs

-- the bytes of a name with which a text begins
abbrev pub front_name : List ℕ → List ℕ
front_name text = before_first (λ b. not (is_script_name_byte b)) text

-- behind a `$`: a name, and not a kind before `(`
abbrev pub is_name_front : List ℕ → Bool
is_name_front text =
    is_some_text (front_name text) && not (slice_index text (length (front_name text)) == 40)

-- behind a `$`: a kind other than `thing` before `(`
abbrev pub is_place_front : List ℕ → Bool
is_place_front text =
    (slice_index text (length (front_name text)) == 40)
    && not (bytes_eq (front_name text) (codes "thing"))

-- ---- Names that a line gives

-- a name is the one that is there
abbrev pub is_that_name : List ℕ → Option (List ℕ) → Bool
is_that_name name None = false
is_that_name name (Some n) = bytes_eq n name

-- a name is the first of the words that are there
abbrev pub is_first_name : List ℕ → Option (List (List ℕ)) → Bool
is_first_name name None = false
is_first_name name (Some ws) = bytes_eq (first_word ws) name

-- a byte that stands in no name, and is no `$`
abbrev pub parts_names : ℕ → Bool
parts_names b = not (is_script_name_byte b || (b == 36))

-- the parts of what stands behind the byte that parted it, if one did
abbrev pub parts_left : Option (List ℕ) → List (List ℕ)
parts_left None = []
parts_left (Some text) = slice_split parts_names text

-- a name stands in a line, with no `$` in front of it
abbrev pub stands_alone : List ℕ → List ℕ → Bool
stands_alone name line = list_any (λ part. bytes_eq part name) (slice_split parts_names line)

-- a line gives a name: by `=`, `let` or `for`, or as a word of its `define`
abbrev pub gives_name : List ℕ → List ℕ → Bool
gives_name name line =
    is_that_name name (name_in (text_words line))
    || (is_first_name name (let_words (text_words line))
    || (is_first_name name (loop_words (text_words line))
    || (defines line && stands_alone name line)))

-- one of some lines gives a name
abbrev pub one_gives : List (ℕ × List ℕ) → List ℕ → Bool
one_gives lines name = list_any (λ l. gives_name name l.1) lines

-- A line that was refused may be meant to give a name: the name stands in it, be it well written or
-- not, or with a `$` it is its first word or the one behind `let`.
abbrev pub may_give : List ℕ → List ℕ → Bool
may_give name line =
    stands_alone name line
    || (bytes_eq (first_word (text_words line)) (36 ∷ name)
    || is_first_name (36 ∷ name) (let_words (text_words line)))

-- one of some lines may be
abbrev pub one_may_give : List (ℕ × List ℕ) → List ℕ → Bool
one_may_give lines name = list_any (λ l. may_give name l.1) lines

-- the first of some words, if there are some
abbrev pub first_of_words : Option (List (List ℕ)) → List (List ℕ)
first_of_words None = []
first_of_words (Some ws) = first_word ws ∷ []

-- the name that is there
abbrev pub only_name : Option (List ℕ) → List (List ℕ)
only_name None = []
only_name (Some n) = n ∷ []

-- the names that a line of these words gives: by `=`, `let` or `for`, or as a shape's parameters
abbrev pub given_names : List (List ℕ) → List (List ℕ)
given_names ws =
    only_name (name_in ws) ++ (first_of_words (let_words ws) ++ (first_of_words (loop_words ws)
    ++ drop 1 (unwrap_or (define_words ws) [])))

-- a line gives a name that another one, which was refused, may be meant to give
abbrev pub gives_one_of : List ℕ → List ℕ → Bool
gives_one_of line other = list_any (λ name. may_give name other) (given_names (text_words line))

-- one of some lines does
abbrev pub gives_anew : List (ℕ × List ℕ) → List ℕ → Bool
gives_anew lines other = list_any (λ l. gives_one_of l.1 other) lines

-- ---- What the words of a line hang on

-- a line mentions a name that one of some lines may be meant to give
abbrev pub mentions_given : List (ℕ × List ℕ) → List ℕ → Bool
mentions_given given line =
    list_any (λ t. is_name_front t && one_may_give given (front_name t)) (behind_dollars line)

-- a line mentions a name that none of some lines gives
abbrev pub mentions_unknown : List (ℕ × List ℕ) → List ℕ → Bool
mentions_unknown lines line =
    list_any (λ t. is_name_front t && not (one_gives lines (front_name t))) (behind_dollars line)

-- a `let` or a `for` without a `$`
abbrev pub is_plain_line : List ℕ → Bool
is_plain_line line =
    (is_some (let_words (text_words line)) || is_some (loop_words (text_words line)))
    && not (list_any (λ b. b == 36) line)

-- each of some lines that gives a name is such a line: what the name stands for hangs on no map
abbrev pub is_plain_name : List (ℕ × List ℕ) → List ℕ → Bool
is_plain_name lines name =
    list_all (λ l. not (gives_name name l.1) || is_plain_line l.1) lines

-- each `$` of a line stands before such a name; or, if places may stand in it, before a place, but
-- one of a thing
abbrev pub is_settled : Bool → List (ℕ × List ℕ) → List ℕ → Bool
is_settled places lines line =
    list_all (λ t. (is_name_front t && is_plain_name lines (front_name t))
    || (places && is_place_front t)) (behind_dollars line)

-- a word is `$NAME` or `$NAME.KIND`, and no sum
abbrev pub is_bare_word : List ℕ → Bool
is_bare_word [] = false
is_bare_word (b ∷ bs) = (b == 36) && list_all (λ b. is_script_name_byte b || (b == 46)) bs

-- each sum of a line hangs on no map
abbrev pub are_sums_settled : List (ℕ × List ℕ) → List ℕ → Bool
are_sums_settled lines line =
    list_all (λ word. is_bare_word word || is_settled false lines word) (text_words line)
