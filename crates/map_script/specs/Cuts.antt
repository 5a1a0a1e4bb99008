-- Where a sum is cut, and what stands between its parentheses.
use Rattle.std.specs.Prelude.{ℕ, zero, suc, Bool, ◌+◌, ◌-◌, ◌&&◌, ◌||◌, ◌==◌, not, nat_le, nat_lt, if◌then◌else◌, List, [], ◌∷◌, length, take, drop, slice_index, count_by, Option, Some, None}
use Rattle.map_tables.specs.declared.kind.Kind.{Kind}
use Rattle.map_commands.specs.Spelling.{kind_of}
use Rattle.map_script.specs.Names.{cut, has_places}

-- + - * or /
abbrev pub is_sign : ℕ → Bool
is_sign b = ((b == 43) || (b == 45)) || ((b == 42) || (b == 47))

-- as many parentheses are closed in a text as opened
abbrev pub is_balanced : List ℕ → Bool
is_balanced text = count_by (λ b. b == 40) text == count_by (λ b. b == 41) text

-- a sign at this index of a text has an operand in front of it
abbrev pub has_operand : List ℕ → ℕ → Bool
has_operand text i = nat_lt 0 i && not (is_sign (slice_index text (i - 1)))

-- at this index stands one of two signs, between operands and outside of parentheses
abbrev pub cuts : ℕ → ℕ → List ℕ → ℕ → Bool
cuts one other text i =
    ((slice_index text i == one) || (slice_index text i == other))
    && (has_operand text i && is_balanced (take i text))

-- the last such index below n
abbrev pub last_cut : ℕ → ℕ → List ℕ → ℕ → Option ℕ
last_cut one other text zero = None
last_cut one other text (suc n) =
    if cuts one other text n then Some n else last_cut one other text n

-- the first, or the second if there is none
abbrev pub or_second : Option ℕ → Option ℕ → Option ℕ
or_second (Some i) other = Some i
or_second None other = other

-- the sign that is reckoned last: the last + or -, or else the last * or /
abbrev pub cut_place : List ℕ → Option ℕ
cut_place text = or_second (last_cut 43 45 text (length text)) (last_cut 42 47 text (length text))

-- what stands behind a byte that a text begins with
abbrev pub behind_byte : ℕ → List ℕ → Option (List ℕ)
behind_byte first [] = None
behind_byte first (b ∷ bs) = if b == first then Some bs else None

-- what stands between the parentheses, if they enclose the text
abbrev pub inside : List ℕ → Option (List ℕ)
inside text =
    if nat_le 2 (length text)
    && ((slice_index text 0 == 40) && (slice_index text (length text - 1) == 41))
    then Some (take (length text - 2) (drop 1 text)) else None

-- ---- KIND(X,Y)

-- what stands in front of a `)` at the end of a text
abbrev pub before_end : List ℕ → Option (List ℕ)
before_end text =
    if nat_le 1 (length text) && (slice_index text (length text - 1) == 41)
    then Some (take (length text - 1) text) else None

-- X and Y of X,Y that is cut at an index, if items of the kind are at places
abbrev pub place_cut : Kind → List ℕ → Option ℕ → Option (Kind × List ℕ × List ℕ)
place_cut k places None = None
place_cut k places (Some i) =
    if has_places k then Some (k, take i places, drop (i + 1) places) else None

-- the same, if there are a kind and X,Y
abbrev pub place_of_kind : Option Kind → Option (List ℕ) → Option (Kind × List ℕ × List ℕ)
place_of_kind None places = None
place_of_kind (Some k) None = None
place_of_kind (Some k) (Some places) = place_cut k places (last_cut 44 44 places (length places))

-- the same of a kind and what stands behind its `(`
abbrev pub place_behind : List ℕ × Option (List ℕ) → Option (Kind × List ℕ × List ℕ)
place_behind (word, None) = None
place_behind (word, Some rest) = place_of_kind (kind_of word) (before_end rest)

-- the kind, X and Y of KIND(X,Y)
abbrev pub place_parts : List ℕ → Option (Kind × List ℕ × List ℕ)
place_parts text = place_behind (cut 40 text)
