-- The words by which `lint` chooses what it prints (docs/COMMANDS.md, "lint").
use Rattle.std.specs.Prelude.{◌≡◌, Bool, List, [], ◌∷◌, Option, Some, codes, find, not, string_bytes, unwrap_or}
use Rattle.std.specs.List.{list_any}
use Rattle.std.specs.Option.{option_or}
use Rattle.std.specs.Str.{bytes_eq}
use Rattle.clap.specs.Words.{Row, Text, all_of}
use Rattle.cli_words.specs.declared.asked.RequestError.{RequestError}
use Rattle.cli_words.specs.declared.asked.RequestError.TheVariants.{NotARule, Memory}

-- the word of the lines of `check`, and those of the rules
abbrev pub rule_words : List Text
rule_words =
    codes "check" ∷ codes "no-start" ∷ codes "start-twice" ∷ codes "few-deathmatch-starts"
    ∷ codes "ceiling-below-floor" ∷ codes "tag-missing" ∷ codes "tag-of-no-sector"
    ∷ codes "tag-of-no-line" ∷ codes "line-special-unknown" ∷ codes "sector-special-unknown"
    ∷ codes "thing-type-unknown" ∷ codes "texture-hidden" ∷ codes "sector-inside-out"
    ∷ codes "line-crossed" ∷ codes "thing-outside" ∷ codes "door-without-back"
    ∷ codes "donut-without-back" ∷ codes "too-many-scrolls" ∷ codes "teleport-nowhere"
    ∷ codes "no-exit" ∷ codes "key-missing" ∷ codes "too-many-neighbours" ∷ codes "thing-stuck"
    ∷ codes "flat-unknown" ∷ codes "texture-unknown" ∷ codes "texture-short"
    ∷ codes "texture-patched" ∷ []

-- the word is one of these
unfoldable pub is_rule_word : Text → Bool
is_rule_word word = list_any (λ known. bytes_eq known word) rule_words

-- the first of the words that is none of these
abbrev pub unknown_word : List Text → Option Text
unknown_word words = find (λ word. not (is_rule_word word)) words

-- the texts of an argument that may be given any number of times
abbrev pub all_given : Text → List Row → List Text
all_given id rows = unwrap_or (all_of id rows) []

-- the first word of `--only`, or else of `--except`, that no rule has
abbrev pub unknown_given : List Row → Option Text
unknown_given rows =
    option_or (unknown_word (all_given (codes "only") rows))
    (unknown_word (all_given (codes "except") rows))

-- why the words of `--only` and `--except` can't be had: no rule has one, or there is no memory
abbrev pub RefusesChosen : List Row → RequestError → Type 0
RefusesChosen rows (NotARule word) = unknown_given rows ≡ Some (string_bytes word)
RefusesChosen rows Memory = Unit {0}
RefusesChosen rows _ = ⊥

-- `lint` is given this word first of those that no rule has
abbrev pub HasUnknownWord : Text → Text × List Row → Type 0
HasUnknownWord word asked =
    (asked.0 ≡ codes "lint") × (unknown_given asked.1 ≡ Some word)
