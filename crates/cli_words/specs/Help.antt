-- How arguments that ask for help are read, and why arguments are no request.
use Rattle.std.specs.Prelude.{◌≡◌, List, [], ◌∷◌, None, Option, Some, codes, if◌then◌else◌}
use Rattle.std.specs.Str.{bytes_eq}
use Rattle.clap.specs.Words.{Text}
use Rattle.cli_words.specs.Request.{RefusesRead}
use Rattle.cli_words.specs.declared.asked.RequestError.{RequestError}
use Rattle.cli_words.specs.declared.asked.RequestError.TheVariants.{Help}
use Rattle.cli_words.specs.declared.topic.Topic.{Topic}
use Rattle.cli_words.specs.declared.topic.Topic.TheVariants.{Codes, Scripts}

-- the argument itself, or `--help` for `help`
abbrev pub help_option : Text → Text
help_option word = if bytes_eq word (codes "help") then codes "--help" else word

-- the arguments as clap reads them: `--help` for `help`, `NAME --help` for `help NAME`
abbrev pub without_help : List Text → List Text
without_help (program ∷ word ∷ []) = program ∷ help_option word ∷ []
without_help (program ∷ word ∷ name ∷ []) =
    if bytes_eq word (codes "help") then program ∷ name ∷ codes "--help" ∷ []
    else program ∷ word ∷ name ∷ []
without_help words = words

-- the topic with the name
abbrev pub topic_of : Text → Option Topic
topic_of name =
    if bytes_eq name (codes "codes") then Some Codes
    else (if bytes_eq name (codes "scripts") then Some Scripts else None)

-- the arguments are `help` and the topic's name
abbrev pub AsksForTopic : List Text → Topic → Type 0
AsksForTopic words topic = (program name : Text)
    × (words ≡ program ∷ codes "help" ∷ name ∷ []) × (topic_of name ≡ Some topic)

-- why the arguments are no request: they ask for a topic, or clap refuses what they are read as
abbrev pub IsRefusal : List Text → RequestError → Type 0
IsRefusal words (Help topic) = AsksForTopic words topic
IsRefusal words error =
    ((topic : Topic) → ¬ AsksForTopic words topic) × RefusesRead (without_help words) error
