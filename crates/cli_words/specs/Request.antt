-- What the program's arguments ask for (docs/COMMANDS.md, "The program").
use Rattle.std.specs.Prelude.{◌≡◌, ◌<◌, ◌≤◌, ◌⊎◌, ℕ, Bool, Some, None, List, [], codes, length, map, option_map, string_bytes, true, false, IsSomeAnd}
use Rattle.std.specs.Option.{option_map_or}
use Rattle.std.specs.Str.{bytes_eq}
use Rattle.std.specs.Str.Parse.{IsNumeral, digits_value, without_leading_plus}
use Rattle.clap.specs.Words.{HasKind, fault_of, first_of, Row, Text, one_of, subcommand_of, takes}
use Rattle.clap.specs.Values.{kind_of}
use Rattle.clap.specs.declared.error.kind.ErrorKind.TheVariants.{OutOfMemory}
use Rattle.cli_words.specs.App.{leveled_app}
use Rattle.cli_words.specs.Boxes.{HasNoBox, IsCropAsked}
use Rattle.cli_words.specs.RuleWords.{HasUnknownWord, all_given, unknown_given}
use Rattle.cli_words.specs.declared.asked.Request.{Request}
use Rattle.cli_words.specs.declared.asked.RequestError.{RequestError}
use Rattle.cli_words.specs.declared.asked.RequestError.TheVariants.{Words, Help, Number, WholeAlone, NotARule, NotABox, Memory}
use Rattle.cli_words.specs.declared.asked.Request.TheVariants.{Scratch, Create, Edit, Check, Lint, Draw, TryScript, Dump, Salvage, Picture, Inspect, Levels, Build, Rebuild}

-- the argument's text is this number in decimal digits, and it is within the limits
pub record HasNumber (id : Text) (rows : List Row) (low high n : ℕ) : Type 0 where
  pub text : Text
  pub given : one_of id rows ≡ Some text
  pub numeral : IsNumeral 10 (without_leading_plus text)
  pub is : n ≡ digits_value 10 (without_leading_plus text)
  pub least : low ≤ n
  pub most : n ≤ high

-- the argument has no number within its limits
abbrev pub LacksNumber : Text → List Row → ℕ → ℕ → Type 0
LacksNumber id rows low high = (n : ℕ) → ¬ HasNumber id rows low high n

-- whether a flag was given: its text is then `true` for clap
abbrev pub is_given : Text → List Row → Bool
is_given id rows = option_map_or (λ text. bytes_eq text (codes "true")) (first_of id rows) false

-- the request is for this subcommand, with these values of its arguments
abbrev pub AsksFor : Request → Text × List Row → Type 0
AsksFor Scratch asked = asked.0 ≡ codes "scratch"
AsksFor (Create file slot journal) asked = (asked.0 ≡ codes "create")
    × (first_of (codes "file") asked.1 ≡ Some (string_bytes file))
    × HasNumber (codes "slot") asked.1 33 2007015 slot
    × HasNumber (codes "journal") asked.1 512 1048576 journal
AsksFor (Edit file) asked =
    (asked.0 ≡ codes "edit") × (first_of (codes "file") asked.1 ≡ Some (string_bytes file))
AsksFor (Check file map) asked = (asked.0 ≡ codes "check")
    × (first_of (codes "file") asked.1 ≡ Some (string_bytes file))
    × (first_of (codes "map") asked.1 ≡ option_map string_bytes map)
AsksFor (Lint file map-name iwad only except) asked = (asked.0 ≡ codes "lint")
    × (first_of (codes "file") asked.1 ≡ Some (string_bytes file))
    × (first_of (codes "map") asked.1 ≡ option_map string_bytes map-name)
    × (first_of (codes "iwad") asked.1 ≡ option_map string_bytes iwad)
    × (map string_bytes only.items ≡ all_given (codes "only") asked.1)
    × (map string_bytes except.items ≡ all_given (codes "except") asked.1)
    × (unknown_given asked.1 ≡ None)
AsksFor (Draw file script verbose) asked = (asked.0 ≡ codes "draw")
    × (is_given (codes "check") asked.1 ≡ false)
    × (first_of (codes "file") asked.1 ≡ Some (string_bytes file))
    × (first_of (codes "script") asked.1 ≡ option_map string_bytes script)
    × (verbose ≡ is_given (codes "verbose") asked.1)
AsksFor (TryScript script over verbose) asked = (asked.0 ≡ codes "draw")
    × (is_given (codes "check") asked.1 ≡ true)
    × (first_of (codes "file") asked.1 ≡ Some (string_bytes script))
    × (first_of (codes "script") asked.1 ≡ option_map string_bytes over)
    × (verbose ≡ is_given (codes "verbose") asked.1)
AsksFor (Dump file names exact) asked = (asked.0 ≡ codes "dump")
    × (is_given (codes "salvage") asked.1 ≡ false)
    × (first_of (codes "file") asked.1 ≡ Some (string_bytes file))
    × (map string_bytes names.items ≡ all_given (codes "name") asked.1)
    × (exact ≡ is_given (codes "exact") asked.1)
AsksFor (Salvage file) asked = (asked.0 ≡ codes "dump")
    × (is_given (codes "salvage") asked.1 ≡ true)
    × (first_of (codes "file") asked.1 ≡ Some (string_bytes file))
    × (all_given (codes "name") asked.1 ≡ [])
    × (is_given (codes "exact") asked.1 ≡ false)
AsksFor (Picture file map out numbers nodes lint heights grid crop) asked = (asked.0 ≡ codes "picture")
    × (first_of (codes "file") asked.1 ≡ Some (string_bytes file))
    × (first_of (codes "map") asked.1 ≡ option_map string_bytes map)
    × (first_of (codes "out") asked.1 ≡ option_map string_bytes out)
    × (numbers ≡ is_given (codes "numbers") asked.1)
    × (nodes ≡ is_given (codes "nodes") asked.1)
    × (lint ≡ is_given (codes "lint") asked.1)
    × (heights ≡ is_given (codes "heights") asked.1)
    × (grid ≡ is_given (codes "grid") asked.1)
    × IsCropAsked (first_of (codes "crop") asked.1) crop
AsksFor (Build file out) asked = (asked.0 ≡ codes "build")
    × (first_of (codes "file") asked.1 ≡ Some (string_bytes file))
    × (first_of (codes "out") asked.1 ≡ Some (string_bytes out))
AsksFor (Rebuild wad out maps) asked = (asked.0 ≡ codes "rebuild")
    × (first_of (codes "wad") asked.1 ≡ Some (string_bytes wad))
    × (first_of (codes "out") asked.1 ≡ Some (string_bytes out))
    × (map string_bytes maps.items ≡ all_given (codes "map") asked.1)
AsksFor (Inspect wad name) asked = (asked.0 ≡ codes "inspect")
    × (first_of (codes "wad") asked.1 ≡ Some (string_bytes wad))
    × (first_of (codes "name") asked.1 ≡ Some (string_bytes name))
AsksFor (Levels wad) asked = (asked.0 ≡ codes "inspect")
    × (first_of (codes "wad") asked.1 ≡ Some (string_bytes wad))
    × (first_of (codes "name") asked.1 ≡ None)

-- the name is a subcommand's
abbrev pub IsSubcommand : Text → Type 0
IsSubcommand name =
    (name ≡ codes "scratch") ⊎ (name ≡ codes "create") ⊎ (name ≡ codes "edit")
    ⊎ (name ≡ codes "check") ⊎ (name ≡ codes "lint") ⊎ (name ≡ codes "draw")
    ⊎ (name ≡ codes "dump") ⊎ (name ≡ codes "picture") ⊎ (name ≡ codes "inspect")
    ⊎ (name ≡ codes "build") ⊎ (name ≡ codes "rebuild")

-- the subcommand's first argument is a WAD
abbrev pub IsOverWad : Text → Type 0
IsOverWad name = (name ≡ codes "inspect") ⊎ (name ≡ codes "rebuild")

-- the subcommand's first argument is FILE: a project or a WAD, or the script that is to be tried
abbrev pub IsOverFile : Text → Type 0
IsOverFile name = (¬ (name ≡ codes "scratch")) × (¬ IsOverWad name)

-- the subcommand writes a WAD
abbrev pub IsIntoWad : Text → Type 0
IsIntoWad name = (name ≡ codes "build") ⊎ (name ≡ codes "rebuild")

-- why an argument's text can't be had: it has none, or there is no memory for a copy
abbrev pub RefusesText : Text → List Row → RequestError → Type 0
RefusesText id rows (Words error) = ⊥
RefusesText id rows (Help topic) = ⊥
RefusesText id rows WholeAlone = ⊥
RefusesText id rows (NotARule word) = ⊥
RefusesText id rows (NotABox text) = ⊥
RefusesText id rows Number = first_of id rows ≡ None
RefusesText id rows Memory = Unit {0}

-- clap accepted arguments that lack a path which the subcommand requires, or a number within the
-- limits of `create`
abbrev pub LacksValue : Text × List Row → Type 0
LacksValue asked = (IsOverFile asked.0 × (first_of (codes "file") asked.1 ≡ None))
    ⊎ (IsOverWad asked.0 × (first_of (codes "wad") asked.1 ≡ None))
    ⊎ (IsIntoWad asked.0 × (first_of (codes "out") asked.1 ≡ None))
    ⊎ ((asked.0 ≡ codes "create")
    × (LacksNumber (codes "slot") asked.1 33 2007015
    ⊎ LacksNumber (codes "journal") asked.1 512 1048576))

-- `dump --salvage` has a name or `--exact`
abbrev pub HasMoreThanFile : Text × List Row → Type 0
HasMoreThanFile asked =
    (asked.0 ≡ codes "dump") × (is_given (codes "salvage") asked.1 ≡ true)
    × ((is_given (codes "exact") asked.1 ≡ true)
    ⊎ (0 < length (all_given (codes "name") asked.1)))

-- why the values of a subcommand's arguments are refused
abbrev pub RefusesValues : Text × List Row → RequestError → Type 0
RefusesValues asked (Words error) = ⊥
RefusesValues asked (Help topic) = ⊥
RefusesValues asked Number = LacksValue asked
RefusesValues asked WholeAlone = HasMoreThanFile asked
RefusesValues asked (NotARule word) = HasUnknownWord (string_bytes word) asked
RefusesValues asked (NotABox text) = HasNoBox (string_bytes text) asked
RefusesValues asked Memory = Unit {0}

-- Why the arguments are refused. clap's error is a fault that it names for these arguments, and for
-- arguments that its simple command takes it is lack of memory. `Number` means that clap accepted an
-- argument without a value within its limits.
abbrev pub RefusesRead : List Text → RequestError → Type 0
RefusesRead words (Words error) =
    HasKind (fault_of leveled_app words) error
    × (takes leveled_app words ≡ true → kind_of error ≡ OutOfMemory)
RefusesRead words (Help topic) = ⊥
RefusesRead words Number = IsSomeAnd (subcommand_of leveled_app words) LacksValue
RefusesRead words WholeAlone = IsSomeAnd (subcommand_of leveled_app words) HasMoreThanFile
RefusesRead words (NotARule word) =
    IsSomeAnd (subcommand_of leveled_app words) (HasUnknownWord (string_bytes word))
RefusesRead words (NotABox text) =
    IsSomeAnd (subcommand_of leveled_app words) (HasNoBox (string_bytes text))
RefusesRead words Memory = Unit {0}
