-- The command line of the program (docs/COMMANDS.md, "The program"), in clap's words.
use Rattle.std.specs.Prelude.{◌≡◌, ℕ, pos, Some, [], ◌∷◌, codes, true, false}
use Rattle.clap.specs.Words.{App, Rule, app_of, Text, new_app, new_rule, rule_of, with_rule, with_subcommand}
use Rattle.clap.specs.Simple.{on_top}
use Rattle.clap.specs.declared.builder.action.ArgAction.TheVariants.{Append, SetTrue}
use Rattle.clap.specs.declared.builder.arg.Arg.{Arg}
use Rattle.clap.specs.declared.builder.command.Command.{Command}
use Rattle.clap.specs.declared.builder.command.Command.TheViews.{out-Command}
use Rattle.clap.specs.declared.builder.value_parser.ValueParser.TheVariants as vp

-- the argument has this rule, and isn't global
pub record IsArg (a : Arg) (r : Rule) : Type 0 where
  pub rule : rule_of a ≡ r
  pub local : a.global ≡ false

-- the command has this shape, and no argument that its subcommands inherit
pub record IsCommand (c : Command) (a : App) : Type 0 where
  pub app : app_of c ≡ a
  pub local : (out-Command c).has_globals ≡ false

-- a required argument, with one name in the help
abbrev pub word_rule : Text → Rule
word_rule id = record (new_rule id) { required = true; value_names = 1 }

-- an optional argument, with one name in the help
abbrev pub last_rule : Text → Rule
last_rule id = record (new_rule id) { value_names = 1 }

-- any number of arguments at the end, with one name in the help
abbrev pub last_words_rule : Text → Rule
last_words_rule id = record (last_rule id) { action = Some Append }

-- the option `--ID N`, and the default for N
abbrev pub option_rule : Text → Text → Rule
option_rule id default =
    record (new_rule id) { long = Some id; defaults = default ∷ []; value_names = 1 }

-- the option `--ID NAME`
abbrev pub path_rule : Text → Rule
path_rule id = record (new_rule id) { long = Some id; value_names = 1 }

-- the option `--ID NAME`, which may be given any number of times
abbrev pub repeated_rule : Text → Rule
repeated_rule id = record (path_rule id) { action = Some Append }

-- the flag `--ID`
abbrev pub flag_rule : Text → Rule
flag_rule id = record (new_rule id) { long = Some id; action = Some SetTrue }

-- the option `--ID N`, with N within these limits
abbrev pub number_rule : Text → ℕ → ℕ → Text → Rule
number_rule id low high default =
    record (option_rule id default) { parser = Some (vp.Signed (pos low) (pos high)) }

-- `--slot N` and `--journal N`
abbrev pub slot_rule : Rule
slot_rule = number_rule (codes "slot") 33 2007015 (codes "262144")

abbrev pub journal_rule : Rule
journal_rule = number_rule (codes "journal") 512 1048576 (codes "65536")

-- a subcommand with one required argument
abbrev pub with_one_word : Text → Text → App
with_one_word name id = with_rule (new_app name) (word_rule id)

-- `create FILE [--slot N] [--journal N]`
abbrev pub create_app : App
create_app =
    with_rule (with_rule (with_one_word (codes "create") (codes "file")) slot_rule) journal_rule

-- `check FILE [MAP]`
abbrev pub check_app : App
check_app = with_rule (with_one_word (codes "check") (codes "file")) (last_rule (codes "map"))

-- `lint FILE [MAP] [--iwad WAD] [--only WORD].. [--except WORD]..`
abbrev pub lint_app : App
lint_app =
    with_rule (with_rule (with_rule (with_rule (with_one_word (codes "lint") (codes "file"))
    (last_rule (codes "map")))
    (path_rule (codes "iwad")))
    (repeated_rule (codes "only")))
    (repeated_rule (codes "except"))

-- `build FILE OUT`
abbrev pub build_app : App
build_app = with_rule (with_one_word (codes "build") (codes "file")) (word_rule (codes "out"))

-- `draw FILE [SCRIPT] [--check] [--verbose]`
abbrev pub draw_app : App
draw_app =
    with_rule (with_rule (with_rule (with_one_word (codes "draw") (codes "file"))
    (last_rule (codes "script")))
    (flag_rule (codes "check")))
    (flag_rule (codes "verbose"))

-- `dump FILE [NAME].. [--exact] [--salvage]`
abbrev pub dump_app : App
dump_app =
    with_rule (with_rule (with_rule (with_one_word (codes "dump") (codes "file"))
    (last_words_rule (codes "name")))
    (flag_rule (codes "exact")))
    (flag_rule (codes "salvage"))

-- `picture FILE [MAP] [--out OUT] [--numbers] [--nodes] [--lint] [--heights] [--grid] [--crop BOX]`
abbrev pub picture_app : App
picture_app =
    with_rule (with_rule (with_rule (with_rule (with_rule (with_rule (with_rule (with_rule
    (with_one_word (codes "picture") (codes "file"))
    (last_rule (codes "map")))
    (path_rule (codes "out")))
    (flag_rule (codes "numbers")))
    (flag_rule (codes "nodes")))
    (flag_rule (codes "lint")))
    (flag_rule (codes "heights")))
    (flag_rule (codes "grid")))
    (path_rule (codes "crop"))

-- `inspect WAD [NAME]`
abbrev pub inspect_app : App
inspect_app = with_rule (with_one_word (codes "inspect") (codes "wad")) (last_rule (codes "name"))

-- `rebuild IN OUT [--map NAME]..`
abbrev pub rebuild_app : App
rebuild_app =
    with_rule (with_rule (with_one_word (codes "rebuild") (codes "wad")) (word_rule (codes "out")))
    (repeated_rule (codes "map"))

-- the program with its subcommands
abbrev pub with_subcommands : App
with_subcommands =
    with_subcommand (with_subcommand (with_subcommand (with_subcommand (with_subcommand
    (with_subcommand (with_subcommand (with_subcommand (with_subcommand (with_subcommand
    (with_subcommand (new_app (codes "leveled"))
    (new_app (codes "scratch")).top)
    create_app.top)
    (with_one_word (codes "edit") (codes "file")).top)
    check_app.top)
    lint_app.top)
    draw_app.top)
    dump_app.top)
    picture_app.top)
    inspect_app.top)
    build_app.top)
    rebuild_app.top

-- the program's command line: a subcommand is required, and `help` isn't one
abbrev pub leveled_app : App
leveled_app =
    on_top
    (λ s. record s {
      has_version = true;
      subcommand_required = true;
      disable_help_subcommand =
          true;
    })
    with_subcommands
