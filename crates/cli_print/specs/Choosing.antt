-- What `lint` is to look for in maps, and which of its lines are asked for (docs/COMMANDS.md, "lint").
use Rattle.std.specs.Prelude.{◌&&◌, ◌||◌, ◌==◌, ℕ, Bool, Option, List, codes, filter, if◌then◌else◌, length, map, not, option_map, string_bytes, []}
use Rattle.std.specs.List.{list_any}
use Rattle.std.specs.Option.{option_copied}
use Rattle.std.specs.Str.{bytes_eq}
use Rattle.map_checks.specs.declared.finding.Finding.{Finding}
use Rattle.map_lint.specs.Texts.{word_of}
use Rattle.map_lint.specs.declared.warning.Warning.{Warning}
use Rattle.wad_levels.specs.Graphics.{GraphicNames, graphics_view}
use Rattle.cli_print.specs.declared.choosing.Choice.{Choice}
use Rattle.cli_print.specs.declared.choosing.Wants.{Wants}

-- the words of the lines that are asked for, all if there are none, and of those that aren't
pub record ChosenWords : Type 0 where
  pub only : List (List ℕ)
  pub except : List (List ℕ)

-- the names of a WAD's flats and textures, where one is given, and the words
pub record LintWants : Type 0 where
  pub names : Option GraphicNames
  pub words : ChosenWords

-- the words that a `Choice` holds
abbrev pub choice_view : Choice → ChosenWords
choice_view c = record {
  only = map string_bytes c.only.now;
  except = map string_bytes c.except.now;
}

-- what a `Wants` holds
abbrev pub wants_view : Wants → LintWants
wants_view w = record {
  names = option_map graphics_view (option_copied w.names);
  words = choice_view w.choice;
}

-- the word is one of the words
abbrev pub is_word_among : List (List ℕ) → List ℕ → Bool
is_word_among words word = list_any (λ w. bytes_eq w word) words

-- the lines with this word are asked for
abbrev pub is_chosen : ChosenWords → List ℕ → Bool
is_chosen c word =
    ((length c.only == 0) || is_word_among c.only word) && not (is_word_among c.except word)

-- these findings, if the lines of `check` are asked for
abbrev pub chosen_findings : ChosenWords → List Finding → List Finding
chosen_findings c found = if is_chosen c (codes "check") then found else []

-- of these warnings those whose lines are asked for
abbrev pub chosen_warnings : ChosenWords → List Warning → List Warning
chosen_warnings c warned = filter (λ w. is_chosen c (word_of w.rule)) warned
