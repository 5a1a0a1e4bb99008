-- The words of the script language itself.
use Rattle.std.specs.Prelude.{ℕ, Bool, ◌||◌, List, bytes_eq}
use Rattle.std.specs.List.{list_any}
use Rattle.std.specs.Option.{is_some}
use Rattle.map_commands.specs.Grammar.{head_of}
use Rattle.map_script.specs.declared.own_words.TheConstants.{OWN_WORDS}

-- whether a word is one of the language itself: the first word of a command, or another one
unfoldable pub is_own_word : List ℕ → Bool
is_own_word word =
    is_some (head_of word) || list_any (λ own. bytes_eq own.now word) OWN_WORDS.now
