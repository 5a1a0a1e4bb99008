-- What a contract sees of a line that is being read, and of one that is being written.
use Rattle.std.specs.Prelude.{◌≡◌, ℕ, List, ◌++◌, option_copied, string_bytes}
use Rattle.map_commands.specs.Errors.{code_in}
use Rattle.map_words.specs.Words.{parts_behind}
use Rattle.map_commands.specs.Reading.{Reading}
use Rattle.map_commands.specs.declared.unread.UnreadWords.{UnreadWords}
use Rattle.map_commands.specs.declared.text.Text.{Text}

-- the words still to be read, and the fault so far
abbrev pub reading : UnreadWords → Reading
reading p = record { words = parts_behind (option_copied p.rest); fault = code_in p.fault }

-- the line as far as it has been written
abbrev pub written : Text → List ℕ
written t = string_bytes t.line

-- the text was written behind what there was
pub record Adds (old new : Text) (text : List ℕ) : Type 0 where
  pub line : written new ≡ written old ++ text
