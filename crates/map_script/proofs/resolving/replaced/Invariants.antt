use Rattle.std.proofs.Common.{◌≡◌, [], length}
use Rattle.map_script.specs.Known.{scope_of}
use Rattle.map_script.specs.Lines.{words_for}
use Rattle.map_script.specs.Words.{text_words}
use Rattle.map_script.proofs.Replacing.{behind}
use Rattle.map_script.proofs.resolving.replaced.Given as goal

-- the words so far, followed by what the rest stands for, are what the command stands for
abbrev pub invariant-loop-word : goal.invariant-loop-word
invariant-loop-word l =
    behind l.text.items (words_for (scope_of l.names) l.map.tables (text_words l.rest))
    ≡ behind [] (words_for (scope_of l.names) l.map.tables (text_words l.fn.command))

abbrev pub decreases-loop-word : goal.decreases-loop-word
decreases-loop-word l = length l.rest
