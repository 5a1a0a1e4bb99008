use Rattle.std.specs.Prelude.{◌≡◌, ◌++◌, take}
use Rattle.tree_blocks.specs.Layout.{word_bytes}
use Rattle.tree_blocks.proofs.layout.put_words.Given as goal

abbrev pub invariant-loop-word : goal.invariant-loop-word
invariant-loop-word l = l.bytes.items ≡ l.initial.bytes.items ++ word_bytes (take l.word-index l.words)
