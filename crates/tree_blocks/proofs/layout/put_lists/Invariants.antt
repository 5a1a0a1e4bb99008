-- The lists so far are written.
use Rattle.std.specs.Prelude.{◌≡◌, ◌++◌, take, flat_map, map}
use Rattle.tree_blocks.specs.Layout.{word_bytes, list_words}
use Rattle.tree_blocks.proofs.layout.put_lists.Given as goal

abbrev pub invariant-loop-list : goal.invariant-loop-list
invariant-loop-list l =
    l.bytes.items ≡ l.initial.bytes.items ++ word_bytes (flat_map list_words (take l.list-index (map (λ k. k.now) l.lists)))
