-- The offsets so far are written.
use Rattle.std.specs.Prelude.{◌≡◌, ◌++◌, take, map, slice_index}
use Rattle.tree_blocks.specs.Layout.{word_bytes}
use Rattle.tree_blocks.proofs.layout.put_offsets.Given as goal

abbrev pub invariant-loop-place : goal.invariant-loop-place
invariant-loop-place l =
    l.bytes.items ≡ l.initial.bytes.items ++ word_bytes (map (λ place. slice_index l.starts place) (take l.place-index l.places))
