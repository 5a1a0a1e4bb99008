use Rattle.std.specs.Prelude.{◌≡◌, ◌++◌, flat_map}
use Rattle.std.specs.List.{range_with_len}
use Rattle.map_picture.specs.Labels.{label_of, number_size, on_page}
use Rattle.map_picture.proofs.labels.add_labels.Given as goal

-- the numbers of the items so far have been added
abbrev pub invariant-loop-n : goal.invariant-loop-n
invariant-loop-n l =
    l.labels.items ≡ l.fn.labels.items ++ flat_map (λ n. on_page l.view (label_of l.map.tables l.view.step (number_size l.map.tables l.view) l.item n)) (range_with_len 0 l.n)
