use Rattle.std.proofs.lemmas.List.Sorted.{IsPermutation-refl}
use Rattle.tree_choice.proofs.choosing.choose_in_boxes.Goals as goal

pub choose_ordered-requires-clause-ordered : goal.choose_ordered-requires-clause-ordered
choose_ordered-requires-clause-ordered c = IsPermutation-refl c.args.list.now.pieces.now
