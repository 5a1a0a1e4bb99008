use Rattle.std.proofs.Common.{rules, sym, subst, All}
use Rattle.std.proofs.lemmas.List.Sorted.{All-permutation}
use Rattle.tree_pieces.specs.Pieces.{IsPiece}
use Rattle.tree_choice.proofs.Ended.{ended_in}
use Rattle.tests_levels.proofs.partition.chosen_by_place.Goals as goal

pub of-requires : goal.of-requires
of-requires g c =
    let each : All (IsPiece c.in_ok-edges.edges) c.in_ok-pieces.pieces.items = search rules in
    All-permutation (IsPiece c.in_ok-edges.edges) c.deref.result.now c.in_ok-placed.placed.items c.in_ok-placed.ensures
    (subst (All (IsPiece c.in_ok-edges.edges)) (sym c.deref.ensures.value) each)

pub blocks_of-requires-clause-list : goal.blocks_of-requires-clause-list
blocks_of-requires-clause-list g c =
    let e = c.as_slices-slices.ensures in
    let each : All (IsPiece c.in_ok-edges.edges) c.in_ok-pieces.pieces.items = search rules in
    let placed = All-permutation (IsPiece c.in_ok-edges.edges) c.deref.result.now c.in_ok-placed.placed.items c.in_ok-placed.ensures
    (subst (All (IsPiece c.in_ok-edges.edges)) (sym c.deref.ensures.value) each) in
    ended_in c.in_ok-edges.edges c.as_slices-slices.result c.in_ok-ordered.ordered
    (subst (All (IsPiece c.in_ok-edges.edges)) (sym c.in_ok-ordered.ensures.pieces) placed) c.in_ok-ordered.ensures.ends e.pieces e.firsts e.lasts
