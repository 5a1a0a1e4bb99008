use Rattle.std.proofs.Common.{◌≡◌, List, Bool, ◌<◌, ◌+◌, ◌∙◌, ap, sym, subst, length, Some, false, arith}
use Rattle.std.proofs.lemmas.Option.{slice_get_within}
use Rattle.std.proofs.lemmas.List.{length-map}
use Rattle.map_tables.specs.Tables.{Tables}
use Rattle.tree_pieces.specs.declared.piece.Piece.{Piece}
use Rattle.tree_pieces.specs.Pieces.{IsPiece}
use Rattle.tree_pieces.specs.Edges.{edge_between, edges_of}
use Rattle.tree_choice.specs.SoFar.{SoFar, no_bound}
use Rattle.tree_choice.proofs.Best.{stands_at, taken, line_known, used_stays}
use Rattle.tree_choice.proofs.map_choice.consider.Goals as goal

within_used : (m : Tables) (used : List Bool) (p : Piece) → IsPiece (edges_of m) p → length used ≡ length m.lines → p.line < length used
within_used m used p h e = line_known (edges_of m) used p h (e ∙ sym (length-map m.lines (edge_between m.vertices)))

pub take_in-requires : goal.take_in-requires
take_in-requires c = let w = slice_get_within c.args.pieces.now c.args.at c.args.piece.now c.requires.stands in let f = c.requires.few in omega arith

pub returns : goal.returns
returns c =
    let lines = edges_of c.args.map.now.tables in
    let p = c.args.piece.now in
    let ps = c.args.pieces.now in
    let within = within_used c.args.map.now.tables c.args.used.now p c.requires.piece c.requires.known in
    let free = stands_at c.args.used.now p.line false within ∙ ap Some c.if-used-piece.false in
    subst (SoFar lines ps c.args.used.now no_bound (c.args.at + 1)) (sym c.take_in.ensures)
    (taken lines ps c.args.used.now no_bound c.args.at p c.requires.stands c.limit_of-limit.result c.args.best c.count_in_map-counted.result c.limit_of-limit.ensures c.requires.so_far free c.count_in_map-counted.ensures)

pub bounds-used-piece : goal.bounds-used-piece
bounds-used-piece c = within_used c.args.map.now.tables c.args.used.now c.args.piece.now c.requires.piece c.requires.known

pub returns-then-used-piece : goal.returns-then-used-piece
returns-then-used-piece c =
    let m = c.args.map.now.tables in
    let used = c.args.used.now in
    let p = c.args.piece.now in
    used_stays (edges_of m) c.args.pieces.now used no_bound c.args.at p c.requires.stands c.args.best
    (within_used m used p c.requires.piece c.requires.known) c.if-used-piece.true c.requires.so_far
