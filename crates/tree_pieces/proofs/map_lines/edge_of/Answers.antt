use Rattle.std.proofs.Common.{◌≡◌, sym, ap, ◌∙◌, arith, slice_get, Some}
use Rattle.map_tables.specs.WellFormed.{HasEnds}
use Rattle.tree_pieces.specs.Plane.{IsEdge}
use Rattle.tree_pieces.specs.Pieces.{no_edge}
use Rattle.tree_pieces.specs.Edges.{edge_between, edges_of}
use Rattle.tree_pieces.proofs.FirstList.{index_is}
use Rattle.tree_pieces.proofs.Lists.{All-at}
use Rattle.tree_pieces.proofs.EdgeLemmas.{as_many}
use Rattle.tree_pieces.proofs.ItemReads.{is_there, at_some, mapped_at}
use Rattle.tree_pieces.proofs.map_lines.edge_of.Goals as goal
use Rattle.tree_pieces.proofs.map_lines.edge_of.Goals.{After-edge_between}

pub unwrap-line-requires : goal.unwrap-line-requires
unwrap-line-requires c = let e = c.from.ensures in let h = c.requires in let m =
    as_many c.args.map.now.tables in is_there c.args.map.now.tables.lines c.from.result c.line.result c.line.ensures.item (omega arith)

pub edge_between-requires : goal.edge_between-requires
edge_between-requires c = at_some (HasEnds c.args.map.now.tables.vertices) c.unwrap-line.result c.unwrap-line.ensures c.line.ensures.ends

-- the edge stands at its line's number
stands : (c : After-edge_between) → slice_get (edges_of c.args.map.now.tables) c.args.line ≡ Some c.edge_between.result
stands c =
    let m = c.args.map.now.tables in
    mapped_at (edge_between m.vertices) m.lines c.args.line c.unwrap-line.result (ap (slice_get m.lines) (sym c.from.ensures) ∙ sym c.line.ensures.item ∙ c.unwrap-line.ensures)
    ∙ ap Some (sym c.edge_between.ensures)

pub returns-clause-value : goal.returns-clause-value
returns-clause-value c = sym (index_is (edges_of c.args.map.now.tables) c.args.line no_edge c.edge_between.result (stands c))

pub returns-clause-drawn : goal.returns-clause-drawn
returns-clause-drawn c = All-at IsEdge (edges_of c.args.map.now.tables) c.args.line c.edge_between.result c.lines_are_drawn.ensures.drawn (stands c)
