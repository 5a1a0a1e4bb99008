use Rattle.std.proofs.Common.{sym, ap, ◌∙◌, arith, slice_get}
use Rattle.std.proofs.lemmas.Option.{get_or_from_slice_get}
use Rattle.tree_pieces.specs.Pieces.{no_edge}
use Rattle.tree_pieces.proofs.ItemReads.{is_there}
use Rattle.tree_pieces.proofs.map_lines.vertex_of.Goals as goal

pub unwrap-requires : goal.unwrap-requires
unwrap-requires c = let e = c.from.ensures in let h = c.requires in is_there c.args.map.now.tables.vertices c.from.result c.vertex.result c.vertex.ensures.item (omega arith)

pub returns : goal.returns
returns c =
    let vs = c.args.map.now.tables.vertices in
    sym (get_or_from_slice_get vs c.args.n c.unwrap.result no_edge.v1 (ap (slice_get vs) (sym c.from.ensures) ∙ sym c.vertex.ensures.item ∙ c.unwrap.ensures))
