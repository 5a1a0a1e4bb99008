use Rattle.std.proofs.Common.{◌≡◌, sym, ◌∙◌, arith}
use Rattle.map_plane.specs.Meeting.{is_at}
use Rattle.map_plane.proofs.LineReads.{is_there, none_yet, first_there, none_there}
use Rattle.map_plane.proofs.found.vertex_at.Goals as goal

pub unwrap-vertex-requires : goal.unwrap-vertex-requires
unwrap-vertex-requires c = is_there c.args.map.now.tables.vertices c.loop-n.n _ c.vertex.ensures.item (omega arith)

pub returns-then-is_at : goal.returns-then-is_at
returns-then-is_at c =
    first_there (is_at c.args.place) c.args.map.now.tables.vertices c.loop-n.n _ c.unwrap-vertex.result
    (sym c.vertex.ensures.item ∙ c.unwrap-vertex.ensures) c.loop-n.invariant (sym c.is_at.ensures ∙ c.if-is_at.true) (omega arith)

pub loop-n-preserved : goal.loop-n-preserved
loop-n-preserved c =
    none_yet (is_at c.args.place) c.args.map.now.tables.vertices c.loop-n.n c.unwrap-vertex.result
    (sym c.vertex.ensures.item ∙ c.unwrap-vertex.ensures) c.loop-n.invariant (sym c.is_at.ensures ∙ c.if-is_at.false)

pub returns : goal.returns
returns c = none_there (is_at c.args.place) c.args.map.now.tables.vertices c.loop-n.n (omega arith) c.loop-n.invariant
