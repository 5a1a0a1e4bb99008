use Rattle.std.proofs.Common.{◌≡◌, sym, ap, ◌∙◌, arith}
use Rattle.map_plane.specs.Found.{stands_at}
use Rattle.map_plane.specs.Meeting.{is_at}
use Rattle.map_plane.proofs.LineReads.{is_there, none_yet, first_there, none_there}
use Rattle.map_plane.proofs.found.thing_at.Goals as goal

pub unwrap-thing-requires : goal.unwrap-thing-requires
unwrap-thing-requires c = is_there c.args.map.now.tables.things c.loop-n.n _ c.thing.ensures.item (omega arith)

pub returns-then-is_at : goal.returns-then-is_at
returns-then-is_at c =
    first_there (stands_at c.args.place) c.args.map.now.tables.things c.loop-n.n _ c.unwrap-thing.result
    (sym c.thing.ensures.item ∙ c.unwrap-thing.ensures) c.loop-n.invariant
    (ap (is_at c.args.place) (sym c.place.ensures) ∙ sym c.is_at.ensures ∙ c.if-is_at.true) (omega arith)

pub loop-n-preserved : goal.loop-n-preserved
loop-n-preserved c =
    none_yet (stands_at c.args.place) c.args.map.now.tables.things c.loop-n.n c.unwrap-thing.result
    (sym c.thing.ensures.item ∙ c.unwrap-thing.ensures) c.loop-n.invariant
    (ap (is_at c.args.place) (sym c.place.ensures) ∙ sym c.is_at.ensures ∙ c.if-is_at.false)

pub returns : goal.returns
returns c = none_there (stands_at c.args.place) c.args.map.now.tables.things c.loop-n.n (omega arith) c.loop-n.invariant
