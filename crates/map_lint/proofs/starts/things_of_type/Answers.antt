use Rattle.std.proofs.Common.{sym, ap, ◌∙◌, arith}
use Rattle.std.proofs.lemmas.List.Sums.{count_by_more_yes, count_by_more_no}
use Rattle.std.proofs.lemmas.Option.{slice_get_within, get_or_from_slice_get}
use Rattle.map_checks.proofs.ItemReads.{is_there}
use Rattle.map_lint.specs.Starts.{is_of_type}
use Rattle.map_lint.proofs.starts.things_of_type.Goals as goal
use Rattle.map_lint.proofs.starts.things_of_type.Goals.{then-is_of_type, else-is_of_type}

pub unwrap-thing-requires : goal.unwrap-thing-requires
unwrap-thing-requires c = is_there c.args.map.now.tables.things c.loop-n.n _ c.thing.ensures.item (omega arith)

pub loop-n-preserved : goal.loop-n-preserved
loop-n-preserved c =
    let things = c.args.map.now.tables.things in
    let n = c.loop-n.n in
    let thing = c.unwrap-thing.result in
    let p = is_of_type c.args.kind in
    let is = sym c.thing.ensures.item ∙ c.unwrap-thing.ensures in
    let within = slice_get_within things n thing is in
    let at = get_or_from_slice_get things n thing thing is in
    elim c.if-is_of_type.branch [
      | then-is_of_type w ↦ record {
        counted = omega (arith, w.count-is, c.loop-n.invariant.counted, count_by_more_yes p things n thing within (ap p at ∙ sym c.is_of_type.ensures ∙ w.if-is_of_type.true));
        few = omega (arith, w.count-is, c.loop-n.invariant.few);
      }
      | else-is_of_type w ↦ record {
        counted = omega (arith, w.count-is, c.loop-n.invariant.counted, count_by_more_no p things n thing within (ap p at ∙ sym c.is_of_type.ensures ∙ w.if-is_of_type.false));
        few = omega (arith, w.count-is, c.loop-n.invariant.few);
      }
    ]
