use Rattle.tree_choice.proofs.FarPlaces.{add_fits, are_margins, sub_fits}
use Rattle.tree_choice.proofs.margins.margins_of.Goals as goal

pub overflow_add-result : goal.overflow_add-result
overflow_add-result c =
    let o = c.value_of-origin.ensures in
    let h = c.half_of-half.ensures in
    add_fits c.value_of-origin.result c.half_of-half.result (record { low = o.low; high = o.high }) h.low h.high

pub overflow_sub-result : goal.overflow_sub-result
overflow_sub-result c =
    let o = c.value_of-origin.ensures in
    let h = c.half_of-half.ensures in
    sub_fits c.value_of-origin.result c.half_of-half.result (record { low = o.low; high = o.high }) h.low h.high

pub returns-clause-margins : goal.returns-clause-margins
returns-clause-margins c =
    let o = c.value_of-origin.ensures in
    let h = c.half_of-half.ensures in
    are_margins c.args.ray c.normal_of-normal.result c.value_of-origin.result c.half_of-half.result c.requires c.normal_of-normal.ensures o.value (record { low = o.low; high = o.high }) h.enough h.low h.high
