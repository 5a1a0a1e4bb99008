use Rattle.std.proofs.Common.{arith, sym, subst, map, length, string_bytes}
use Rattle.std.specs.List.{range_with_len}
use Rattle.std.specs.List.Sorted.{IsPermutation}
use Rattle.wad_rebuild.proofs.InTurn.{all_in_turn, next_among, next_in_turn, none_in_turn}
use Rattle.wad_rebuild.proofs.levels.rebuilt_by.Goals as goal

pub index-requires : goal.index-requires
index-requires c =
    let among =
    next_among c.args.wad.now (map string_bytes c.args.names.now) c.args.levels.now c.deref-number-items.result.now c.loop-number.number-index 0 c.loop-number.rebuilt.items c.loop-number.invariant
    (subst (IsPermutation (range_with_len 0 (length c.args.levels.now))) (sym c.deref-number-items.ensures.value) c.in_ok-order.ensures.order) c.loop-number-test.true in
    let many = c.loop-number.rebuilt.ok in
    omega (arith, among, many)

pub index_mut-requires : goal.index_mut-requires
index_mut-requires c =
    let among =
    next_among c.args.wad.now (map string_bytes c.args.names.now) c.args.levels.now c.deref-number-items.result.now c.loop-number.number-index 0 c.loop-number.rebuilt.items c.loop-number.invariant
    (subst (IsPermutation (range_with_len 0 (length c.args.levels.now))) (sym c.deref-number-items.ensures.value) c.in_ok-order.ensures.order) c.loop-number-test.true in
    let many = c.loop-number.rebuilt.ok in
    omega (arith, among, many)

pub loop-number-init : goal.loop-number-init
loop-number-init c =
    none_in_turn c.args.wad.now (map string_bytes c.args.names.now) c.args.levels.now c.deref-number-items.result.now c.in_ok-rebuilt.rebuilt.items c.in_ok-rebuilt.ensures.levels c.in_ok-rebuilt.ensures.names

pub loop-number-preserved : goal.loop-number-preserved
loop-number-preserved c =
    next_in_turn c.args.wad.now (map string_bytes c.args.names.now) c.args.levels.now c.args.last.now c.deref-number-items.result.now c.loop-number.number-index 0 c.loop-number.rebuilt.items
    c.index_mut.result.now c.index.result.now c.in_ok-fate.fate c.is_asked_of-is_asked.result c.loop-number.invariant
    (subst (IsPermutation (range_with_len 0 (length c.args.levels.now))) (sym c.deref-number-items.ensures.value) c.in_ok-order.ensures.order) c.loop-number-test.true
    c.index_mut.ensures.value c.index.ensures c.in_ok-fate.ensures.fate c.is_asked_of-is_asked.ensures c.requires.last

pub returns-clause-rebuilt : goal.returns-clause-rebuilt
returns-clause-rebuilt c =
    all_in_turn c.args.wad.now (map string_bytes c.args.names.now) c.args.levels.now c.deref-number-items.result.now c.loop-number.number-index c.loop-number.rebuilt.items c.requires.levels
    (subst (IsPermutation (range_with_len 0 (length c.args.levels.now))) (sym c.deref-number-items.ensures.value) c.in_ok-order.ensures.order) c.loop-number.invariant c.loop-number-test.false
