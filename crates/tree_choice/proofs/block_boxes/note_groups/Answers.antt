use Rattle.std.proofs.Common.{◌≡◌, ◌+◌, ◌*◌, ◌-◌, ℕ, List, [], ◌∷◌, length, take, drop, sym, subst, ap, arith, All}
use Rattle.std.proofs.lemmas.List.{length-append}
use Rattle.lump_records.specs.declared.records.Bounds.{Bounds}
use Rattle.tree_choice.specs.Blocks.{IsWithinBox, AreGroups}
use Rattle.tree_choice.proofs.BoxLemmas.{one_more_group, group_round}
use Rattle.tree_choice.proofs.block_boxes.note_groups.Goals as goal

pub loop-g-preserved : goal.loop-g-preserved
loop-g-preserved c =
    let lines = c.args.lines.now in
    let ps = c.args.pieces.now in
    let g = c.loop-g.g in
    let b = c.joined_all-bounds.result in
    let i = c.loop-g.invariant in
    let made = i.made in
    let t = c.loop-g-test.true in
    let e = c.in-Ok.ensures.items in
    let size : (16 * g + 16) - 16 * g ≡ 16 = omega arith in
    let round : All (λ x. IsWithinBox x b) (take 16 (drop (16 * g) c.args.blocks.now))
    = subst (λ (n : ℕ). All (λ x. IsWithinBox x b) (take n (drop (16 * g) c.args.blocks.now))) size c.joined_all-bounds.ensures in
    let all = group_round lines ps c.args.blocks.now g b c.requires (omega arith) round in
    let l = ap (λ (xs : List Bounds). length xs) e in
    let n = length-append c.loop-g.groups.items (b ∷ []) in
    record {
      made = omega arith;
      groups = subst (AreGroups lines ps) (sym e) (one_more_group lines ps c.loop-g.groups.items g b i.groups made (omega arith) all);
    }
