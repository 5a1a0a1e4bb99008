use Rattle.std.proofs.Common.{◌≡◌, ◌≤◌, ◌∙◌, ap, sym, length, rules, arith}
use Rattle.std.specs.Option.{option_map_or}
use Rattle.wad_levels.specs.Drawn.{drawn_view}
use Rattle.wad_rebuild.specs.Kept.{kept_faults}
use Rattle.wad_rebuild.specs.Remade.{reject_over}
use Rattle.wad_rebuild.proofs.MadeLemmas.{blocks_refused, front_is, has_tree, made_over, tree_refused}
use Rattle.wad_rebuild.proofs.remade.made_of.Goals as goal

pub returns-in-Err-tree_over : goal.returns-in-Err-tree_over
returns-in-Err-tree_over c =
    let d = drawn_view c.args.drawn in
    let n : c.len-sectors.result ≡ length c.args.drawn.sectors.items = search rules in
    let few : length d.sectors ≤ 32767 = omega (arith, n) in
    tree_refused d c.front_of-front.result.now c.deref-4.result.now c.in-Err-tree_over.cause few
    (front_is d _ _ _ c.front_of-front.ensures c.deref-2.ensures.value c.deref-3.ensures.value) c.deref-4.ensures.value c.in-Err-tree_over.ensures.refused

pub returns-in-Err-blocks_over : goal.returns-in-Err-blocks_over
returns-in-Err-blocks_over c =
    let d = drawn_view c.args.drawn in
    let n : c.len-sectors.result ≡ length c.args.drawn.sectors.items = search rules in
    let few : length d.sectors ≤ 32767 = omega (arith, n) in
    let front = front_is d _ _ _ c.front_of-front.ensures c.deref-2.ensures.value c.deref-3.ensures.value in
    let tree = has_tree d c.front_of-front.result.now c.deref-4.result.now c.in-Ok-tree_over.tree front c.deref-4.ensures.value c.in-Ok-tree_over.ensures.built in
    blocks_refused d c.front_of-front.result.now c.deref-5.result.now c.in-Err-blocks_over.cause few tree front c.deref-5.ensures.value
    c.in-Err-blocks_over.ensures.refused

pub returns-in-Ok-lumps_of : goal.returns-in-Ok-lumps_of
returns-in-Ok-lumps_of c =
    let d = drawn_view c.args.drawn in
    let n : c.len-sectors.result ≡ length c.args.drawn.sectors.items = search rules in
    let own = c.deref.ensures.value in
    let reject = ap (λ o. option_map_or (λ v. v.items) o d.reject) c.in-Ok-lumps_of.ensures.reject
    ∙ ap (λ bytes. option_map_or (λ v. v.items) c.in-Ok.reject bytes) (sym own) ∙ (c.in-Ok.ensures.bytes ∙ (ap (λ k. reject_over k c.deref.result.now) n
    ∙ ap (reject_over (length d.sectors)) own)) in
    let kept = c.in-Ok-lumps_of.ensures.kept ∙ (c.in-Ok-kept_faults.ensures.list ∙ ap kept_faults c.deref-6.ensures.value) in
    made_over d c.front_of-front.result.now c.deref-4.result.now c.deref-5.result.now c.in-Ok-tree_over.tree c.in-Ok-lumps_of.made c.in-Ok-blocks_over.bytes.items
    (front_is d _ _ _ c.front_of-front.ensures c.deref-2.ensures.value c.deref-3.ensures.value) c.deref-4.ensures.value c.deref-5.ensures.value c.in-Ok-lumps_of.ensures.records c.in-Ok-tree_over.ensures.built
    c.in-Ok-blocks_over.ensures.bytes c.in-Ok-lumps_of.ensures.blockmap reject kept
