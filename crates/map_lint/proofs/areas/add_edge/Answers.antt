use Rattle.std.proofs.Common.{◌≡◌, ◌<◌, length, get_or, subst, sym, ◌∙◌, ℤ, pos, neg_ℤ, ◌+ℤ◌, ◌≤ℤ◌, ◌^◌, arith}
use Rattle.std.specs.Prelude.{FitsSigned}
use Rattle.std.specs.Int.{w64, w128}
use Rattle.std.proofs.lemmas.Int.{ints, to_z-of_z}
use Rattle.std.proofs.lemmas.List.{get_or_read}
use Rattle.map_lint.specs.Tallies.{IsNear}
use Rattle.map_lint.proofs.AreaSteps.{step_fits, adds_read}
use Rattle.map_lint.proofs.areas.add_edge.Goals as goal

pub overflow_add-index_mut : goal.overflow_add-index_mut
overflow_add-index_mut c =
    let old = c.args.areas.now.items in
    let n = c.from-n.result in
    let x = c.index_mut.result.now in
    let y = c.from.result in
    let read : x ≡ get_or old n (pos 0) = get_or_read old n x (omega (arith, c.requires.sector, c.from-n.ensures)) c.index_mut.ensures.value (pos 0) in
    let low : neg_ℤ (pos (2 ^ 48)) ≤ℤ y = omega (arith, ints, c.from.ensures, c.edge_area-area.ensures.low) in
    let high : y ≤ℤ pos (2 ^ 48) = omega (arith, ints, c.from.ensures, c.edge_area-area.ensures.high) in
    let fits = step_fits x y (subst (λ (z : ℤ). IsNear (2 ^ 101) (pos 0) z) (sym read) (c.requires.room.near n)) low high in
    rw (to_z-of_z w128 x fits.0, to_z-of_z w128 y fits.1) fits.2

pub returns : goal.returns
returns c =
    let m = c.args.map.now.tables in
    let old = c.args.areas.now.items in
    let n = c.from-n.result in
    let x = c.index_mut.result.now in
    let y = c.from.result in
    let within : n < length old = omega (arith, c.requires.sector, c.from-n.ensures) in
    let read : x ≡ get_or old n (pos 0) = get_or_read old n x within c.index_mut.ensures.value (pos 0) in
    let low : neg_ℤ (pos (2 ^ 48)) ≤ℤ y = omega (arith, ints, c.from.ensures, c.edge_area-area.ensures.low) in
    let high : y ≤ℤ pos (2 ^ 48) = omega (arith, ints, c.from.ensures, c.edge_area-area.ensures.high) in
    let fits = step_fits x y (subst (λ (z : ℤ). IsNear (2 ^ 101) (pos 0) z) (sym read) (c.requires.room.near n)) low high in
    let narrow : FitsSigned w64 c.edge_area-area.result = omega (arith, ints, c.edge_area-area.ensures.low, c.edge_area-area.ensures.high) in
    rw (to_z-of_z w128 x fits.0, to_z-of_z w128 y fits.1, to_z-of_z w128 (x +ℤ y) fits.2)
    (adds_read m (record { sector = c.args.sector; from = c.args.from; to = c.args.to }) old n x y c.from-n.ensures read
    (c.from.ensures ∙ to_z-of_z w64 c.edge_area-area.result narrow ∙ c.edge_area-area.ensures.value) low high within)
