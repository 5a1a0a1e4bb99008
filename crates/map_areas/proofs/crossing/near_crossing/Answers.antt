use Rattle.std.proofs.Common.{◌∙◌, ◌+◌, ◌*◌, ℕ, FitsSigned, ap, ap₂, arith, rules, sym}
use Rattle.std.specs.Int.{w16}
use Rattle.std.specs.Prelude.{ℤ, ◌-ℤ◌, nat_abs}
use Rattle.lump_records.specs.declared.records.Vertex.{Vertex}
use Rattle.map_areas.proofs.Crossed.{on_x, on_y, reached, some_whole, whole_x, whole_y}
use Rattle.map_areas.proofs.crossing.near_crossing.Goals as goal

pub on_the_way-requires-clause-whole : goal.on_the_way-requires-clause-whole
on_the_way-requires-clause-whole c =
    let some = some_whole c.args.l.now c.args.k.now c.requires in
    omega (arith, some, c.far_from-before.ensures.far, c.far_from.ensures.far)

pub on_the_way-requires-2-clause-whole : goal.on_the_way-requires-2-clause-whole
on_the_way-requires-2-clause-whole c =
    let some = some_whole c.args.l.now c.args.k.now c.requires in
    omega (arith, some, c.far_from-before.ensures.far, c.far_from.ensures.far)

pub returns : goal.returns
returns c = λ p ol ok.
    let l = c.args.l.now in
    let k = c.args.k.now in
    let before = c.far_from-before.ensures.far in
    let behind = c.far_from.ensures.far in
    let fx : FitsSigned w16 l.from.x = search rules in
    let tx : FitsSigned w16 l.to.x = search rules in
    let rx : FitsSigned w16 c.on_the_way.result = search rules in
    let fy : FitsSigned w16 l.from.y = search rules in
    let ty : FitsSigned w16 l.to.y = search rules in
    let ry : FitsSigned w16 c.on_the_way-2.result = search rules in
    let x = reached l.from.x l.to.x p.x _ _ _ fx tx rx (on_x l p ol)
    (ap₂ (λ (a b : ℕ). nat_abs (p.x -ℤ l.from.x) * (a + b)) before behind ∙ whole_x l k p c.requires ol ok
    ∙ sym (ap (λ (a : ℕ). nat_abs (l.to.x -ℤ l.from.x) * a) before)) c.on_the_way.ensures in
    let y = reached l.from.y l.to.y p.y _ _ _ fy ty ry (on_y l p ol)
    (ap₂ (λ (a b : ℕ). nat_abs (p.y -ℤ l.from.y) * (a + b)) before behind ∙ whole_y l k p c.requires ol ok
    ∙ sym (ap (λ (a : ℕ). nat_abs (l.to.y -ℤ l.from.y) * a) before)) c.on_the_way-2.ensures in
    ap₂ (λ (a b : ℤ). let v : Vertex = record { x = a; y = b } in v) x y
