-- A block within a block: its places are placed by it, then by the block around it.
use Rattle.std.proofs.Common.{◌≡◌, Bool, true, false, cond, ◌&&◌, refl, ◌∙◌, ap, sym, arith, Option, Some, None, Result, Ok, Err}
use Rattle.std.specs.Prelude.{ℤ, ◌+ℤ◌, IfOk}
use Rattle.std.specs.Int.RustNames.{int_le}
use Rattle.lump_records.specs.declared.limits.TheConstants.{GREATEST_COORDINATE, LEAST_COORDINATE}
use Rattle.std.proofs.Math.IntN.{neg_ℤ-neg_ℤ}
use Rattle.lump_records.proofs.Signs.{linear}
use Rattle.lump_records.specs.declared.records.Vertex.{Vertex}
use Rattle.map_script.specs.Placings.{IsPlacedWithin, coordinate_of, faced, placed_to, turned_place, vertex_of}
use Rattle.map_script.specs.Ats.{placing_to, placing_within}
use Rattle.map_script.specs.declared.error.DrawError.{DrawError}
use Rattle.map_script.specs.declared.placing.Facing.{Facing}
use Rattle.map_script.specs.declared.placing.Facing.TheVariants.{East, North, West, South}
use Rattle.map_script.specs.declared.placing.Placing.{Placing}

vertex_is : (v w : Vertex) → v.x ≡ w.x → v.y ≡ w.y → v ≡ w
vertex_is v w x y = λ i. record { x = x i; y = y i }

-- one turn after another is both
turned_twice : (o i : Facing) (v : Vertex) → turned_place (faced o i) v ≡ turned_place o (turned_place i v)
turned_twice East i v = refl
turned_twice North East v = refl
turned_twice North North v = refl
turned_twice North West v = vertex_is _ _ (sym (neg_ℤ-neg_ℤ v.y)) refl
turned_twice North South v = vertex_is _ _ (sym (neg_ℤ-neg_ℤ v.x)) refl
turned_twice West East v = refl
turned_twice West North v = vertex_is _ _ (sym (neg_ℤ-neg_ℤ v.y)) refl
turned_twice West West v = vertex_is _ _ (sym (neg_ℤ-neg_ℤ v.x)) (sym (neg_ℤ-neg_ℤ v.y))
turned_twice West South v = vertex_is _ _ refl (sym (neg_ℤ-neg_ℤ v.x))
turned_twice South East v = refl
turned_twice South North v = vertex_is _ _ refl (sym (neg_ℤ-neg_ℤ v.y))
turned_twice South West v = vertex_is _ _ refl (sym (neg_ℤ-neg_ℤ v.x))
turned_twice South South v = refl

-- a place that was moved and is turned, then moved again
turned_moved : (f : Facing) (v w at : Vertex)
    → ◌≡◌ {A = Vertex} (record { x = (turned_place f v).x +ℤ ((turned_place f w).x +ℤ at.x); y = (turned_place f v).y +ℤ ((turned_place f w).y +ℤ at.y) })
    (record { x = (turned_place f (record { x = v.x +ℤ w.x; y = v.y +ℤ w.y })).x +ℤ at.x; y = (turned_place f (record { x = v.x +ℤ w.x; y = v.y +ℤ w.y })).y +ℤ at.y })
turned_moved East v w at = vertex_is _ _ (omega (arith, linear)) (omega (arith, linear))
turned_moved North v w at = vertex_is _ _ (omega (arith, linear)) (omega (arith, linear))
turned_moved West v w at = vertex_is _ _ (omega (arith, linear)) (omega (arith, linear))
turned_moved South v w at = vertex_is _ _ (omega (arith, linear)) (omega (arith, linear))

placed_twice : (outer inner : Placing) (v : Vertex)
    → placed_to (record { at = placed_to outer inner.at; facing = faced outer.facing inner.facing }) v ≡ placed_to outer (placed_to inner v)
placed_twice outer inner v =
    ap (λ (t : Vertex). record { x = t.x +ℤ (placed_to outer inner.at).x; y = t.y +ℤ (placed_to outer inner.at).y }) (turned_twice outer.facing inner.facing v)
    ∙ turned_moved outer.facing (turned_place inner.facing v) inner.at outer.at

coordinate_by : (fits : Bool) (n m : ℤ) → cond fits (Some n) None ≡ Some m → n ≡ m
coordinate_by true n m e = cc
coordinate_by false n m e = cc

placing_parts : (x y : Option ℤ) (f : Facing) (both : Placing) → placing_to (vertex_of x y) (Some f) ≡ Ok both
    → (x ≡ Some both.at.x) × (y ≡ Some both.at.y) × (f ≡ both.facing)
placing_parts None y f both e = cc
placing_parts (Some x) None f both e = cc
placing_parts (Some x) (Some y) f both e =
    let same : ◌≡◌ {A = Placing} (record { at = record { x = x; y = y }; facing = f }) both = cc in
    (ap (λ (p : Placing). Some p.at.x) same, ap (λ (p : Placing). Some p.at.y) same, ap (λ (p : Placing). p.facing) same)

both_is : (outer inner both : Placing) → placing_within outer (Ok inner) ≡ Ok both
    → ◌≡◌ {A = Placing} (record { at = placed_to outer inner.at; facing = faced outer.facing inner.facing }) both
both_is outer inner both e =
    let at = placed_to outer inner.at in
    let (x, y, f) = placing_parts (coordinate_of at.x) (coordinate_of at.y) (faced outer.facing inner.facing) both e in
    let east = coordinate_by (int_le LEAST_COORDINATE at.x && int_le at.x GREATEST_COORDINATE) at.x both.at.x x in
    let north = coordinate_by (int_le LEAST_COORDINATE at.y && int_le at.y GREATEST_COORDINATE) at.y both.at.y y in
    λ i. record { at = record { x = east i; y = north i }; facing = f i }

-- blocks within add up
pub adds_up : (outer : Placing) (inner result : Result Placing DrawError) → result ≡ placing_within outer inner
    → IfOk result (λ both. IfOk inner (λ p. IsPlacedWithin outer p both))
adds_up outer inner (Err e) is = tt
adds_up outer (Err e) (Ok both) is = tt
adds_up outer (Ok p) (Ok both) is =
    λ (v : Vertex). ap (λ (b : Placing). placed_to b v) (sym (both_is outer p both (sym is))) ∙ placed_twice outer p v
