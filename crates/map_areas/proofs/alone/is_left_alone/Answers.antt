use Rattle.std.proofs.Common.{◌≡◌, false, true, Bool, List, Some, None, Option, sym, ap, ◌∙◌}
use Rattle.std.specs.List.{slice_get}
use Rattle.map_plane.proofs.LineReads.{placed_there}
use Rattle.map_plane.specs.Places.{placed}
use Rattle.map_plane.specs.declared.places.PlacedLine.{PlacedLine}
use Rattle.map_areas.specs.Apart.{is_alone}
use Rattle.map_areas.proofs.alone.is_left_alone.Goals as goal

apart : (b : Bool) → b ≡ false → b ≡ true → ⊥
apart true f t = cc
apart false f t = cc

same : (o : Option PlacedLine) (a b : PlacedLine) → o ≡ Some a → o ≡ Some b → a ≡ b
same o a b h k = cc

none : (o : Option PlacedLine) (a : PlacedLine) → o ≡ None → o ≡ Some a → ⊥
none o a h k = cc

pub returns-in-Some : goal.returns-in-Some
returns-in-Some c = λ no l is alone.
    let es = c.args.border.now.edges.items in
    let ds = c.args.border.now.doubled.items in
    let p = placed c.args.map.now.tables (c.args.number, l) in
    let there : slice_get c.args.ground.now.lines.items c.args.number ≡ Some p =
    ap (λ (ls : List PlacedLine). slice_get ls c.args.number) c.requires ∙ placed_there c.args.map.now.tables c.args.number l is in
    let found : slice_get c.args.ground.now.lines.items c.args.number ≡ Some c.in-Some.line =
    sym (c.in-Some.ensures ∙ (λ i. slice_get (c.deref.ensures.value i) (c.from.ensures i))) in
    apart (is_alone es ds p)
    ((λ i. is_alone (sym c.deref-in-Some.ensures.value i) (sym c.deref-in-Some-2.ensures.value i) (same _ p c.in-Some.line there found i)) ∙ sym c.is_alone.ensures ∙ no) alone

pub returns-in-None : goal.returns-in-None
returns-in-None c = λ no l is alone.
    let p = placed c.args.map.now.tables (c.args.number, l) in
    let there : slice_get c.args.ground.now.lines.items c.args.number ≡ Some p =
    ap (λ (ls : List PlacedLine). slice_get ls c.args.number) c.requires ∙ placed_there c.args.map.now.tables c.args.number l is in
    let found : slice_get c.args.ground.now.lines.items c.args.number ≡ None =
    sym (c.in-None.ensures ∙ (λ i. slice_get (c.deref.ensures.value i) (c.from.ensures i))) in
    none _ p found there
