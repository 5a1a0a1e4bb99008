use Rattle.std.proofs.Common.{◌≡◌, rules, arith}
use Rattle.std.proofs.lemmas.Int.{ints, int_max_is, int_min_is}
use Rattle.std.specs.Prelude.{ℤ, FitsSigned}
use Rattle.std.specs.Int.{w16, int_max, int_min}
use Rattle.lump_records.specs.Drawing.{IsCoordinate}
use Rattle.tree_choice.proofs.Casts.{greatest_16, least_16}
use Rattle.tree_choice.proofs.block_boxes.with_place.Goals as goal

greater_in : (x y m : ℤ) → IsCoordinate x → IsCoordinate y → m ≡ int_max x y → IsCoordinate m
greater_in x y m h k e =
    let is = int_max_is x y in
    let hl = h.at_least in
    let hm = h.at_most in
    let kl = k.at_least in
    let km = k.at_most in
    record { at_least = omega (arith, ints); at_most = omega (arith, ints) }

lesser_in : (x y m : ℤ) → IsCoordinate x → IsCoordinate y → m ≡ int_min x y → IsCoordinate m
lesser_in x y m h k e =
    let is = int_min_is x y in
    let hl = h.at_least in
    let hm = h.at_most in
    let kl = k.at_least in
    let km = k.at_most in
    record { at_least = omega (arith, ints); at_most = omega (arith, ints) }

pub returns-clause-inner : goal.returns-clause-inner
returns-clause-inner c =
    let b = c.args.bounds in
    let v = c.args.place in
    let h = c.requires.bounds in
    let k = c.requires.place in
    let x : IsCoordinate v.x = record { at_least = k.x_low; at_most = k.x_high } in
    let y : IsCoordinate v.y = record { at_least = k.y_low; at_most = k.y_high } in
    let ft : FitsSigned w16 b.top = search rules in
    let fo : FitsSigned w16 b.bottom = search rules in
    let fl : FitsSigned w16 b.left = search rules in
    let fr : FitsSigned w16 b.right = search rules in
    let fx : FitsSigned w16 v.x = search rules in
    let fy : FitsSigned w16 v.y = search rules in
    record {
      top = greater_in b.top v.y _ h.top y (greatest_16 b.top v.y c.max.result ft fy c.max.ensures.value);
      bottom = lesser_in b.bottom v.y _ h.bottom y (least_16 b.bottom v.y c.min.result fo fy c.min.ensures.value);
      left = lesser_in b.left v.x _ h.left x (least_16 b.left v.x c.min-2.result fl fx c.min-2.ensures.value);
      right = greater_in b.right v.x _ h.right x (greatest_16 b.right v.x c.max-2.result fr fx c.max-2.ensures.value);
    }
