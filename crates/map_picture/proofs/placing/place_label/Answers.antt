use Rattle.std.proofs.Common.{◌≡◌, ◌∙◌, ◌++◌, ◌∷◌, [], ap}
use Rattle.std.specs.Prelude.{Option, Some, find}
use Rattle.std.specs.Option.{option_map_or}
use Rattle.map_svg.specs.declared.places.Shift.{Shift}
use Rattle.map_picture.specs.Placing.{first_free, half_height, half_width, is_free, label_width, number_box, placed_at}
use Rattle.map_picture.specs.declared.placing.Placed.{Placed}
use Rattle.map_picture.proofs.placing.place_label.Goals as goal

pub returns-in_ok-push-in-Some : goal.returns-in_ok-push-in-Some
returns-in_ok-push-in-Some c =
    let ps = c.args.placed.now.items in
    let l = c.args.label.now in
    let size = c.args.size in
    let room = c.args.room in
    let shift = c.in-Some.shift in
    let w : c.half_width-width.result ≡ label_width size l = c.half_width-width.ensures ∙ ap (half_width l.item size) c.digit_count.ensures.count in
    let h : c.half_height-height.result ≡ half_height l.item size = c.half_height-height.ensures in
    let found : Some shift ≡ first_free size room ps l =
    c.in-Some.ensures ∙ (λ i. find (λ s. is_free room (c.deref.ensures.value i) (number_box l.place s (w i) (h i))) l.shifts) in
    c.in_ok-push-in-Some.ensures.items
    ∙ ap (λ (p : Placed). ps ++ p ∷ []) (c.placed_at.ensures ∙ (λ i. placed_at (w i) (h i) l shift))
    ∙ ap (λ (o : Option Shift). option_map_or (λ s. ps ++ placed_at (label_width size l) (half_height l.item size) l s ∷ []) o ps) found
