use Rattle.std.proofs.Common.{◌≡◌, ℕ, ◌+◌, ◌-◌, ◌<◌, ◌∙◌, List, sym, ap, ap₂, arith, Some, None, Result, drop, take}
use Rattle.std.specs.Prelude.{ℤ, option_copied}
use Rattle.std.proofs.lemmas.List.{take_rest}
use Rattle.map_script.specs.Cuts.{behind_byte, cut_place, inside}
use Rattle.map_script.specs.Known.{scope_of}
use Rattle.map_script.specs.Reckoned.{item_of_place, negated}
use Rattle.map_script.specs.Sums.{sum_value}
use Rattle.map_script.specs.declared.error.DrawError.{DrawError}
use Rattle.map_script.specs.declared.placing.Placing.{Placing}
use Rattle.map_script.proofs.SumCuts.{alone, at_place, by_reference, none_deep, one_part, operand_alone, two_parts, with_minus}
use Rattle.map_script.proofs.sums.+sum_value.Goals as goal

pub returns-then-depth-eq0 : goal.returns-then-depth-eq0
returns-then-depth-eq0 t c =
    let k = scope_of c.args.names.now in
    none_deep k c.args.map.now.tables c.args.text.now ∙ ap (λ (d : ℕ). sum_value d k c.args.map.now.tables c.args.text.now) (sym c.if-depth-eq0.true)

pub returns-in-Some : goal.returns-in-Some
returns-in-Some t c =
    let d = c.args.depth in
    let k = scope_of c.args.names.now in
    let m = c.args.map.now.tables in
    let text = c.args.text.now in
    let i = c.in-Some.i in
    let below : 0 < d = omega (arith, c.if-depth-eq0.false) in
    let left : c.sum_value-left.result ≡ sum_value (d - 1) k m (take i text) = c.sum_value-left.ensures in
    let right : c.sum_value-right.result ≡ sum_value (d - 1) k m (drop (i + 1) text) =
    c.sum_value-right.ensures ∙ ap (λ (s : List ℕ). sum_value (d - 1) k m s) (take_rest text (i + 1)) in
    two_parts d k m text i c.sum_value-left.result c.sum_value-right.result c.reckoned_of.result below (sym c.in-Some.ensures.place) left right
    c.reckoned_of.ensures

pub returns-in-Some-inside : goal.returns-in-Some-inside
returns-in-Some-inside t c =
    let d = c.args.depth in
    let text = c.args.text.now in
    let below : 0 < d = omega (arith, c.if-depth-eq0.false) in
    let uncut : cut_place text ≡ None = cc (c.cut_place.ensures.place, c.in_default.is) in
    let within : inside text ≡ Some c.in-Some-inside.inner.now = sym c.inside.ensures ∙ ap option_copied c.in-Some-inside.is in
    one_part d (scope_of c.args.names.now) c.args.map.now.tables text c.in-Some-inside.inner.now c.sum_value.result below uncut within c.sum_value.ensures

pub returns-in-Some-place_in : goal.returns-in-Some-place_in
returns-in-Some-place_in t c =
    let d = c.args.depth in
    let k = scope_of c.args.names.now in
    let m = c.args.map.now.tables in
    let text = c.args.text.now in
    let below : 0 < d = omega (arith, c.if-depth-eq0.false) in
    let uncut : cut_place text ≡ None = cc (c.cut_place.ensures.place, c.in_default.is) in
    let open_text : inside text ≡ None = sym c.inside.ensures ∙ ap option_copied c.in_default-inside.is in
    let begun : behind_byte 36 text ≡ Some c.in-Some-reference_in.reference.now = sym c.reference_in.ensures ∙ ap option_copied c.in-Some-reference_in.is in
    let place = c.in-Some-place_in in
    let values : item_of_place k.placing m place.kind c.sum_value-x.result c.sum_value-y.result
    ≡ item_of_place k.placing m place.kind (sum_value (d - 1) k m place.x.now) (sum_value (d - 1) k m place.y.now) =
    ap₂ (λ (a b : Result ℤ DrawError). item_of_place k.placing m place.kind a b) c.sum_value-x.ensures c.sum_value-y.ensures in
    operand_alone d k m text c.item_at.result below uncut open_text
    (at_place (λ (s : List ℕ). sum_value (d - 1) k m s) k m text c.in-Some-reference_in.reference.now place.kind place.x.now place.y.now c.item_at.result
    begun c.in-Some-place_in.ensures (c.item_at.ensures ∙ ap (λ (p : Placing). item_of_place p m place.kind c.sum_value-x.result c.sum_value-y.result) c.placing.ensures ∙ values))

pub returns-in-None-place_in : goal.returns-in-None-place_in
returns-in-None-place_in t c =
    let d = c.args.depth in
    let k = scope_of c.args.names.now in
    let m = c.args.map.now.tables in
    let text = c.args.text.now in
    let below : 0 < d = omega (arith, c.if-depth-eq0.false) in
    let uncut : cut_place text ≡ None = cc (c.cut_place.ensures.place, c.in_default.is) in
    let open_text : inside text ≡ None = sym c.inside.ensures ∙ ap option_copied c.in_default-inside.is in
    let begun : behind_byte 36 text ≡ Some c.in-Some-reference_in.reference.now = sym c.reference_in.ensures ∙ ap option_copied c.in-Some-reference_in.is in
    operand_alone d k m text c.reference_value.result below uncut open_text
    (by_reference (λ (s : List ℕ). sum_value (d - 1) k m s) k m text c.in-Some-reference_in.reference.now c.reference_value.result begun
    c.in-None-place_in.ensures c.reference_value.ensures)

pub returns-in-Some-operand_in : goal.returns-in-Some-operand_in
returns-in-Some-operand_in t c =
    let d = c.args.depth in
    let k = scope_of c.args.names.now in
    let m = c.args.map.now.tables in
    let text = c.args.text.now in
    let below : 0 < d = omega (arith, c.if-depth-eq0.false) in
    let uncut : cut_place text ≡ None = cc (c.cut_place.ensures.place, c.in_default.is) in
    let open_text : inside text ≡ None = sym c.inside.ensures ∙ ap option_copied c.in_default-inside.is in
    let none : behind_byte 36 text ≡ None = sym c.reference_in.ensures ∙ ap option_copied c.in-None.is in
    let begun : behind_byte 45 text ≡ Some c.in-Some-operand_in.operand.now = sym c.operand_in.ensures ∙ ap option_copied c.in-Some-operand_in.is in
    operand_alone d k m text c.negated.result below uncut open_text
    (with_minus (λ (s : List ℕ). sum_value (d - 1) k m s) k m text c.in-Some-operand_in.operand.now c.negated.result none begun
    (c.negated.ensures ∙ ap negated c.sum_value-in-Some-operand_in.ensures))

pub returns-in-None-operand_in : goal.returns-in-None-operand_in
returns-in-None-operand_in t c =
    let d = c.args.depth in
    let k = scope_of c.args.names.now in
    let m = c.args.map.now.tables in
    let text = c.args.text.now in
    let below : 0 < d = omega (arith, c.if-depth-eq0.false) in
    let uncut : cut_place text ≡ None = cc (c.cut_place.ensures.place, c.in_default.is) in
    let open_text : inside text ≡ None = sym c.inside.ensures ∙ ap option_copied c.in_default-inside.is in
    let none : behind_byte 36 text ≡ None = sym c.reference_in.ensures ∙ ap option_copied c.in-None.is in
    let no_minus : behind_byte 45 text ≡ None = sym c.operand_in.ensures ∙ ap option_copied c.in-None-operand_in.is in
    operand_alone d k m text c.number_of.result below uncut open_text
    (alone (λ (s : List ℕ). sum_value (d - 1) k m s) k m text c.number_of.result none no_minus c.number_of.ensures)
