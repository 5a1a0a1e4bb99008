use Rattle.std.proofs.Common.{◌≡◌, ℕ, ◌+◌, ◌-◌, ◌<◌, ◌∙◌, List, sym, ap, arith, Some, None, drop, take}
use Rattle.std.specs.Prelude.{option_copied}
use Rattle.std.proofs.lemmas.List.{take_rest}
use Rattle.map_script.specs.Cuts.{behind_byte, cut_place, inside}
use Rattle.map_script.specs.Kinds.{referred_kind, sum_kind}
use Rattle.map_script.specs.Known.{scope_of}
use Rattle.map_script.proofs.KindCuts.{inner_kind, no_kind, operand_kind, two_kinds}
use Rattle.map_script.proofs.kinds.+sum_kind.Goals as goal

pub returns-then-depth-eq0 : goal.returns-then-depth-eq0
returns-then-depth-eq0 t c =
    let k = scope_of c.args.names.now in
    no_kind k c.args.text.now ∙ ap (λ (d : ℕ). sum_kind d k c.args.text.now) (sym c.if-depth-eq0.true)

pub returns-in-Some : goal.returns-in-Some
returns-in-Some t c =
    let d = c.args.depth in
    let k = scope_of c.args.names.now in
    let text = c.args.text.now in
    let i = c.in-Some.i in
    let below : 0 < d = omega (arith, c.if-depth-eq0.false) in
    let left : c.sum_kind-left.result ≡ sum_kind (d - 1) k (take i text) = c.sum_kind-left.ensures in
    let right : c.sum_kind-right.result ≡ sum_kind (d - 1) k (drop (i + 1) text) =
    c.sum_kind-right.ensures ∙ ap (λ (s : List ℕ). sum_kind (d - 1) k s) (take_rest text (i + 1)) in
    two_kinds d k text i c.sum_kind-left.result c.sum_kind-right.result c.kept_kind.result below (sym c.in-Some.ensures.place) left right
    c.kept_kind.ensures

pub returns-in-Some-inside : goal.returns-in-Some-inside
returns-in-Some-inside t c =
    let d = c.args.depth in
    let text = c.args.text.now in
    let below : 0 < d = omega (arith, c.if-depth-eq0.false) in
    let uncut : cut_place text ≡ None = cc (c.cut_place.ensures.place, c.in_default.is) in
    let within : inside text ≡ Some c.in-Some-inside.inner.now = sym c.inside.ensures ∙ ap option_copied c.in-Some-inside.is in
    inner_kind d (scope_of c.args.names.now) text c.in-Some-inside.inner.now c.sum_kind.result below uncut within c.sum_kind.ensures

pub returns-in-Some-reference_in : goal.returns-in-Some-reference_in
returns-in-Some-reference_in t c =
    let d = c.args.depth in
    let k = scope_of c.args.names.now in
    let text = c.args.text.now in
    let below : 0 < d = omega (arith, c.if-depth-eq0.false) in
    let uncut : cut_place text ≡ None = cc (c.cut_place.ensures.place, c.in_default.is) in
    let open_text : inside text ≡ None = sym c.inside.ensures ∙ ap option_copied c.in_default-inside.is in
    let begun : behind_byte 36 text ≡ Some c.in-Some-reference_in.reference.now = sym c.reference_in.ensures ∙ ap option_copied c.in-Some-reference_in.is in
    operand_kind d k text c.reference_kind.result below uncut open_text (c.reference_kind.ensures ∙ sym (ap (referred_kind k) begun))

pub returns-in-None : goal.returns-in-None
returns-in-None t c =
    let d = c.args.depth in
    let k = scope_of c.args.names.now in
    let text = c.args.text.now in
    let below : 0 < d = omega (arith, c.if-depth-eq0.false) in
    let uncut : cut_place text ≡ None = cc (c.cut_place.ensures.place, c.in_default.is) in
    let open_text : inside text ≡ None = sym c.inside.ensures ∙ ap option_copied c.in_default-inside.is in
    let none : behind_byte 36 text ≡ None = sym c.reference_in.ensures ∙ ap option_copied c.in-None.is in
    operand_kind d k text None below uncut open_text (sym (ap (referred_kind k) none))
