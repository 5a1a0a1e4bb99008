use Rattle.std.proofs.Common.{◌∙◌, ◌++◌, ℕ, List, [], ◌∷◌, ap, sym, append_assoc, get_or, take}
use Rattle.std.specs.Prelude.{flat_map}
use Rattle.std.proofs.lemmas.List.{flat_map_more, take_all, take_more}
use Rattle.run_edit.specs.Texts.{hex_byte, spaced_byte}
use Rattle.run_edit.proofs.hex.push_spaced.Goals as goal

pub loop-b-preserved : goal.loop-b-preserved
loop-b-preserved c =
    let before = c.args.text.now.items in
    let bytes = c.args.bytes.now in
    let i = c.loop-b.b-index in
    let b = get_or bytes i 0 in
    let done = before ++ flat_map spaced_byte (take i bytes) in
    c.in_ok-push_byte.ensures
    ∙ ap (λ (z : List ℕ). z ++ hex_byte b) (c.in_ok-push.ensures.items ∙ ap (λ (z : List ℕ). z ++ 32 ∷ []) c.loop-b.invariant)
    ∙ append_assoc done (32 ∷ []) (hex_byte b)
    ∙ flat_map_more spaced_byte before (take i bytes) b
    ∙ ap (λ (z : List ℕ). before ++ flat_map spaced_byte z) (sym (take_more bytes i 0 c.loop-b-test.true))

pub returns : goal.returns
returns c =
    c.loop-b.invariant
    ∙ ap (λ (z : List ℕ). c.args.text.now.items ++ flat_map spaced_byte z) (take_all c.loop-b.b-index c.args.bytes.now c.loop-b-test.false)
