use Rattle.std.proofs.Common.{◌∙◌, ◌++◌, ap, sym, append_assoc, get_or, take, drop, length, ◌-◌}
use Rattle.std.specs.Prelude.{flat_map}
use Rattle.run_edit.specs.Texts.{hex_byte, hex_digits, spaced_byte}
use Rattle.run_edit.proofs.HexDigits.{first-rest, hex_digits-cons}
use Rattle.run_edit.proofs.hex.push_digits.Goals as goal

pub returns-in_ok-push_spaced-in-len1-up : goal.returns-in_ok-push_spaced-in-len1-up
returns-in_ok-push_spaced-in-len1-up c =
    let before = c.args.text.now.items in
    let bytes = c.args.bytes.now in
    let first = get_or bytes 0 0 in
    let rest = take (length bytes - 1) (drop 1 bytes) in
    c.in_ok-push_spaced-in-len1-up.ensures ∙ ap (λ z. z ++ flat_map spaced_byte rest) c.in_ok-push_byte-in-len1-up.ensures
    ∙ append_assoc before (hex_byte first) (flat_map spaced_byte rest)
    ∙ ap (λ z. before ++ z) (sym (hex_digits-cons first rest) ∙ ap hex_digits (first-rest bytes c.in-len1-up.len_at_least))
