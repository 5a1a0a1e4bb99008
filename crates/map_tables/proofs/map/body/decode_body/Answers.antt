-- The bytes are version 1 and a map's part, with nothing after it.
use Rattle.std.proofs.Common.{◌≡◌, ◌∙◌, ℕ, List, ◌∷◌, ◌-◌, refl, ap, sym, length, take, drop, take_all, length-drop, arith}
use Rattle.map_tables.proofs.FramedLemmas.{refused_by, not_behind, no_map_longer, map_behind}
use Rattle.map_tables.proofs.map.body.decode_body.Goals as goal

behind : (bs : List ℕ) → bs ≡ 1 ∷ 0 ∷ drop 2 bs → bs ≡ 1 ∷ 0 ∷ take (length bs - 2) (drop 2 bs)
behind bs is = is ∙ ap (λ r. 1 ∷ 0 ∷ r) (sym (take_all (length bs - 2) (drop 2 bs) (omega (arith, length-drop 2 bs))))

pub returns-in_err-map-clause-refused : goal.returns-in_err-map-clause-refused
returns-in_err-map-clause-refused c =
    let bs = c.args.bytes.now in
    let v = behind bs (c.has_version_1.ensures.0 c.if-not-has_version_1.false) in
    refused_by (not_behind bs (take (length bs - 2) (drop 2 bs)) v) c.from_residual.result c.in_err-map.field-0.0 c.from_residual.ensures.1 c.in_err-map.ensures.refused

pub returns-then-bytes-part_len-clause-refused : goal.returns-then-bytes-part_len-clause-refused
returns-then-bytes-part_len-clause-refused c =
    let bs = c.args.bytes.now in
    let v = behind bs (c.has_version_1.ensures.0 c.if-not-has_version_1.false) in
    (refl, no_map_longer bs (take (length bs - 2) (drop 2 bs)) v c.in_ok-map.map.tables c.in_ok-map.ensures.map (λ long. c.if-bytes-part_len.true (omega (arith, c.part_len.ensures.value))))

pub returns-clause-map : goal.returns-clause-map
returns-clause-map c =
    let bs = c.args.bytes.now in
    let v = behind bs (c.has_version_1.ensures.0 c.if-not-has_version_1.false) in
    map_behind bs (take (length bs - 2) (drop 2 bs)) v c.in_ok-map.map.tables c.in_ok-map.ensures.map (omega (arith, c.part_len.ensures.value))
