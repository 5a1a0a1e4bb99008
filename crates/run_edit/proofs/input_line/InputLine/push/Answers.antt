use Rattle.std.proofs.Common.{◌≡◌, ◌<◌, ◌≤◌, ◌∙◌, ◌++◌, [], ◌∷◌, length, take, sym, ap, arith, length-append}
use Rattle.std.proofs.lemmas.List.{take_more_set, take_all, length-take-le, take-append-le}
use Rattle.run_edit.proofs.input_line.InputLine.push.Goals as goal

pub returns-then-self-lt257 : goal.returns-then-self-lt257
returns-then-self-lt257 c =
    let s = c.self.inside in
    let lt : s.len < length s.bytes = omega (arith, c.self.told) in
    let now : take s.len s.bytes ≡ c.args.self.now = c.self.view_is in
    let size : length c.args.self.now ≡ s.len = ap length (sym now) ∙ length-take-le s.len s.bytes (omega arith) in
    take_more_set s.bytes s.len c.args.b lt ∙ ap (λ z. z ++ c.args.b ∷ []) now
    ∙ sym (take_all 257 (c.args.self.now ++ c.args.b ∷ []) (omega (arith, length-append c.args.self.now (c.args.b ∷ []))))

pub returns-else-self-lt257 : goal.returns-else-self-lt257
returns-else-self-lt257 c =
    let s = c.self.inside in
    let lt : s.len ≤ length s.bytes = omega (arith, c.self.told, c.self.invariant) in
    let now : take s.len s.bytes ≡ c.args.self.now = c.self.view_is in
    let size : length c.args.self.now ≡ s.len = ap length (sym now) ∙ length-take-le s.len s.bytes (omega arith) in
    sym (take-append-le 257 c.args.self.now (c.args.b ∷ []) (omega arith) ∙ take_all 257 c.args.self.now (omega arith))
