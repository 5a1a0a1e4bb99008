use Rattle.std.proofs.Common.{◌≡◌, ◌∷◌, ◌++◌, [], ℕ, List, ap, length, subst, sym, ◌∙◌}
use Rattle.store_journal.specs.Payloads.{parts_up_to, RiseTo}
use Rattle.store_journal.proofs.Parts.{parts-push, rise-push}
use Rattle.store_journal.proofs.payloads.Payloads.push.Goals as goal

-- the places with one more, where the bytes end
all-ends : (ends bytes more ends_then bytes_then : List ℕ) (end len : ℕ) → bytes_then ≡ bytes ++ more → ends_then ≡ ends ++ end ∷ []
    → end ≡ len → len ≡ length bytes_then → ends_then ≡ ends ++ length (bytes ++ more) ∷ []
all-ends ends bytes more ends_then bytes_then end len b e f g =
    e ∙ ap (λ k. ends ++ k ∷ []) (f ∙ g ∙ ap length b)

pub invariant_of-self-2 : goal.invariant_of-self-2
invariant_of-self-2 c =
    let inside = c.self.inside in
    let more = c.args.payload.now in
    let b = c.in_ok-extend_from_slice.ensures.items in
    let e = all-ends inside.ends.items inside.bytes.items more c.push_reserved.new.self.items c.extend_from_slice.new.self.items
    c.len.result _ b (c.push_reserved.ensures.items ∙ ap (λ l. l ++ c.len.result ∷ []) c.reserve.ensures.items) c.len.ensures c.extend_from_slice.new.self.ok.0 in
    subst (λ (bs : List ℕ). RiseTo (length bs) 0 c.push_reserved.new.self.items) (sym b)
    (subst (λ (es : List ℕ). RiseTo (length (inside.bytes.items ++ more)) 0 es) (sym e) (rise-push 0 inside.ends.items inside.bytes.items more c.self.invariant))

pub returns-clause-pushed : goal.returns-clause-pushed
returns-clause-pushed c =
    let inside = c.self.inside in
    let more = c.args.payload.now in
    let b = c.in_ok-extend_from_slice.ensures.items in
    let e = all-ends inside.ends.items inside.bytes.items more c.push_reserved.new.self.items c.extend_from_slice.new.self.items
    c.len.result _ b (c.push_reserved.ensures.items ∙ ap (λ l. l ++ c.len.result ∷ []) c.reserve.ensures.items) c.len.ensures c.extend_from_slice.new.self.ok.0 in
    ap (λ bs. parts_up_to 0 c.push_reserved.new.self.items bs) b
    ∙ ap (λ es. parts_up_to 0 es (inside.bytes.items ++ more)) e
    ∙ parts-push 0 inside.ends.items inside.bytes.items more c.self.invariant
    ∙ ap (λ ps. ps ++ more ∷ []) c.self.view_is
