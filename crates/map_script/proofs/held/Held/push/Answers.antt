use Rattle.std.proofs.Common.{◌≡◌, ◌∙◌, ◌∷◌, ℕ, List, [], ap, ap₂, arith, length, sym}
use Rattle.map_script.specs.Held.{in_front_of, held_place}
use Rattle.map_script.specs.Meant.{Meant, meant}
use Rattle.map_script.specs.declared.held.Entry.{Entry}
use Rattle.map_script.proofs.Hiding.{indexed_more}
use Rattle.map_script.proofs.Holding.{front_more}
use Rattle.map_script.proofs.held.Held.push.Goals as goal

pub invariant_of-self-in-Ok : goal.invariant_of-self-in-Ok
invariant_of-self-in-Ok c =
    let hs = c.self.inside.entries.items in
    let es = c.self.inside.newest.entries in
    let h : Entry = record { name = c.in_ok-name.name; meaning = c.args.meaning; hidden = c.held_place-hidden.result } in
    let place : c.len-place.result ≡ length hs = omega (arith, c.len-place.ensures, c.self.inside.entries.ok.0) in
    let same = c.in_ok-key.ensures.ok ∙ sym c.in_ok-name.ensures.ok in
    let hidden : c.held_place-hidden.result ≡ held_place es c.in_ok-name.name.items = c.held_place-hidden.ensures ∙ ap (held_place es) c.deref.ensures.value in
    let more = indexed_more hs es h c.in_ok-key.key c.self.invariant hidden same in
    rw (c.in_ok-push.ensures.items, c.in-Ok.ensures.entries, place) more

pub returns-clause-ok : goal.returns-clause-ok
returns-clause-ok c =
    let hs = c.self.inside.entries.items in
    let h : Entry = record { name = c.in_ok-name.name; meaning = c.args.meaning; hidden = c.held_place-hidden.result } in
    ap (λ (gs : List Entry). in_front_of gs []) c.in_ok-push.ensures.items ∙ front_more hs h []
    ∙ ap₂ (λ (n : List ℕ) (ns : List (List ℕ × Meant)). (n, meant c.args.meaning) ∷ ns) c.in_ok-name.ensures.ok c.self.view_is
