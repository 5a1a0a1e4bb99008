use Rattle.std.proofs.Common.{◌≡◌, ◌∙◌, ℕ, List, [], None, Some, ap, arith, refl, sym}
use Rattle.std.specs.Prelude.{is_some}
use Rattle.map_script.specs.Held.{newest_of}
use Rattle.map_script.specs.Meant.{Meant, meant, meant_by, with_meaning}
use Rattle.map_script.proofs.Hiding.{indexed_set}
use Rattle.map_script.proofs.Holding.{found_held, found_none, newest_within, put_held}
use Rattle.map_script.proofs.held.Held.replace.Goals as goal
use Rattle.map_script.proofs.held.Held.replace.Goals.{In-Some}

here : (c : In-Some) → newest_of c.self.inside.entries.items c.args.name.now ≡ Some c.in-Some.place
here c = sym (c.self.invariant.newest c.args.name.now) ∙ sym c.in-Some.ensures

pub index_mut-requires : goal.index_mut-requires
index_mut-requires c =
    let below = newest_within c.self.inside.entries.items c.args.name.now c.in-Some.place (here (goal.at.index_mut-requires c).In-Some) in
    omega (arith, below, c.self.inside.entries.ok.0)

pub invariant_of-self : goal.invariant_of-self
invariant_of-self c =
    indexed_set c.self.inside.entries.items c.self.inside.newest.entries c.index_mut.result.now c.args.meaning c.in-Some.place c.index_mut.ensures.value c.self.invariant

pub returns-in-Some : goal.returns-in-Some
returns-in-Some c =
    let hs = c.self.inside.entries.items in
    let name = c.args.name.now in
    let x = c.index_mut.result.now in
    let at = here (goal.at.returns-in-Some c).In-Some in
    let value = c.index_mut.ensures.value in (
      sym (put_held hs x c.args.meaning name [] c.in-Some.place at value) ∙ ap (λ (ns : List (List ℕ × Meant)). with_meaning ns name (meant c.args.meaning)) c.self.view_is,
      sym (ap (λ (ns : List (List ℕ × Meant)). is_some (meant_by ns name)) c.self.view_is) ∙ ap is_some (found_held hs x name [] c.in-Some.place at value),
    )

pub returns-in-None : goal.returns-in-None
returns-in-None c =
    let none : newest_of c.self.inside.entries.items c.args.name.now ≡ None = sym (c.self.invariant.newest c.args.name.now) ∙ sym c.in-None.ensures in
    (refl, refl, sym (ap (λ (ns : List (List ℕ × Meant)). meant_by ns c.args.name.now) c.self.view_is) ∙ found_none c.self.inside.entries.items c.args.name.now [] none)
