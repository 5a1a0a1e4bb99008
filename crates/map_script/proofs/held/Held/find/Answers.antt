use Rattle.std.proofs.Common.{◌≡◌, ◌∙◌, ℕ, List, [], None, Some, ap, arith, sym}
use Rattle.map_script.specs.Held.{newest_of}
use Rattle.map_script.specs.Meant.{Meant, meant_by}
use Rattle.map_script.proofs.Holding.{found_held, found_none, newest_within}
use Rattle.map_script.proofs.held.Held.find.Goals as goal
use Rattle.map_script.proofs.held.Held.find.Goals.{In-Some}

here : (c : In-Some) → newest_of c.self.inside.entries.items c.args.name.now ≡ Some c.in-Some.place
here c = sym (c.self.invariant.newest c.args.name.now) ∙ sym c.in-Some.ensures

pub index-requires : goal.index-requires
index-requires c =
    let below = newest_within c.self.inside.entries.items c.args.name.now c.in-Some.place (here (goal.at.index-requires c).In-Some) in
    omega (arith, below, c.self.inside.entries.ok.0)

pub returns-in-Some : goal.returns-in-Some
returns-in-Some c =
    sym (found_held c.self.inside.entries.items c.index.result.now c.args.name.now [] c.in-Some.place (here (goal.at.returns-in-Some c).In-Some) c.index.ensures)
    ∙ ap (λ (ns : List (List ℕ × Meant)). meant_by ns c.args.name.now) c.self.view_is

pub returns-in-None : goal.returns-in-None
returns-in-None c =
    let none : newest_of c.self.inside.entries.items c.args.name.now ≡ None = sym (c.self.invariant.newest c.args.name.now) ∙ sym c.in-None.ensures in
    sym (found_none c.self.inside.entries.items c.args.name.now [] none) ∙ ap (λ (ns : List (List ℕ × Meant)). meant_by ns c.args.name.now) c.self.view_is
