use Rattle.std.proofs.Common.{◌≡◌, List, Some, slice_get, sym, refl, subst, inl}
use Rattle.std.specs.Map.{lookup}
use Rattle.lump_records.specs.declared.records.Vertex.{Vertex}
use Rattle.lump_records.specs.contracts.records.VertexPartialEq.TheImpl.{eq-value}
use Rattle.tree_pieces.specs.Places.{IsKnown, StandsFirst}
use Rattle.tree_pieces.proofs.Known.{number_known, number_new, pushed_number, pushed_first, pushed_places}
use Rattle.tree_pieces.proofs.numbered.Points.number.Goals as goal
use Rattle.tree_pieces.proofs.numbered.Points.number.Goals.{In-Some, In_default}

found : (c : In-Some) → lookup (eq-value.it c.args.place) c.self.inside.numbers.entries ≡ Some c.in-Some.n
found c = cc (c.get.ensures.value, c.copied.ensures, c.in-Some.is)

stands : (c : In-Some) → slice_get c.args.self.now c.in-Some.n ≡ Some c.args.place
stands c = subst (λ (vs : List Vertex). slice_get vs c.in-Some.n ≡ Some c.args.place) c.self.view_is
    (number_known c.self.inside.places.items c.self.inside.numbers.entries c.args.place c.in-Some.n c.self.invariant
    (found c)).0

unknown : (c : In_default) → IsKnown c.args.self.now c.args.place → ⊥
unknown c k =
    number_new c.self.inside.places.items c.self.inside.numbers.entries c.args.place c.self.invariant (cc (c.get.ensures.value, c.copied.ensures, c.in_default.is))
    (subst (λ (vs : List Vertex). IsKnown vs c.args.place) (sym c.self.view_is) k)

pub returns-in-Some-clause-number : goal.returns-in-Some-clause-number
returns-in-Some-clause-number c = stands (goal.at.returns-in-Some-clause-number c).In-Some

pub returns-in-Some-clause-first : goal.returns-in-Some-clause-first
returns-in-Some-clause-first c =
    subst (λ (vs : List Vertex). StandsFirst vs c.in-Some.n) c.self.view_is
    (number_known c.self.inside.places.items c.self.inside.numbers.entries c.args.place c.in-Some.n c.self.invariant
    (found (goal.at.returns-in-Some-clause-first c).In-Some)).1

pub returns-in-Some-clause-places : goal.returns-in-Some-clause-places
returns-in-Some-clause-places c = inl ((c.in-Some.n, stands (goal.at.returns-in-Some-clause-places c).In-Some), refl)

pub returns-in-Some-clause-refused : goal.returns-in-Some-clause-refused
returns-in-Some-clause-refused c = λ full new. absurd (new (c.in-Some.n, stands (goal.at.returns-in-Some-clause-refused c).In-Some))

pub returns-then-len-ge-ITEM_LIMIT-clause-new : goal.returns-then-len-ge-ITEM_LIMIT-clause-new
returns-then-len-ge-ITEM_LIMIT-clause-new c = λ e k. unknown (goal.at.returns-then-len-ge-ITEM_LIMIT-clause-new c).In_default k

pub returns-clause-number : goal.returns-clause-number
returns-clause-number c = pushed_number c.args.self.now c.push.new.self c.args.place c.push.result c.push.ensures.pushed c.push.ensures.number

pub returns-clause-first : goal.returns-clause-first
returns-clause-first c = pushed_first c.args.self.now c.push.new.self c.args.place c.push.result c.push.ensures.pushed c.push.ensures.number (unknown (goal.at.returns-clause-first c).In_default)

pub returns-clause-places : goal.returns-clause-places
returns-clause-places c = pushed_places c.args.self.now c.push.new.self c.args.place c.push.result c.push.ensures.pushed (unknown (goal.at.returns-clause-places c).In_default)

pub returns-clause-memory : goal.returns-clause-memory
returns-clause-memory c = λ e k. unknown (goal.at.returns-clause-memory c).In_default k
