use Rattle.std.proofs.Common.{◌≡◌, ℕ, List, [], ◌∷◌, ◌++◌, length, sym, ap, ◌∙◌, subst, arith}
use Rattle.lump_records.specs.declared.records.Vertex.{Vertex}
use Rattle.tree_pieces.specs.Places.{IsIndexed, IsNoted}
use Rattle.tree_pieces.proofs.Known.{indexed_more}
use Rattle.tree_pieces.proofs.numbered.Points.push.Goals as goal

pub invariant_of-self-2 : goal.invariant_of-self-2
invariant_of-self-2 c =
    let vs = c.self.inside.places.items in
    let v = c.args.place in
    let items : c.push.new.self.items ≡ vs ++ v ∷ [] = c.in-Ok-push.ensures.items ∙ ap (λ (xs : List Vertex). xs ++ v ∷ []) c.reserve.ensures.items in
    let number : c.len-n.result ≡ length vs = omega (arith, c.len-n.ensures, c.self.inside.places.ok.0) in
    let noted = subst (λ (n : ℕ). IsNoted c.self.inside.numbers.entries v n c.note.new.numbers.entries) number c.in-Ok-note.ensures.noted in
    let same = ap length c.self.view_is in
    subst (λ (xs : List Vertex). IsIndexed xs c.note.new.numbers.entries) (sym items)
    (indexed_more vs c.self.inside.numbers.entries c.note.new.numbers.entries v c.self.invariant (omega (arith, same, c.requires)) noted)
