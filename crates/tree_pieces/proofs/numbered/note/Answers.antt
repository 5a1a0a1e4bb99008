use Rattle.std.proofs.Common.{sym, ◌∙◌, refl, inl, inr}
use Rattle.indexmap.proofs.CallerLemmas.{insert_entry-new}
use Rattle.lump_records.specs.contracts.records.VertexPartialEq.TheImpl.{eq-value}
use Rattle.tree_pieces.proofs.Known.{indexed, not_indexed, none_of}
use Rattle.tree_pieces.proofs.numbered.note.Goals as goal

pub returns-then-contains_key-clause-noted : goal.returns-then-contains_key-clause-noted
returns-then-contains_key-clause-noted c = inl (indexed c.args.place c.args.numbers.now.entries (sym c.contains_key.ensures ∙ c.if-contains_key.true), refl)

pub returns-in-Ok-clause-noted : goal.returns-in-Ok-clause-noted
returns-in-Ok-clause-noted c =
    let none = sym c.contains_key.ensures ∙ c.if-contains_key.false in
    inr (not_indexed c.args.place c.args.numbers.now.entries none, c.in-Ok.ensures.entries ∙ insert_entry-new eq-value.it c.args.numbers.now c.args.place c.args.n (none_of _ none))
