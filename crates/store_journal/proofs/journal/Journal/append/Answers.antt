use Rattle.std.proofs.Common.{ℕ, List, [], ◌∷◌, sym, subst}
use Rattle.store_journal.specs.Groups.{IsGroupOf}
use Rattle.store_journal.proofs.Groups.{one_group}
use Rattle.store_journal.proofs.journal.Journal.append.Goals as goal

pub put-requires-clause-group : goal.put-requires-clause-group
put-requires-clause-group g c = (
  c.args.payload.now ∷ [],
  subst (λ (l : List ℕ). IsGroupOf (c.args.payload.now ∷ []) (165 ∷ l)) (sym c.put_block.ensures) (one_group c.args.payload.now c.requires.short),
)

pub returns-clause-any_moment : goal.returns-clause-any_moment
returns-clause-any_moment g c =
    c.put.ensures.any_moment (c.args.payload.now ∷ [])
    (subst (λ (l : List ℕ). IsGroupOf (c.args.payload.now ∷ []) (165 ∷ l)) (sym c.put_block.ensures) (one_group c.args.payload.now c.requires.short))
