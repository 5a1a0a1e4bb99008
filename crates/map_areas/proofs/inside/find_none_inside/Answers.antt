use Rattle.std.proofs.Common.{sym, ◌∙◌, arith, below_more}
use Rattle.std.proofs.lemmas.Bool.{false≢true}
use Rattle.map_areas.specs.Inside.{IsPartInside}
use Rattle.map_areas.proofs.InParts.{inside_all}
use Rattle.map_areas.proofs.inside.find_none_inside.Goals as goal

pub returns-clause-empty : goal.returns-clause-empty
returns-clause-empty c =
    inside_all c.args.map.now.tables c.args.border.now.edges.items c.args.border.now.doubled.items c.loop-n.n (omega arith) c.loop-n.invariant

pub loop-n-preserved : goal.loop-n-preserved
loop-n-preserved c =
    below_more (λ k. IsPartInside c.args.map.now.tables c.args.border.now.edges.items c.args.border.now.doubled.items k → ⊥) c.loop-n.n c.loop-n.invariant
    (λ h. false≢true (sym c.if-found.false ∙ c.in_ok-found.ensures.1 h))
