use Rattle.std.proofs.Common.{◌≡◌, subst, List, arith, IfOk, IfErr}
use Rattle.lump_records.specs.declared.records.Vertex.{Vertex}
use Rattle.tree_nodes.specs.Built.{IsBuiltOver, IsRefusalOver}
use Rattle.tree_nodes.specs.Refusals.{IsTreeRefused}
use Rattle.tree_nodes.specs.declared.error.TreeError.TheVariants.{TooManyVertices}
use Rattle.tree_nodes.proofs.Building.{build_refused, too_many_drawn, too_many_lines}
use Rattle.tree_nodes.proofs.built.build_lines.Goals as goal

pub returns-then-drawn-gt-ITEM_LIMIT-clause-refused : goal.returns-then-drawn-gt-ITEM_LIMIT-clause-refused
returns-then-drawn-gt-ITEM_LIMIT-clause-refused c = too_many_drawn c.args.lines.now c.are_drawn.ensures c.args.drawn.now (omega (arith, c.if-drawn-gt-ITEM_LIMIT.true))

pub returns-then-len-gt-ITEM_LIMIT-clause-refused : goal.returns-then-len-gt-ITEM_LIMIT-clause-refused
returns-then-len-gt-ITEM_LIMIT-clause-refused c = too_many_lines c.args.lines.now c.are_drawn.ensures (omega (arith, c.if-len-gt-ITEM_LIMIT.true))

pub returns-in-Err-clause-refused : goal.returns-in-Err-clause-refused
returns-in-Err-clause-refused c = build_refused c.args.lines.now c.args.drawn.now c.in-Err.error c.in-Err.ensures.refused

-- the growth never refuses because there is no line, or for vertices
pub returns-in-Err-clause-last : goal.returns-in-Err-clause-last
returns-in-Err-clause-last c = λ few h. let e : c.in-Err.error ≡ TooManyVertices = cc h in absurd (subst (IsTreeRefused c.args.lines.now) e c.in-Err.ensures.refused)

pub returns-clause-built : goal.returns-clause-built
returns-clause-built c = subst (λ (d : List Vertex). IfOk c.number_over.result (IsBuiltOver c.args.lines.now d)) c.in-Ok-over.ensures.drawn c.number_over.ensures.built

pub returns-clause-refused : goal.returns-clause-refused
returns-clause-refused c = subst (λ (d : List Vertex). IfErr c.number_over.result (IsRefusalOver c.args.lines.now d)) c.in-Ok-over.ensures.drawn c.number_over.ensures.refused
