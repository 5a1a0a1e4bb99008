use Rattle.std.proofs.Common.{List, [], ◌∷◌, ◌++◌, sym, ap, ◌∙◌, arith}
use Rattle.lump_records.specs.declared.records.Line.{Line}
use Rattle.map_areas.proofs.Copies.{is_there, one_more, all_there}
use Rattle.map_areas.proofs.lists.lines_of.Goals as goal

pub unwrap-line-requires : goal.unwrap-line-requires
unwrap-line-requires c = is_there c.args.map.now.tables.lines c.loop-n.n _ c.line.ensures.item (omega arith)

pub loop-n-preserved : goal.loop-n-preserved
loop-n-preserved c =
    c.in_ok-push.ensures.items
    ∙ ap (λ (ls : List Line). ls ++ c.unwrap-line.result ∷ []) c.loop-n.invariant
    ∙ one_more c.args.map.now.tables.lines c.loop-n.n c.unwrap-line.result (sym c.line.ensures.item ∙ c.unwrap-line.ensures)

pub returns : goal.returns
returns c =
    c.loop-n.invariant ∙ all_there c.args.map.now.tables.lines c.loop-n.n (omega arith)
