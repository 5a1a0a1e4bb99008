use Rattle.std.proofs.Common.{List, [], ◌∷◌, ◌++◌, map, take, sym, ap, ◌∙◌, arith}
use Rattle.std.specs.List.{enumerate_from}
use Rattle.std.proofs.lemmas.List.{take_all}
use Rattle.std.proofs.lemmas.List.FromFn.{length-enumerate_from}
use Rattle.map_checks.proofs.ItemReads.{is_there}
use Rattle.map_play.specs.declared.sided.SidedLine.{SidedLine}
use Rattle.map_play.specs.Sided.{sided}
use Rattle.map_play.proofs.ItemSteps.{numbered_more}
use Rattle.map_play.proofs.sided.sided_lines.Goals as goal

pub unwrap-line-requires : goal.unwrap-line-requires
unwrap-line-requires c = is_there c.args.map.now.tables.lines c.loop-n.n _ c.line.ensures.item (omega arith)

pub loop-n-preserved : goal.loop-n-preserved
loop-n-preserved c =
    let m = c.args.map.now.tables in
    c.in_ok-push.ensures.items
    ∙ ap (λ (ls : List SidedLine). ls ++ c.sided.result ∷ []) c.loop-n.invariant
    ∙ ap (λ (l : SidedLine). map (sided m) (take c.loop-n.n (enumerate_from 0 m.lines)) ++ l ∷ []) c.sided.ensures
    ∙ numbered_more (sided m) m.lines c.loop-n.n c.unwrap-line.result (sym c.line.ensures.item ∙ c.unwrap-line.ensures)

pub returns : goal.returns
returns c =
    let m = c.args.map.now.tables in
    c.loop-n.invariant
    ∙ ap (map (sided m))
    (take_all c.loop-n.n (enumerate_from 0 m.lines) (omega (arith, length-enumerate_from 0 m.lines, c.count-n-end.ensures.number, c.loop-n-test.false)))
