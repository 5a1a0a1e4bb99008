use Rattle.std.proofs.Common.{◌∙◌, sym, ◌<◌, ◌≤◌, length, arith}
use Rattle.tree_blocks.proofs.EndsLemmas.{ends_more, no_gap, ends_all, ends_few}
use Rattle.tree_blocks.proofs.line_ends.ends_of.Goals.{in-Some+in_ok-push, in_default}
use Rattle.tree_blocks.proofs.line_ends.ends_of.Goals as goal

pub loop-n-preserved : goal.loop-n-preserved
loop-n-preserved c =
    let vs = c.args.map.now.tables.vertices in
    let ls = c.args.map.now.tables.lines in
    elim c.match-line.branch [
      | in-Some+in_ok-push w ↦
          rw w.ends-is
          (w.in_ok-push.ensures.items
          ∙ ends_more vs ls c.loop-n.n w.in-Some.line c.loop-n.ends.items w.ends_in.result (sym c.line.ensures.item ∙ w.in-Some.is) w.ends_in.ensures c.loop-n.invariant)
      | in_default w ↦
          (let below : c.loop-n.n < length ls = omega (arith, c.count-n-end.ensures.number, c.loop-n-test.true) in
          absurd (no_gap ls c.loop-n.n below (λ line e. w.in_default.not-Some line (c.line.ensures.item ∙ e))))
    ]

pub returns-clause-ends : goal.returns-clause-ends
returns-clause-ends c =
    let whole : length c.args.map.now.tables.lines ≤ c.loop-n.n = omega (arith, c.count-n-end.ensures.number, c.loop-n-test.false) in
    ends_all c.args.map.now.tables.vertices c.args.map.now.tables.lines c.loop-n.n c.loop-n.ends.items whole c.loop-n.invariant

pub returns-clause-few : goal.returns-clause-few
returns-clause-few c =
    let whole : length c.args.map.now.tables.lines ≤ c.loop-n.n = omega (arith, c.count-n-end.ensures.number, c.loop-n-test.false) in
    let all = ends_all c.args.map.now.tables.vertices c.args.map.now.tables.lines c.loop-n.n c.loop-n.ends.items whole c.loop-n.invariant in
    let same = ends_few c.args.map.now.tables.vertices c.args.map.now.tables.lines c.loop-n.ends.items all in
    omega (arith, same, c.count-n-end.ensures.number, c.count-n-end.ensures.limit)
