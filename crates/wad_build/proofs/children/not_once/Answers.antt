use Rattle.std.proofs.Common.{◌∙◌, ◌<◌, ◌≤◌, length, arith}
use Rattle.std.proofs.lemmas.List.{get_or_default}
use Rattle.wad_build.specs.Counts.{times_among}
use Rattle.wad_build.proofs.FirstLemmas.{once_wrong, once_more, once_none, counted_once, not_counted_once}
use Rattle.wad_build.proofs.children.not_once.Goals as goal

pub returns-then-index-ne1-clause-place : goal.returns-then-index-ne1-clause-place
returns-then-index-ne1-clause-place c =
    let counts = c.in_ok-counts.counts.items in
    let within : c.loop-n.n < length counts = omega (arith, c.loop-n-test.true, c.len-n-end.ensures) in
    let below : c.loop-n.n < c.args.len = omega (arith, within, c.in_ok-counts.ensures.length) in
    let count = c.index.ensures ∙ get_or_default counts c.loop-n.n _ 0 within ∙ c.in_ok-counts.ensures.counts.each c.loop-n.n within in
    once_wrong c.args.base c.args.end c.args.children.now c.args.len c.loop-n.n below c.loop-n.invariant
    (not_counted_once c.index.result.now (times_among c.args.base c.args.end c.args.children.now c.loop-n.n) count c.if-index-ne1.true)

pub loop-n-preserved : goal.loop-n-preserved
loop-n-preserved c =
    let counts = c.in_ok-counts.counts.items in
    let within : c.loop-n.n < length counts = omega (arith, c.loop-n-test.true, c.len-n-end.ensures) in
    let below : c.loop-n.n < c.args.len = omega (arith, within, c.in_ok-counts.ensures.length) in
    let count = c.index.ensures ∙ get_or_default counts c.loop-n.n _ 0 within ∙ c.in_ok-counts.ensures.counts.each c.loop-n.n within in
    once_more c.args.base c.args.end c.args.children.now c.args.len c.loop-n.n below c.loop-n.invariant
    (counted_once c.index.result.now (times_among c.args.base c.args.end c.args.children.now c.loop-n.n) count c.if-index-ne1.false)

pub returns-clause-place : goal.returns-clause-place
returns-clause-place c =
    let counts = c.in_ok-counts.counts.items in
    let past : c.args.len ≤ c.loop-n.n = omega (arith, c.loop-n-test.false, c.len-n-end.ensures, c.in_ok-counts.ensures.length) in
    once_none c.args.base c.args.end c.args.children.now c.args.len c.loop-n.n past c.loop-n.invariant
