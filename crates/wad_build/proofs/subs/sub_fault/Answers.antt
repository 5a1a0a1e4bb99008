use Rattle.std.proofs.Common.{◌∙◌, ◌<◌, ◌≤◌, sym, length, arith, rules}
use Rattle.std.proofs.lemmas.List.{get_or_default}
use Rattle.lump_records.specs.declared.records.Sub.{Sub}
use Rattle.wad_levels.specs.Views.{view}
use Rattle.wad_build.proofs.FirstLemmas.{subs_more, sub_wrong, total_wrong, subs_right}
use Rattle.wad_build.proofs.subs.sub_fault.Goals as goal

pub returns-then-not-begins_at : goal.returns-then-not-begins_at
returns-then-not-begins_at c =
    let subs = c.args.level.now.subs.items in
    let below : c.loop-n.n < length subs = omega (arith, c.loop-n-test.true, c.len-n-end.ensures) in
    let is = λ (d : Sub). get_or_default subs c.loop-n.n d c.index-sub.result.now below ∙ sym c.index-sub.ensures in
    sub_wrong (view c.args.level.now) c.loop-n.n c.loop-n.at c.index-sub.result.now below is (sym c.begins_at.ensures ∙ c.if-not-begins_at.true) c.loop-n.invariant

pub loop-n-preserved : goal.loop-n-preserved
loop-n-preserved c =
    let subs = c.args.level.now.subs.items in
    let below : c.loop-n.n < length subs = omega (arith, c.loop-n-test.true, c.len-n-end.ensures) in
    let is = λ (d : Sub). get_or_default subs c.loop-n.n d c.index-sub.result.now below ∙ sym c.index-sub.ensures in
    subs_more subs c.loop-n.n c.loop-n.at c.index-sub.result.now below is (search rules) (sym c.begins_at.ensures ∙ c.if-not-begins_at.false) c.loop-n.invariant

pub returns-then-at-len : goal.returns-then-at-len
returns-then-at-len c =
    let past : length c.args.level.now.subs.items ≤ c.loop-n.n = omega (arith, c.loop-n-test.false, c.len-n-end.ensures) in
    total_wrong (view c.args.level.now) c.loop-n.n c.loop-n.at past c.loop-n.invariant (λ e. absurd (c.if-at-len.true (e ∙ sym c.args.level.now.segs.ok.0 ∙ sym c.len.ensures)))

pub returns : goal.returns
returns c =
    let past : length c.args.level.now.subs.items ≤ c.loop-n.n = omega (arith, c.loop-n-test.false, c.len-n-end.ensures) in
    subs_right (view c.args.level.now) c.loop-n.n c.loop-n.at past c.loop-n.invariant (c.if-at-len.false ∙ c.len.ensures ∙ c.args.level.now.segs.ok.0)
