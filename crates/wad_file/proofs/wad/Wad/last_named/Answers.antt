use Rattle.std.proofs.Common.{◌∙◌, sym, refl}
use Rattle.wad_file.proofs.DirectoryLemmas.{last_below, last_found}
use Rattle.wad_file.proofs.wad.Wad.last_named.Goals as goal

pub returns-then-is_named-clause-last : goal.returns-then-is_named-clause-last
returns-then-is_named-clause-last c =
    sym (c.loop-behind.invariant ∙ last_found c.args.self.now c.args.name.now c.count-count.result c.loop-behind.behind _ c.loop-behind-test.true refl
    (sym c.is_named.ensures ∙ c.if-is_named.true))

pub loop-behind-preserved : goal.loop-behind-preserved
loop-behind-preserved c =
    c.loop-behind.invariant ∙ last_below c.args.self.now c.args.name.now c.count-count.result c.loop-behind.behind _ c.loop-behind-test.true refl (sym c.is_named.ensures ∙ c.if-is_named.false)
