use Rattle.std.proofs.Common.{◌∙◌, sym}
use Rattle.wad_levels.specs.Views.{view}
use Rattle.wad_build.proofs.FirstLemmas.{block_first}
use Rattle.wad_build.proofs.blocks.block_fault.Goals as goal

pub returns-in-Some-clause-fault : goal.returns-in-Some-clause-fault
returns-in-Some-clause-fault c =
    block_first (view c.args.level.now) c.args.lump.now c.len.result c.blocks_in-blocks.result c.in_ok-flags.flags.items c.deref.result.now _ c.requires.words
    (c.len.ensures ∙ c.args.level.now.lines.ok.0) c.in_ok-flags.ensures.each c.in_ok-flags.ensures.length c.deref.ensures.value c.blocks_in-blocks.ensures (sym c.in-Some.is ∙ c.unflagged.ensures)

pub returns-clause-fault : goal.returns-clause-fault
returns-clause-fault c =
    block_first (view c.args.level.now) c.args.lump.now c.len.result c.blocks_in-blocks.result c.in_ok-flags.flags.items c.deref.result.now _ c.requires.words
    (c.len.ensures ∙ c.args.level.now.lines.ok.0) c.in_ok-flags.ensures.each c.in_ok-flags.ensures.length c.deref.ensures.value c.blocks_in-blocks.ensures (sym c.in-None.is ∙ c.unflagged.ensures)
