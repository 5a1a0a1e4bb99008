use Rattle.cli_rebuild.proofs.Holding.{held_more, held_none}
use Rattle.cli_rebuild.proofs.held.hold_all.Goals as goal

pub loop-k-init : goal.loop-k-init
loop-k-init g c = (c.requires.ready, held_none c.args.directory.now c.args.writer.now.lumps c.requires.none)

pub loop-k-preserved : goal.loop-k-preserved
loop-k-preserved g c = (
  c.in-Ok.ensures.takes,
  held_more c.args.directory.now c.loop-k.k c.loop-k.writer c.hold_one.new.writer c.entry_in-entry.result c.loop-k.invariant.1 c.entry_in-entry.ensures c.in-Ok.ensures,
)
