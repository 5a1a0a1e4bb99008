use Rattle.run_script.proofs.ToldBlocks.{told_more}
use Rattle.run_script.proofs.reading.put_block.Goals as goal

pub returns-clause-told : goal.returns-clause-told
returns-clause-told c =
    told_more c.args.reading.now.told.items c.push.new.self.items c.told_block.result c.args.reading.now.blocks.items c.push-2.new.self.items c.args.block c.requires.told
    c.told_block.ensures c.in_ok-push.ensures.items c.in_ok-push-2.ensures.items
