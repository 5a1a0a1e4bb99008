use Rattle.map_blocks.proofs.OneOut.{put_around}
use Rattle.map_blocks.proofs.leaving.files_without.Goals as goal

pub returns-clause-ok : goal.returns-clause-ok
returns-clause-ok c =
    put_around c.args.files.now c.new-rest.result c.put_files.new.rest c.put_files-2.new.rest c.args.place c.args.count c.new-rest.ensures c.in_ok-put_files.ensures.ok c.in_ok-put_files-2.ensures.ok
    c.requires.count
