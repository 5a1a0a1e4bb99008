use Rattle.wad_rebuild.specs.Held.{directory_of, placed_lumps}
use Rattle.wad_rebuild.proofs.WholeLemmas.{list_refused, listed_all}
use Rattle.wad_rebuild.proofs.whole.list_lumps.Goals as goal

pub returns : goal.returns
returns c =
    listed_all c.args.wad.now (directory_of c.args.held.now) c.args.len c.args.levels.now (record { lumps = c.in-Ok.lumps; most = c.size_limit-most.result }) c.put_rebuilt.new.to c.in-Ok.ensures
    c.size_limit-most.ensures c.in-Ok-put_rebuilt.ensures

pub returns-in-Err-put_rebuilt : goal.returns-in-Err-put_rebuilt
returns-in-Err-put_rebuilt c =
    list_refused (record { lumps = c.in-Ok.lumps; most = c.size_limit-most.result }) c.args.len (placed_lumps c.args.wad.now (directory_of c.args.held.now) c.args.levels.now) c.in-Err-put_rebuilt.error c.in-Ok.ensures
    c.size_limit-most.ensures c.in-Err-put_rebuilt.ensures
