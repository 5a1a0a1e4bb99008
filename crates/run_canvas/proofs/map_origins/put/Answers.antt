use Rattle.run_canvas.proofs.Origins.{put_is}
use Rattle.run_canvas.proofs.map_origins.put.Goals as goal

pub returns : goal.returns
returns c =
    put_is c.args.list.now c.resize.new.self.items c.len.result c.args.count c.args.place c.resize.result c.len.ensures c.requires c.resize.ensures.items c.resize.ensures.succeeds
