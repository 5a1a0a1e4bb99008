use Rattle.wad_build.specs.Views.{built_view}
use Rattle.wad_build.specs.Wad.{drawn_lumps, tree_lumps, last_lumps}
use Rattle.wad_build.proofs.PutLemmas.{put_runs}
use Rattle.wad_build.proofs.levels.write_level.Goals as goal

pub returns-clause-lumps : goal.returns-clause-lumps
returns-clause-lumps g c =
    let of = g.W.Write.contents in
    let l = built_view c.args.named.now.level in
    put_runs (of c.args.writer.now) (of c.write_drawn.new.writer) (of c.write_tree.new.writer) (of c.write_last.new.writer) (drawn_lumps l) (tree_lumps l) (last_lumps l)
    c.in_ok-write_drawn.ensures.lumps c.in_ok-write_tree.ensures.lumps c.in_ok-write_last.ensures.lumps
