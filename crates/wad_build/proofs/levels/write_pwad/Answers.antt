use Rattle.wad_build.proofs.LevelLemmas.{pwad_fits, pwad_written}
use Rattle.wad_build.proofs.levels.write_pwad.Goals as goal

pub write_header-requires : goal.write_header-requires
write_header-requires g c = pwad_fits c.args.list.now c.args.levels.now c.requires.listed c.requires.sized c.requires.parts

pub returns-clause-bytes : goal.returns-clause-bytes
returns-clause-bytes g c =
    let of = g.W.Write.contents in
    pwad_written (of c.args.writer.now) (of c.write_header.new.writer) (of c.write_levels.new.writer) (of c.write_directory.new.writer) c.args.list.now c.args.levels.now c.requires.listed
    c.requires.sized c.in_ok-write_header.ensures c.in_ok-write_levels.ensures.lumps c.in_ok-write_directory.ensures
