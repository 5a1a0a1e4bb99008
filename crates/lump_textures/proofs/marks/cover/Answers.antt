use Rattle.lump_textures.proofs.MarkSteps.{covered}
use Rattle.lump_textures.proofs.marks.cover.Goals as goal

pub returns-clause-covered : goal.returns-clause-covered
returns-clause-covered c =
    covered c.args.width c.args.patch c.first_column-first.result c.end_column-end.result c.args.marks.now c.mark.new.marks c.end_column-end.ensures.within
    c.first_column-first.ensures c.end_column-end.ensures.end c.mark.result c.mark.ensures.marked
