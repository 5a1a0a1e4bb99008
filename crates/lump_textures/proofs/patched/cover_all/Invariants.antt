use Rattle.std.proofs.Common.{take}
use Rattle.lump_textures.specs.Marks.{MarksColumns}
use Rattle.lump_textures.proofs.patched.cover_all.Given as goal

-- the columns of the patches so far are marked, and none is of more than one
abbrev pub invariant-loop-patch : goal.invariant-loop-patch
invariant-loop-patch l = MarksColumns l.width (take l.patch-index l.patches) l.marks
