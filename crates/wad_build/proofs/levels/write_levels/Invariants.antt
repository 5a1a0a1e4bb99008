-- The lumps of the levels so far are written.
use Rattle.std.specs.Prelude.{take, All}
use Rattle.std.specs.Io.KnownBytes.{Appends}
use Rattle.wad_file.specs.Lumps.{all_bytes}
use Rattle.wad_build.specs.Wad.{all_lumps, IsCoded}
use Rattle.wad_build.specs.Views.{built_view, level_parts}
use Rattle.wad_build.proofs.levels.write_levels.Given as goal

abbrev pub invariant-loop-n : goal.invariant-loop-n
invariant-loop-n g l =
    Appends (g.W.Write.contents l.fn.writer) (g.W.Write.contents l.writer) (all_bytes (all_lumps (level_parts (take l.n l.levels))))
    × All (λ x. IsCoded (built_view x.level)) (take l.n l.levels)
