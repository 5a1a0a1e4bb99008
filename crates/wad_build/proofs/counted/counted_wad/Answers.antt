use Rattle.std.proofs.Common.{◌∙◌, ◌++◌, List, ℕ, ap}
use Rattle.wad_build.specs.Views.{level_parts}
use Rattle.wad_build.specs.Wad.{all_lumps, wad_bytes}
use Rattle.wad_build.proofs.LevelLemmas.{levels_read}
use Rattle.wad_build.proofs.counted.counted_wad.Goals as goal

pub returns-in-Ok-clause-levels : goal.returns-in-Ok-clause-levels
returns-in-Ok-clause-levels c =
    let xs = c.args.levels.now in
    levels_read c.write_pwad.new.writer.items xs c.requires.parts (c.in-Ok.ensures.bytes ∙ ap (λ (ws : List ℕ). ws ++ wad_bytes (all_lumps (level_parts xs))) c.in_ok-bytes.ensures.items)
    c.in-Ok.ensures.coded
