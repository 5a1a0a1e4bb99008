use Rattle.std.proofs.Common.{◌≡◌, ◌+◌, ◌≤◌, length, arith}
use Rattle.std.proofs.lemmas.Bool.Decides.{nat_tests}
use Rattle.std.specs.Prelude.{nat_le, true}
use Rattle.wad_levels.specs.Graphics.{is_texture_inside, texture_at, texture_count}
use Rattle.wad_levels.proofs.GraphicLemmas.{each_passes}
use Rattle.wad_levels.proofs.texture_lump.texture_at.Goals as goal

pub returns-clause-stands : goal.returns-clause-stands
returns-clause-stands c =
    let lump = c.args.lump.now in
    let inside : nat_le (texture_at lump c.args.n + 22) (length lump) ≡ true =
    each_passes (is_texture_inside lump) (texture_count lump) c.args.n c.requires.textures c.requires.among in
    let place = c.long_at.ensures in
    rw place (grind (arith, nat_tests))
