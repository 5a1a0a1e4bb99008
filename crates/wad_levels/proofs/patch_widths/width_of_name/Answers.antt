use Rattle.std.proofs.Common.{◌∙◌, sym}
use Rattle.wad_file.specs.Directory.{lump_count}
use Rattle.wad_levels.proofs.PatchLemmas.{last_among}
use Rattle.wad_levels.proofs.patch_widths.width_of_name.Goals as goal

pub standing-requires : goal.standing-requires
standing-requires c =
    last_among c.args.wad.now c.args.name (lump_count c.args.wad.now) c.in-Some.k.now (sym (c.requires c.args.name) ∙ sym c.in-Some.ensures.value)
