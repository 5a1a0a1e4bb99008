use Rattle.std.proofs.Common.{sym, ◌∙◌}
use Rattle.std.proofs.lemmas.Grind.{get_or_default_zero}
use Rattle.store_disk.proofs.Overwriting.{byte_at}
use Rattle.store_disk.proofs.fixed_file.FixedFile.byte.Goals as goal

pub returns : goal.returns
returns c =
    let f = c.args.self.now in
    c.index.ensures ∙ get_or_default_zero f.bytes.items c.args.place _ c.requires ∙ sym (byte_at f.bytes.items f.len f.fits f.zeros c.args.place)
