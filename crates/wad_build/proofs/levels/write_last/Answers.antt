use Rattle.std.proofs.Common.{List, ℕ, replicate, subst}
use Rattle.std.specs.Io.KnownBytes.{Appends}
use Rattle.wad_build.proofs.PutLemmas.{put_three}
use Rattle.wad_build.proofs.levels.write_last.Goals as goal

pub returns-clause-lumps : goal.returns-clause-lumps
returns-clause-lumps g c =
    let of = g.W.Write.contents in
    put_three (of c.args.writer.now) (of c.write_sectors.new.writer) (of c.write_zeros.new.writer) (of c.write_all.new.self) _ _ _ c.in_ok-write_sectors.ensures.lump
    (subst (λ (n : ℕ). Appends (of c.write_sectors.new.writer) (of c.write_zeros.new.writer) (replicate n 0)) c.reject_len.ensures c.in_ok-write_zeros.ensures)
    (subst (λ (bs : List ℕ). Appends (of c.write_zeros.new.writer) (of c.write_all.new.self) bs) c.deref.ensures.value c.in_ok-write_all.ensures.bytes)
