-- The words so far.
use Rattle.std.specs.Prelude.{◌≡◌, map, take}
use Rattle.lump_records.specs.Fields.{unsigned_at}
use Rattle.wad_build.proofs.blocks.words_of.Given as goal

abbrev pub invariant-loop-chunk : goal.invariant-loop-chunk
invariant-loop-chunk l = l.all.items ≡ map (unsigned_at 0) (take l.chunk-index l.chunks)
