use Rattle.std.specs.Prelude.{flat_map, take}
use Rattle.std.specs.Io.KnownBytes.{Appends}
use Rattle.map_picture.specs.Picture.{part_text}
use Rattle.map_picture.proofs.picture.write_parts.Given as goal

-- the parts so far have been written
abbrev pub invariant-loop-part : goal.invariant-loop-part
invariant-loop-part g l =
    Appends (g.W.Write.contents l.fn.writer) (g.W.Write.contents l.writer) (flat_map (part_text l.map.tables l.step) (take l.part-index l.parts))
