use Rattle.std.proofs.Common.{◌≡◌, ◌<◌, drop, length}
use Rattle.std.specs.Prelude.{slice_get}
use Rattle.map_script.specs.Files.{files_of}
use Rattle.map_script.proofs.files.name_in.Given as goal

-- the line is among those of the parts that are left
abbrev pub invariant-loop-part : goal.invariant-loop-part
invariant-loop-part l =
    (slice_get (files_of (drop l.part-index l.parts)) l.left ≡ slice_get (files_of l.parts) l.place)
    × (l.left < length (files_of (drop l.part-index l.parts)))
