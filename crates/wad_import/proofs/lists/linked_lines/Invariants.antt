-- The lines so far are in the list.
use Rattle.std.proofs.Common.{◌≡◌, map, take}
use Rattle.std.specs.Prelude.{slice_index}
use Rattle.wad_import.specs.Mended.{linked_line}
use Rattle.wad_import.proofs.lists.linked_lines.Given as goal

abbrev pub invariant-loop-line : goal.invariant-loop-line
invariant-loop-line l = l.list.items ≡ map (linked_line (slice_index l.numbers)) (take l.line-index l.lines)
