-- What the lines so far need.
use Rattle.std.specs.Prelude.{◌≡◌, take}
use Rattle.wad_rebuild.specs.Remade.{used_count}
use Rattle.wad_rebuild.proofs.front.used_count.Given as goal

abbrev pub invariant-loop-line : goal.invariant-loop-line
invariant-loop-line l = l.count ≡ used_count (take l.line-index l.lines)
