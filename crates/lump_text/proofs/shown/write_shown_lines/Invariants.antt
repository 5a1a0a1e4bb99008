use Rattle.std.proofs.Common.{◌≡◌, ℕ, ◌++◌, List, length}
use Rattle.std.specs.Io.KnownBytes.{Appends}
use Rattle.lump_text.specs.Shown.{shown_lines}
use Rattle.lump_text.proofs.shown.write_shown_lines.Given as goal

-- the lines so far have been written, and those of the rest are left
abbrev pub invariant-loop-rest : goal.invariant-loop-rest
invariant-loop-rest g l =
    (told : List ℕ) × Appends (g.W.Write.contents l.fn.writer) (g.W.Write.contents l.writer) told
    × (told ++ shown_lines l.rest ≡ shown_lines l.fn.text)

abbrev pub decreases-loop-rest : goal.decreases-loop-rest
decreases-loop-rest g l = length l.rest
