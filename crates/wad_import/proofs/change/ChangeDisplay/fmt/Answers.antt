use Rattle.std.proofs.Common.{◌≡◌, ℕ, List, ◌++◌, append_assoc, codes}
use Rattle.std.specs.Prelude.{decimal}
use Rattle.std.proofs.Output.{has_written_of_eq}
use Rattle.wad_import.proofs.change.ChangeDisplay.fmt.Goals as goal

three : (a b c : List ℕ) → a ++ (b ++ c) ≡ a ++ b ++ c
three a b c = simp append_assoc

four : (a b c d : List ℕ) → a ++ (b ++ (c ++ d)) ≡ a ++ b ++ c ++ d
four a b c d = simp append_assoc

pub returns-in-VertexAgain-clause-writes : goal.returns-in-VertexAgain-clause-writes
returns-in-VertexAgain-clause-writes g c =
    rw c.in-VertexAgain.is
    (λ plain ok.
    has_written_of_eq _ _ _ _ _
    (four (codes "vertex ") (decimal c.in-VertexAgain.n) (codes ": is at the place of vertex ") (decimal c.in-VertexAgain.first))
    (c.write-in-VertexAgain.ensures.writes plain ok))

pub returns-in-Flats-clause-writes : goal.returns-in-Flats-clause-writes
returns-in-Flats-clause-writes g c =
    rw c.in-Flats.is
    (λ plain ok.
    has_written_of_eq _ _ _ _ _ (three (codes "sector ") (decimal c.in-Flats.n) (codes ": flats named in capitals, up to a NUL"))
    (c.write-in-Flats.ensures.writes plain ok))

pub returns-in-LineOut-clause-writes : goal.returns-in-LineOut-clause-writes
returns-in-LineOut-clause-writes g c =
    rw c.in-LineOut.is
    (λ plain ok.
    has_written_of_eq _ _ _ _ _ (three (codes "line ") (decimal c.in-LineOut.n) (codes ": left out, since it has no length"))
    (c.write-in-LineOut.ensures.writes plain ok))
