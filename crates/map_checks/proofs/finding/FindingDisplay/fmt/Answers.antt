use Rattle.std.proofs.Common.{◌≡◌, ℕ, List, ◌++◌, append_assoc, codes}
use Rattle.std.specs.Prelude.{decimal}
use Rattle.std.proofs.Output.{has_written_of_eq}
use Rattle.map_checks.proofs.finding.FindingDisplay.fmt.Goals as goal

joined : (a b c d : List ℕ) → a ++ (b ++ (c ++ d)) ≡ a ++ b ++ c ++ d
joined a b c d = simp append_assoc

pub returns-in-SectorOpen-clause-writes : goal.returns-in-SectorOpen-clause-writes
returns-in-SectorOpen-clause-writes g c =
    rw c.in-SectorOpen.is
    (λ plain ok.
    has_written_of_eq _ _ _ _ _
    (joined (codes "sector ") (decimal c.in-SectorOpen.sector) (codes " open at vertex ") (decimal c.in-SectorOpen.vertex))
    (c.write-in-SectorOpen.ensures.writes plain ok))
