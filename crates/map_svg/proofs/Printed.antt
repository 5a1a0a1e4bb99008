-- Signed numbers as a machine prints them.
use Rattle.std.proofs.lemmas.Int.{to_z-of_z}

-- the machine's number is the one that it stands for
pub ruleset printed = (to_z-of_z)
