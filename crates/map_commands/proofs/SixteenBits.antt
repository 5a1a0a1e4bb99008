-- Ranges fit sixteen bits.
use Rattle.std.proofs.Common.{ℤ, pos, negsuc, FitsSigned, lit<}
use Rattle.std.specs.Int.{w16}
use Rattle.lump_records.specs.Drawing.{IsBetween, IsCoordinate}
use Rattle.map_tables.specs.Ranges.{IsCode, IsShort}
use Rattle.map_words.proofs.NumeralWords.{fits-between}

pub coordinate-fits : (z : ℤ) → IsCoordinate z → FitsSigned w16 z
coordinate-fits z h = fits-between (negsuc 16383) (pos 16383) z (record { sfits = lit< tt }) (record { sfits = lit< tt }) h

pub short-fits : (z : ℤ) → IsShort z → FitsSigned w16 z
short-fits z h = fits-between (negsuc 32767) (pos 32767) z (record { sfits = lit< tt }) (record { sfits = lit< tt }) h

pub code-fits : (z : ℤ) → IsCode z → FitsSigned w16 z
code-fits z h = fits-between (pos 0) (pos 32767) z (record { sfits = lit< tt }) (record { sfits = lit< tt }) h

pub light-fits : (z : ℤ) → IsBetween (pos 0) (pos 255) z → FitsSigned w16 z
light-fits z h = fits-between (pos 0) (pos 255) z (record { sfits = lit< tt }) (record { sfits = lit< tt }) h

pub angle-fits : (z : ℤ) → IsBetween (pos 0) (pos 359) z → FitsSigned w16 z
angle-fits z h = fits-between (pos 0) (pos 359) z (record { sfits = lit< tt }) (record { sfits = lit< tt }) h
