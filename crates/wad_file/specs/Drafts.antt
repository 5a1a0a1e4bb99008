-- A WAD that is written lump by lump.
use Rattle.std.specs.Prelude.{◌≡◌, ℕ, ◌+◌, ◌*◌, ◌<◌, List, [], ◌++◌, length}
use Rattle.wad_file.specs.Lumps.{Lump, all_bytes, wad_size}

-- its lumps so far, and the bytes of the lump that is begun
pub record Draft : Type 0 where
  pub lumps : List Lump
  pub begun : List ℕ

-- nothing is written
abbrev pub no_lumps : Draft
no_lumps = record { lumps = []; begun = [] }

-- no lump is begun, and with these lumps the WAD has fewer than four gigabytes
pub record Takes (d : Draft) (lumps : List Lump) : Type 0 where
  pub ready : d.begun ≡ []
  pub fits : wad_size d.lumps + length (all_bytes lumps) + 16 * length lumps < 4294967296

-- these lumps are appended, and no lump is begun: so the WAD grows by their bytes and entries
pub record Puts (old new : Draft) (lumps : List Lump) : Type 0 where
  pub lumps_are : new.lumps ≡ old.lumps ++ lumps
  pub grows : wad_size new.lumps
      ≡ wad_size old.lumps + length (all_bytes lumps) + 16 * length lumps
  pub ready : new.begun ≡ []
