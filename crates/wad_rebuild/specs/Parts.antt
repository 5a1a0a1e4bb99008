-- The parts in which the lumps of a WAD are appended, and when a WAD would be too long.
use Rattle.std.specs.Prelude.{◌≡◌, ℕ, ◌+◌, ◌*◌, ◌<◌, ◌≤◌, true, List, ◌++◌, length}
use Rattle.wad_file.specs.Directory.{are_inside, lump_count}
use Rattle.wad_file.specs.Placed.{Placed, placed_bytes, placed_size}
use Rattle.wad_rebuild.specs.declared.error.RebuildError.{RebuildError}
use Rattle.wad_rebuild.specs.declared.error.RebuildError.TheVariants.{TooLong, NotAWad, DirectoryOutside, NoSuchLevel, LumpOutside, OutOfMemory}
use Rattle.wad_rebuild.specs.declared.parts.BoundedWad.{BoundedWad}

-- each lump of a WAD stands in the file
abbrev pub HasLumps : List ℕ → Type 0
HasLumps wad = are_inside wad 0 (lump_count wad) ≡ true

-- the WAD has at most the bytes that it may have, fewer than four gigabytes
pub record IsWithin (d : BoundedWad) : Type 0 where
  pub fits : placed_size d.lumps ≤ d.most
  pub short : d.most < 4294967296

-- these lumps are listed, and the WAD has at most the bytes that it may have
pub record AddsPlaced (old new : BoundedWad) (list : List Placed) : Type 0 where
  pub lumps_are : new.lumps ≡ old.lumps ++ list
  pub fits : IsWithin new
  pub most_stays : new.most ≡ old.most

-- with so many bytes and entries the WAD would have more bytes than it may have
abbrev pub Overfills : BoundedWad → ℕ → ℕ → Type 0
Overfills d bytes count = d.most < placed_size d.lumps + bytes + 16 * count

-- why they aren't listed
abbrev pub RefusesSize : BoundedWad → ℕ → ℕ → RebuildError → Type 0
RefusesSize d bytes count TooLong = Overfills d bytes count
RefusesSize d bytes count NotAWad = ⊥
RefusesSize d bytes count DirectoryOutside = ⊥
RefusesSize d bytes count NoSuchLevel = ⊥
RefusesSize d bytes count LumpOutside = ⊥
RefusesSize d bytes count OutOfMemory = Unit {0}

-- the same of lumps
abbrev pub RefusesPut : BoundedWad → List Placed → RebuildError → Type 0
RefusesPut d list e = RefusesSize d (placed_bytes list) (length list) e
