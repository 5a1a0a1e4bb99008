-- What is read of a WAD's header.
use Rattle.std.specs.Prelude.{◌≡◌, true}
use Rattle.wad_file.specs.Directory.{HasEntries, directory_at, is_wad, lump_count}
use Rattle.wad_file.specs.declared.wad.Wad.TheInside.{Inside}

-- the bytes are a WAD's, its directory stands in them, and the numbers are the header's
pub record IsRead (a : Inside) : Type 0 where
  pub like : is_wad a.bytes.now ≡ true
  pub entries : HasEntries a.bytes.now
  pub count_is : a.count ≡ lump_count a.bytes.now
  pub directory_is : a.directory ≡ directory_at a.bytes.now
