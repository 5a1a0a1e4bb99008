-- How the fields of a disk in memory represent what it holds.
use Rattle.std.specs.Prelude.{◌≡◌, ℕ, List, length}
use Rattle.store_disk.specs.Medium.{Medium, IsImage}

-- the fields are the parts of what the disk holds; its file is one of its images, and no call has shortened the
-- file
pub record Shows (m : Medium) (file synced : List ℕ) (writes : List (ℕ × ℕ)) : Type 0 where
  pub file_is : m.file ≡ file
  pub synced_is : m.synced ≡ synced
  pub writes_are : m.writes ≡ writes
  pub longest_is : m.longest ≡ length m.file
  pub image : IsImage m m.file
