-- Marks of the columns that patches cover.
use Rattle.std.specs.Prelude.{◌≡◌, ℕ, ◌≤◌, ◌<◌, Bool, true, false, ◌&&◌, ◌||◌, if◌then◌else◌, List, get_or, length, nat_le, nat_lt}
use Rattle.lump_textures.specs.declared.patch.Patch.{Patch}
use Rattle.lump_textures.specs.Patched.{patch_covers, patches_over}

-- the columns from `first` up to `end` weren't marked, and now they are, beside those that were
pub record AreFree (first end : ℕ) (old new : List Bool) : Type 0 where
  pub free : (x : ℕ) → first ≤ x → x < end → get_or old x false ≡ false
  pub marked : (x : ℕ) → get_or new x false
      ≡ (get_or old x false || (nat_le first x && nat_lt x end))

-- one of these columns was marked
pub record HasMarked (first end : ℕ) (old : List Bool) : Type 0 where
  pub column : ℕ
  pub from : first ≤ column
  pub before : column < end
  pub marked : get_or old column false ≡ true

-- the columns that the patch covers weren't marked, and now they are, beside those that were
pub record IsFree (width : ℕ) (p : Patch) (old new : List Bool) : Type 0 where
  pub free : (x : ℕ) → x < width → patch_covers x p ≡ true → get_or old x false ≡ false
  pub marked : (x : ℕ) → x < width → get_or new x false ≡ (get_or old x false || patch_covers x p)

-- one of these columns was marked
pub record IsMarked (width : ℕ) (p : Patch) (old : List Bool) : Type 0 where
  pub column : ℕ
  pub within : column < width
  pub covered : patch_covers column p ≡ true
  pub marked : get_or old column false ≡ true

-- the mark of each column says whether a patch covers it, and none is covered by more than one
pub record MarksColumns (width : ℕ) (patches : List Patch) (marks : List Bool) : Type 0 where
  pub count : length marks ≡ width
  pub marked : (x : ℕ) → x < width
      → patches_over patches x ≡ (if get_or marks x false then 1 else 0)
