-- What refuses a level, and a level that passes each test.
use Rattle.std.proofs.Common.{◌≡◌, refl, ℕ, ◌+◌, true, false, List, Some, None}
use Rattle.wad_file.specs.Directory.{are_inside, has_directory, is_wad}
use Rattle.wad_levels.specs.Listing.{listing_refusal}
use Rattle.wad_levels.specs.declared.error.ReadError.{ReadError}
use Rattle.wad_levels.specs.Levels.{are_whole, has_lumps, is_hexen, marker, record_sizes, refusal}

pub accepts :
    (wad name : List ℕ) (at : ℕ) → is_wad wad ≡ true → has_directory wad ≡ true → marker wad name ≡ Some at → has_lumps wad at ≡ true → is_hexen wad at ≡ false
    → are_inside wad (at + 1) 10 ≡ true → are_whole wad (at + 1) record_sizes ≡ true → refusal wad name ≡ None
accepts wad name at w d m l h i s = rw (w, d, m, l, h, i, s) refl

-- what refuses the bytes refuses the level
pub refused : (wad name : List ℕ) (e : ReadError) → listing_refusal wad ≡ Some e → refusal wad name ≡ Some e
refused wad name e q = rw q refl
