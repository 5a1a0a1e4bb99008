-- A WAD's flats and textures (docs/FORMAT.md, "Flats and textures").
use Rattle.std.specs.Prelude.{◌≡◌, ℕ, ℤ, zero, suc, ◌+◌, ◌*◌, ◌/◌, Bool, false, not, ◌&&◌, ◌||◌, ◌==◌, nat_lt, nat_le, List, [], ◌∷◌, ◌++◌, length, map, filter, sum_by, Option, Some, codes}
use Rattle.std.specs.List.{list_all, range_with_len}
use Rattle.std.specs.Option.{option_or}
use Rattle.lump_records.specs.Fields.{signed_at}
use Rattle.lump_records.specs.Records.{name_at}
use Rattle.lump_records.specs.declared.records.Name8.{Name8}
use Rattle.lump_textures.specs.Patched.{is_patched}
use Rattle.lump_textures.specs.declared.texture.Texture.{Texture}
use Rattle.wad_levels.specs.declared.error.ReadError.{ReadError}
use Rattle.wad_levels.specs.declared.error.ReadError.TheVariants.{LumpOutside, TextureLump, OutOfMemory}
use Rattle.wad_levels.specs.declared.graphics.Graphics.{Graphics}
use Rattle.wad_levels.specs.Listing.{listing_refusal}
use Rattle.wad_levels.specs.Patches.{count_at, patch_count, patch_widths, patches_of}
pub use Rattle.wad_levels.specs.NamedLumps.{capital_name, lump_of_name, stands_inside}
use Rattle.wad_file.specs.Directory.{entry, entry_has_name, first_failed, lump_count}
use Rattle.wad_file.specs.Fields.{long_at}

-- the names of flats, and textures
pub record GraphicNames : Type 0 where
  pub flats : List Name8
  pub textures : List Texture

-- ---- flats

-- of the entries F_START and F_END among the first k the last is F_START
abbrev pub are_flats_open : List ℕ → ℕ → Bool
are_flats_open wad zero = false
are_flats_open wad (suc k) =
    entry_has_name wad (codes "F_START") k
    || (not (entry_has_name wad (codes "F_END") k) && are_flats_open wad k)

-- the k-th entry is of a flat: it stands between the two, and isn't empty
abbrev pub is_flat : List ℕ → ℕ → Bool
is_flat wad k = are_flats_open wad k && nat_lt 0 (entry wad k).size

-- the name of the k-th entry in capitals
abbrev pub flat_name : List ℕ → ℕ → Name8
flat_name wad k = capital_name (entry wad k).name

-- the names of all flats, in the order of the directory
abbrev pub flat_names : List ℕ → List Name8
flat_names wad = map (flat_name wad) (filter (is_flat wad) (range_with_len 0 (lump_count wad)))

-- ---- textures

-- how many textures a lump lists
abbrev pub texture_count : List ℕ → ℕ
texture_count lump = long_at 0 lump

-- where the n-th one stands
abbrev pub texture_at : List ℕ → ℕ → ℕ
texture_at lump n = long_at (4 * n + 4) lump

-- the first 22 bytes of it stand in the lump: its name, its size, and how many patches it has
abbrev pub is_texture_inside : List ℕ → ℕ → Bool
is_texture_inside lump n = nat_le (texture_at lump n + 22) (length lump)

-- all textures stand so in the lump
abbrev pub are_all_inside : List ℕ → Bool
are_all_inside lump =
    list_all (is_texture_inside lump) (range_with_len 0 (texture_count lump))

-- how many columns the n-th texture has
abbrev pub column_count : List ℕ → ℕ → ℕ
column_count lump n = count_at (texture_at lump n + 12) lump

-- how many patches the n-th texture has
abbrev pub nth_patch_count : List ℕ → ℕ → ℕ
nth_patch_count lump n = patch_count lump (texture_at lump n)

-- what all textures have together of what each has so many
abbrev pub of_all : List ℕ → (ℕ → ℕ) → ℕ
of_all lump count_of = sum_by count_of (range_with_len 0 (texture_count lump))

-- a 128th of all textures' columns, or a quarter of all their patches, is more than the lump has bytes
abbrev pub is_overfull : List ℕ → Bool
is_overfull lump =
    nat_lt (length lump) (of_all lump (column_count lump) / 128)
    || nat_lt (length lump) (of_all lump (nth_patch_count lump) / 4)

-- the lump is empty, or a list of textures that isn't overfull: their count, the offset of each, and at each offset one
abbrev pub are_textures : List ℕ → Bool
are_textures lump =
    (length lump == 0)
    || (nat_le 4 (length lump) && nat_le (4 * texture_count lump + 4) (length lump)
    && (are_all_inside lump && not (is_overfull lump)))

-- the texture that stands at a place: its name in capitals, its height, and whether more than one patch covers some
-- column of it
abbrev pub texture_from : List ℤ → List ℕ → ℕ → Texture
texture_from widths lump at = record {
  name = capital_name (name_at at lump);
  height = signed_at (at + 14) lump;
  is_patched = is_patched (count_at (at + 12) lump) (patches_of widths lump at);
}

-- the n-th texture
abbrev pub nth_texture : List ℤ → List ℕ → ℕ → Texture
nth_texture widths lump n = texture_from widths lump (texture_at lump n)

-- the lump's textures
abbrev pub textures_of : List ℤ → List ℕ → List Texture
textures_of widths lump =
    map (nth_texture widths lump) (range_with_len 0 (texture_count lump))

-- ---- the WAD

-- the names of the flats, and the textures of TEXTURE1 and behind them those of TEXTURE2
abbrev pub graphics : List ℕ → GraphicNames
graphics wad =
    record {
      flats = flat_names wad;
      textures =
          textures_of (patch_widths wad) (lump_of_name wad (codes "TEXTURE1"))
          ++ textures_of (patch_widths wad) (lump_of_name wad (codes "TEXTURE2"));
    }

-- what a `Graphics` holds
abbrev pub graphics_view : Graphics → GraphicNames
graphics_view g = record { flats = g.flats.items; textures = g.textures.items }

-- the first refusal that holds of bytes whose flats and textures are wanted
abbrev pub graphics_refusal : List ℕ → Option ReadError
graphics_refusal wad =
    option_or (listing_refusal wad)
    (first_failed
    ((stands_inside wad (codes "TEXTURE1") && stands_inside wad (codes "TEXTURE2"), LumpOutside)
    ∷ (
      are_textures (lump_of_name wad (codes "TEXTURE1"))
          && are_textures (lump_of_name wad (codes "TEXTURE2")),
      TextureLump,
    )
    ∷ []
    ))

-- that refusal, or lack of memory
abbrev pub RefusesGraphics : List ℕ → ReadError → Type 0
RefusesGraphics wad OutOfMemory = Unit {0}
RefusesGraphics wad e = graphics_refusal wad ≡ Some e
