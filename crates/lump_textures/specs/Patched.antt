-- Columns of a texture that more than one patch covers.
use Rattle.std.specs.Prelude.{ℕ, Bool, ◌&&◌, List, count_by, int_le, int_lt, nat_lt, pos, ◌+ℤ◌}
use Rattle.std.specs.List.{list_any, range_with_len}
use Rattle.lump_textures.specs.declared.patch.Patch.{Patch}

-- the patch covers the column: from its first one on, as many as it is wide
abbrev pub patch_covers : ℕ → Patch → Bool
patch_covers x p = int_le p.first (pos x) && int_lt (pos x) (p.first +ℤ p.width)

-- how many of the patches cover the column
abbrev pub patches_over : List Patch → ℕ → ℕ
patches_over patches x = count_by (patch_covers x) patches

-- more than one of the patches covers some column of a texture that is so wide
abbrev pub is_patched : ℕ → List Patch → Bool
is_patched width patches =
    list_any (λ x. nat_lt 1 (patches_over patches x)) (range_with_len 0 width)
