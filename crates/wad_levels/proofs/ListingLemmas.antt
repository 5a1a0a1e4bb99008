-- Bytes that are no WAD.
use Rattle.std.proofs.Common.{◌≡◌, ◌∙◌, ℕ, List, Option, Some, None, refl, sym, ap, subst}
use Rattle.std.specs.Option.{option_map}
use Rattle.wad_file.specs.Directory.{wad_refusal}
use Rattle.wad_file.specs.declared.error.WadError.{WadError}
use Rattle.wad_file.specs.declared.error.WadError.TheVariants as bytes
use Rattle.wad_levels.specs.Listing.{listing_refusal, not_listed}
use Rattle.wad_levels.specs.declared.error.ReadError.{ReadError}
use Rattle.wad_levels.specs.declared.error.ReadError.TheVariants.{NotAWad, DirectoryOutside}

none_some : {X : Type 0} (x : X) (o : Option X) → o ≡ None → o ≡ Some x → ⊥
none_some x None e f = cc
none_some x (Some y) e f = cc

some_some : {X : Type 0} (x y : X) (o : Option X) → o ≡ Some x → o ≡ Some y → x ≡ y
some_some x y o e f = cc

-- what refuses the bytes is one of two
pub by_bytes :
    (wad : List ℕ) (e : ReadError) (P : ReadError → Type 0) → (listing_refusal wad ≡ Some NotAWad → P NotAWad) → (listing_refusal wad ≡ Some DirectoryOutside → P DirectoryOutside)
    → listing_refusal wad ≡ Some e → P e
by_bytes wad e P a b r = by (wad_refusal wad) refl
  where
    by : (o : Option WadError) → wad_refusal wad ≡ o → P e
    by None w = absurd (none_some e (listing_refusal wad) (ap (option_map not_listed) w) r)
    by (Some bytes.NotAWad) w = let q = ap (option_map not_listed) w in subst P (some_some NotAWad e (listing_refusal wad) q r) (a q)
    by (Some bytes.DirectoryOutside) w = let q = ap (option_map not_listed) w in subst P (some_some DirectoryOutside e (listing_refusal wad) q r) (b q)
