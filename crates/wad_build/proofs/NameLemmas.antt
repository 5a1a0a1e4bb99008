-- A map's name isn't the name of a level's lump.
use Rattle.std.proofs.Common.{◌≡◌, refl, ◌∙◌, ap, ℕ, ◌+◌, ◌-◌, ◌≤◌, ◌⊎◌, inl, inr, Bool, true, false, ◌&&◌, leb, List, [], ◌∷◌, length, arith, length-append}
use Rattle.std.specs.Prelude.{replicate}
use Rattle.std.specs.List.{list_all}
use Rattle.std.proofs.lemmas.Bool.{and_parts, leb-true, eqb-true}
use Rattle.std.proofs.lemmas.List.{length-replicate}
use Rattle.lump_records.specs.Names.{name_text, is_marker, is_name, is_name_byte, IsNamed}
use Rattle.lump_records.specs.declared.records.Name8.{Name8}
use Rattle.wad_build.specs.Wad.{is_lump_name}

-- the names of lumps begin neither with E nor with M
starts_free : (a : ℕ) (rest : List ℕ) → (a ≡ 69) ⊎ (a ≡ 77) → is_lump_name (a ∷ rest) ≡ false
starts_free a rest (inl e) = rw e refl
starts_free a rest (inr m) = rw m refl

pub marker_free : (text : List ℕ) → is_marker text ≡ true → is_lump_name text ≡ false
marker_free [] e = cc
marker_free (a ∷ []) e = cc
marker_free (a ∷ b ∷ []) e = cc
marker_free (a ∷ b ∷ c ∷ []) e = cc
marker_free (a ∷ b ∷ c ∷ d ∷ []) e =
    let first = (and_parts _ _ (and_parts _ _ (and_parts _ _ e).0).0).0 in
    starts_free a (b ∷ c ∷ d ∷ []) (inl (eqb-true a 69 first))
marker_free (a ∷ b ∷ c ∷ d ∷ f ∷ []) e =
    let first = (and_parts _ _ (and_parts _ _ (and_parts _ _ (and_parts _ _ (and_parts _ _ e).0).0).0).0).0 in
    starts_free a (b ∷ c ∷ d ∷ f ∷ []) (inr (eqb-true a 77 first))
marker_free (a ∷ b ∷ c ∷ d ∷ f ∷ g ∷ rest) e = cc

-- ---- a kept name has eight bytes

name_size : (test : List ℕ → Bool) (name : Name8) → IsNamed test name → length (name_text name) ≤ 8 → length name.bytes ≡ 8
name_size test name h short =
    let text = name_text name in
    ap (λ n. length n.bytes) h.padded ∙ length-append text (replicate (8 - length text) 0)
    ∙ ap (λ k. length text + k) (length-replicate (8 - length text) 0) ∙ omega arith

texture_short : (text : List ℕ) → is_name text ≡ true → length text ≤ 8
texture_short text e =
    let long = (and_parts (leb 1 (length text) && leb (length text) 8) (list_all is_name_byte text) e).0 in
    leb-true (length text) 8 ((and_parts (leb 1 (length text)) (leb (length text) 8) long).1)

marker_short : (text : List ℕ) → is_marker text ≡ true → length text ≤ 8
marker_short [] e = cc
marker_short (a ∷ []) e = cc
marker_short (a ∷ b ∷ []) e = cc
marker_short (a ∷ b ∷ c ∷ []) e = cc
marker_short (a ∷ b ∷ c ∷ d ∷ []) e = omega arith
marker_short (a ∷ b ∷ c ∷ d ∷ f ∷ []) e = omega arith
marker_short (a ∷ b ∷ c ∷ d ∷ f ∷ g ∷ rest) e = cc

pub texture_size : (name : Name8) → IsNamed is_name name → length name.bytes ≡ 8
texture_size name h = name_size is_name name h (texture_short (name_text name) h.named)

pub marker_size : (name : Name8) → IsNamed is_marker name → length name.bytes ≡ 8
marker_size name h = name_size is_marker name h (marker_short (name_text name) h.named)
