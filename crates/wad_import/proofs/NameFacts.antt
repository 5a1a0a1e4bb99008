-- A name after the changes is one of a texture or a flat where its text is.
use Rattle.std.proofs.Common.{◌≡◌, ◌≢◌, ℕ, zero, suc, ◌-◌, Bool, true, false, not, nat_eq, cond, List, [], ◌∷◌, ◌++◌, length, refl, sym, ap, ◌∙◌, arith, All}
use Rattle.std.specs.Prelude.{take_while, replicate, map, codes, ◌==◌}
use Rattle.std.specs.Char.{to_ascii_uppercase}
use Rattle.std.proofs.lemmas.List.{map-append, length-map}
use Rattle.std.proofs.lemmas.List.Elements.{All-cons, All-map, All-nil}
use Rattle.std.proofs.lemmas.List.Sums.{take_while-cons}
use Rattle.std.proofs.lemmas.Bool.Decides.{nat_tests}
use Rattle.lump_records.specs.declared.records.Name8.{Name8}
use Rattle.lump_records.specs.Names.{IsNamed, is_name, name_of, name_text}
use Rattle.lump_records.proofs.NameLemmas.{kept}
use Rattle.wad_levels.specs.Graphics.{capital_name}
use Rattle.wad_import.specs.Mended.{mended_name}
use Rattle.wad_import.specs.Refused.{is_nameable}

abbrev is_byte : ℕ → Bool
is_byte byte = not (byte == 0)

abbrev IsByte : ℕ → Type 0
IsByte byte = byte ≢ 0

not_nul : (b : ℕ) (t : Bool) → nat_eq b 0 ≡ t → not t ≡ true → b ≢ 0
not_nul b true e h = absurd cc
not_nul b false e h = λ is. grind (arith, nat_tests)

front : (b : ℕ) (bs : List ℕ) (t : Bool) → is_byte b ≡ t → All IsByte bs → All IsByte (cond t (b ∷ bs) [])
front b bs true e h = All-cons IsByte b bs (not_nul b (nat_eq b 0) refl e) h
front b bs false e h = All-nil IsByte

text_bytes : (bs : List ℕ) → All IsByte (take_while is_byte bs)
text_bytes [] = All-nil IsByte
text_bytes (b ∷ bs) = rw (take_while-cons is_byte b bs) (front b (take_while is_byte bs) (is_byte b) refl (text_bytes bs))

upper : (b : ℕ) → b ≢ 0 → to_ascii_uppercase b ≢ 0
upper b h = λ is. grind (arith, nat_tests)

upper_nuls : (n : ℕ) → map to_ascii_uppercase (replicate n 0) ≡ replicate n 0
upper_nuls zero = refl
upper_nuls (suc n) = ap (λ bs. 0 ∷ bs) (upper_nuls n)

-- a text in capitals
abbrev capitals : Name8 → List ℕ
capitals n = map to_ascii_uppercase (name_text n)

capital_bytes : (n : Name8) → All IsByte (capitals n)
capital_bytes n = All-map IsByte to_ascii_uppercase (name_text n) (λ k d h. upper _ (text_bytes n.bytes k d h))

capital_is : (n : Name8) → capital_name n ≡ name_of (capitals n)
capital_is n =
    let k = 8 - length (name_text n) in
    let joined : map to_ascii_uppercase (name_text n ++ replicate k 0) ≡ capitals n ++ replicate k 0 =
    map-append to_ascii_uppercase (name_text n) (replicate k 0) ∙ ap (λ bs. capitals n ++ bs) (upper_nuls k) in
    let long : k ≡ 8 - length (capitals n) = ap (λ m. 8 - m) (sym (length-map (name_text n) to_ascii_uppercase)) in
    λ i. record { bytes = (joined ∙ ap (λ m. capitals n ++ replicate m 0) long) i }

text_is : (text : List ℕ) → All IsByte text → name_text (name_of text) ≡ text
text_is text h = kept text (8 - length text) h

padded : (n m : Name8) (text : List ℕ) → m ≡ name_of text → All IsByte text → m ≡ name_of (name_text m)
padded n m text e h = e ∙ ap name_of (sym (ap name_text e ∙ text_is text h))

mended_by : (n : Name8) (t : Bool) → All IsByte (codes "-") → (let m = cond t (name_of (codes "-")) (capital_name n) in m ≡ name_of (name_text m))
mended_by n true h = padded n _ (codes "-") refl h
mended_by n false h = padded n _ (capitals n) (capital_is n) (capital_bytes n)

dash : All IsByte (codes "-")
dash = All-cons IsByte 45 [] (λ is. grind (arith, nat_tests)) (All-nil IsByte)

pub named : (n : Name8) → is_nameable n ≡ true → IsNamed is_name (mended_name n)
named n h = record { padded = mended_by n (nat_eq (length (name_text n)) 0) dash; named = h }
