-- A WAD with more bytes behind it is a WAD of the same lumps.
use Rattle.std.proofs.Common.{◌≡◌, ◌∙◌, refl, sym, ap, ℕ, zero, suc, ◌+◌, ◌*◌, ◌<◌, ◌≤◌, ◌⊎◌, inl, inr, Bool, true, false, ◌&&◌, List, ◌++◌, length, get_or, take, drop, arith, length-append, length-drop}
use Rattle.std.specs.Prelude.{All, nat_le, nat_lt}
use Rattle.std.proofs.Math.ListN.{get_or-append}
use Rattle.std.proofs.lemmas.Bool.Decides.{nat_tests}
use Rattle.std.proofs.lemmas.Bool.{cases_lt, leb-true, ltb-false}
use Rattle.std.proofs.lemmas.List.{drop-append-le, take-append-le}
use Rattle.lump_records.specs.Records.{name_at}
use Rattle.lump_records.specs.declared.records.Name8.{Name8}
use Rattle.wad_file.specs.Directory.{directory_at, entry, entry_place, is_kind, is_outside, lump_count}
use Rattle.wad_file.specs.Fields.{long_at}
use Rattle.wad_file.specs.Lumps.{IsNamed8, IsWadOf, Lump, wad_of, wad_size}
use Rattle.wad_file.specs.declared.entry.Entry.{Entry}
use Rattle.wad_file.proofs.DirectoryLemmas.{and_parts}
use Rattle.wad_file.proofs.WrittenLemmas.{Holds, Written, is_wad_of, written}

le_true : (a b : ℕ) → a ≤ b → nat_le a b ≡ true
le_true a b h = grind (arith, nat_tests)

lt_false : (a b : ℕ) → b ≤ a → nat_lt a b ≡ false
lt_false a b h = by (cases_lt a b)
  where
    by : (a < b) ⊎ (b ≤ a) → nat_lt a b ≡ false
    by (inl q) = absurd (omega arith)
    by (inr q) = grind (arith, nat_tests)

some_true : (n : ℕ) → nat_lt 0 (suc n) ≡ true
some_true n = let h : 0 < suc n = omega arith in grind (arith, nat_tests)

long_front : (wad pad : List ℕ) (i : ℕ) → i + 4 ≤ length wad → long_at i (wad ++ pad) ≡ long_at i wad
long_front wad pad i h =
    let a = get_or-append wad pad 0 i (omega (arith, h)) in
    let b = get_or-append wad pad 0 (i + 1) (omega (arith, h)) in
    let c = get_or-append wad pad 0 (i + 2) (omega (arith, h)) in
    let d = get_or-append wad pad 0 (i + 2 + 1) (omega (arith, h)) in
    rw (a, b, c, d) refl

part_front : (wad pad : List ℕ) (at n : ℕ) → at + n ≤ length wad → take n (drop at (wad ++ pad)) ≡ take n (drop at wad)
part_front wad pad at n h =
    let l = length-drop at wad in
    ap (take n) (drop-append-le at wad pad (omega (arith, h))) ∙ take-append-le n (drop at wad) pad (omega (arith, h, l))

-- a lump that isn't empty and stands in the bytes
within : (wad : List ℕ) (at n : ℕ) → (nat_lt 0 (suc n) && nat_lt (length wad) (at + suc n)) ≡ false → at + suc n ≤ length wad
within wad at n o =
    ltb-false (length wad) (at + suc n) (sym (ap (λ (b : Bool). b && nat_lt (length wad) (at + suc n)) (some_true n)) ∙ o)

inside_front : (wad pad : List ℕ) (at size : ℕ) → (nat_lt 0 size && nat_lt (length wad) (at + size)) ≡ false → (nat_lt 0 size && nat_lt (length (wad ++ pad)) (at + size)) ≡ false
inside_front wad pad at zero o = refl
inside_front wad pad at (suc n) o =
    let le = within wad at n o in
    let l = length-append wad pad in
    let f : nat_lt (length (wad ++ pad)) (at + suc n) ≡ false = lt_false (length (wad ++ pad)) (at + suc n) (omega (arith, le, l)) in
    let t = some_true n in
    rw (t, f) refl

bytes_front : (wad pad : List ℕ) (at size : ℕ) → (nat_lt 0 size && nat_lt (length wad) (at + size)) ≡ false → take size (drop at (wad ++ pad)) ≡ take size (drop at wad)
bytes_front wad pad at zero o = refl
bytes_front wad pad at (suc n) o = part_front wad pad at (suc n) (within wad at n o)

abbrev as_entry : ℕ → ℕ → Name8 → Entry
as_entry at size name = record { at = at; size = size; name = name }

same_entry : (a b c d : ℕ) (m n : Name8) → a ≡ b → c ≡ d → m ≡ n → as_entry a c m ≡ as_entry b d n
same_entry a b c d m n e f g = λ i. as_entry (e i) (f i) (g i)

module _ (kind wad pad : List ℕ) (lumps : List Lump) (w : Written kind wad lumps) where
  long_is : 12 ≤ length wad
  long_is = let p = and_parts (nat_le 12 (length wad)) (is_kind (take 4 wad)) w.wad_like in leb-true 12 (length wad) p.0

  count_front : lump_count (wad ++ pad) ≡ lump_count wad
  count_front = let l = long_is in long_front wad pad 4 (omega (arith, l))

  directory_front : directory_at (wad ++ pad) ≡ directory_at wad
  directory_front = let l = long_is in long_front wad pad 8 (omega (arith, l))

  room : entry_place wad (lump_count wad) ≤ length wad
  room = leb-true (entry_place wad (lump_count wad)) (length wad) w.directory

  entry_front : (k : ℕ) → k < lump_count wad → entry (wad ++ pad) k ≡ entry wad k
  entry_front k h =
      let r = room in
      let d = directory_front in
      let at = entry_place wad k in
      let there : entry_place (wad ++ pad) k ≡ at = ap (λ (n : ℕ). n + 16 * k) d in
      let n1 : long_at (entry_place (wad ++ pad) k) (wad ++ pad) ≡ long_at at wad = ap (λ (n : ℕ). long_at n (wad ++ pad)) there ∙ long_front wad pad at (omega (arith, r, h)) in
      let n2 : long_at (entry_place (wad ++ pad) k + 4) (wad ++ pad) ≡ long_at (at + 4) wad =
      ap (λ (n : ℕ). long_at (n + 4) (wad ++ pad)) there ∙ long_front wad pad (at + 4) (omega (arith, r, h)) in
      let n3 : name_at (entry_place (wad ++ pad) k + 8) (wad ++ pad) ≡ name_at (at + 8) wad =
      ap (λ (n : ℕ). name_at (n + 8) (wad ++ pad)) there ∙ ap (λ (b : List ℕ). record { bytes = b }) (part_front wad pad (at + 8) 8 (omega (arith, r, h))) in
      same_entry _ _ _ _ _ _ n1 n2 n3

  holds_front : (k : ℕ) (l : Lump) → k < lump_count wad → Holds wad k l → Holds (wad ++ pad) k l
  holds_front k l h i =
      let e = entry_front k h in
      let o = i.inside in
      record {
        name = ap (λ (x : Entry). x.name) e ∙ i.name;
        size = ap (λ (x : Entry). x.size) e ∙ i.size;
        inside = ap (is_outside (wad ++ pad)) e ∙ inside_front wad pad (entry wad k).at (entry wad k).size o;
        bytes = ap (λ (x : Entry). take x.size (drop x.at (wad ++ pad))) e ∙ bytes_front wad pad (entry wad k).at (entry wad k).size o ∙ i.bytes;
      }

  written_front : is_kind kind ≡ true → Written kind (wad ++ pad) lumps
  written_front is =
      let l = long_is in
      let r = room in
      let a = length-append wad pad in
      let k : take 4 (wad ++ pad) ≡ kind = take-append-le 4 wad pad (omega (arith, l)) ∙ w.kind_is in
      let t : nat_le 12 (length (wad ++ pad)) ≡ true = le_true 12 (length (wad ++ pad)) (omega (arith, l, a)) in
      let i : is_kind (take 4 (wad ++ pad)) ≡ true = ap is_kind k ∙ is in
      let c = count_front in
      let d = directory_front in
      let n = w.count in
      record {
        kind_is = k;
        wad_like = rw (t, i) refl;
        count = c ∙ w.count;
        directory = le_true (entry_place (wad ++ pad) (lump_count (wad ++ pad))) (length (wad ++ pad)) (omega (arith, r, a, c, d));
        each = λ j x h. holds_front j (get_or lumps j x) (omega (arith, n, h)) (w.each j x h);
      }

pub padded : (kind : List ℕ) (lumps : List Lump) (pad : List ℕ) → is_kind kind ≡ true → All IsNamed8 lumps → wad_size lumps < 4294967296 → IsWadOf kind lumps (wad_of kind lumps ++ pad)
padded kind lumps pad is named fits =
    is_wad_of kind lumps (wad_of kind lumps ++ pad) (written_front kind (wad_of kind lumps) pad lumps (written kind lumps is named fits) is)
