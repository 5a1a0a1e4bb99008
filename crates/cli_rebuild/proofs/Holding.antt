-- From the lumps of a WAD that are held to the WAD in memory that stands for it.
use Rattle.std.proofs.Common.{◌≡◌, ◌∙◌, refl, sym, ap, subst, ℕ, zero, suc, ◌+◌, ◌*◌, ◌-◌, ◌<◌, ◌≤◌, ◌⊎◌, inl, inr, Bool, true, false, List, [], ◌∷◌, ◌++◌, Some, length, get_or, map, arith, length-append}
use Rattle.std.specs.Prelude.{if◌then◌else◌, nat_le}
use Rattle.std.specs.List.{range_with_len}
use Rattle.std.proofs.Math.ListN.{get_or-append}
use Rattle.std.proofs.Math.Seq.{get_or-append_seam}
use Rattle.std.proofs.lemmas.Bool.{cases_lt, leb-true}
use Rattle.std.proofs.lemmas.List.FromFn.{get_or-map-range_with_len, length-map-range_with_len, map-range_with_len_more}
use Rattle.lump_records.specs.Names.{name_text}
use Rattle.lump_records.specs.declared.records.Name8.{Name8}
use Rattle.wad_file.specs.Directory.{entry_text, lump, lump_count}
use Rattle.wad_file.specs.Drafts.{Draft, Puts, Takes}
use Rattle.wad_file.specs.Lumps.{Lump, lump_at, wad_size}
use Rattle.wad_file.specs.Placed.{AtHand, content_size, placed_bytes}
use Rattle.wad_file.specs.declared.entry.Entry.{Entry}
use Rattle.wad_file.proofs.PlacedLemmas.{placed_bytes-append}
use Rattle.cli_print.proofs.Taking.{takes_on}
use Rattle.wad_rebuild.specs.Held.{StandsInFor, entry_in, is_drawn_name, kept_at, kept_content, kept_lumps, part_of_entry}
use Rattle.cli_rebuild.specs.Holding.{AddsHeld, AreHeldIn, IsHeldFrom, IsHeldLump, IsHeldPart, sizes_in}

-- ---- the lumps one by one

pub sizes_more : (directory : List ℕ) (k : ℕ) → sizes_in directory (k + 1) ≡ sizes_in directory k + (entry_in directory k).size
sizes_more directory k = let s : k + 1 ≡ suc k = omega arith in ap (sizes_in directory) s

pub held_none : (directory : List ℕ) (lumps : List Lump) → lumps ≡ [] → AreHeldIn directory 0 lumps
held_none directory lumps none = record { count = ap (λ (ls : List Lump). length ls) none; each = λ k d h. absurd (omega (arith, h)) }

pub held_more :
    (directory : List ℕ) (n : ℕ) (old new : Draft) (e : Entry) → AreHeldIn directory n old.lumps → e ≡ entry_in directory n → AddsHeld e old new → AreHeldIn directory (n + 1) new.lumps
held_more directory n old new e a is p =
    let l = length-append old.lumps (p.lump ∷ []) in
    let all = p.put.lumps_are in
    let m = ap (λ (ls : List Lump). length ls) all in
    let c = a.count in
    record { count = omega (arith, l, m, c); each = λ k d h. by k d h (cases_lt k n) }
  where
    by : (k : ℕ) (d : Lump) → k < n + 1 → (k < n) ⊎ (n ≤ k) → IsHeldLump (entry_in directory k) (get_or new.lumps k d)
    by k d h (inl q) =
        let c = a.count in
        let there : get_or old.lumps k d ≡ get_or new.lumps k d =
        sym (get_or-append old.lumps (p.lump ∷ []) d k (omega (arith, c, q))) ∙ ap (λ (ls : List Lump). get_or ls k d) (sym p.put.lumps_are) in
        subst (IsHeldLump (entry_in directory k)) there (a.each k d q)
    by k d h (inr q) =
        let c = a.count in
        let s : length old.lumps ≡ k = omega (arith, c, h, q) in
        let n_is : n ≡ k = omega (arith, h, q) in
        let there : p.lump ≡ get_or new.lumps k d =
        sym (get_or-append_seam old.lumps p.lump [] d) ∙ ap (λ (j : ℕ). get_or (old.lumps ++ p.lump ∷ []) j d) s ∙ ap (λ (ls : List Lump). get_or ls k d) (sym p.put.lumps_are) in
        subst (IsHeldLump (entry_in directory k)) there (subst (λ (x : Entry). IsHeldLump x p.lump) (is ∙ ap (entry_in directory) n_is) p.is)

-- a lump of an entry is added
pub adds_one : (e : Entry) (old new : Draft) (l : Lump) → l.name ≡ e.name → IsHeldPart e l.bytes → Takes old (l ∷ []) → Puts old new (l ∷ []) → AddsHeld e old new
adds_one e old new l name part t p = record { lump = l; is = record { name = name; part = part }; put = p; takes = takes_on old new l t p }

-- ---- the WAD in memory
module _ (kind directory : List ℕ) (n : ℕ) (wad : List ℕ) (h : IsHeldFrom kind directory n wad) where
  count_is : lump_count wad ≡ n
  count_is =
      let a = ap (λ (ls : List Lump). length ls) h.wad_is.lumps_are in
      let b = length-map-range_with_len (lump_at wad) 0 (lump_count wad - 0) in
      let c = h.are.count in
      omega (arith, a, b, c)

  lump_is : (k : ℕ) → k < n → IsHeldLump (entry_in directory k) (lump_at wad k)
  lump_is k lt =
      let c = count_is in
      let l = lump_at wad k in
      let there : get_or h.lumps k l ≡ l =
      ap (λ (ls : List Lump). get_or ls k l) (sym h.wad_is.lumps_are)
      ∙ get_or-map-range_with_len (lump_at wad) 0 (lump_count wad - 0) k k l (omega (arith, lt, c)) (omega arith) in
      subst (IsHeldLump (entry_in directory k)) there (h.are.each k l lt)

  size_is : (k : ℕ) → k < n → content_size (kept_content wad (Some directory) k) ≡ (entry_in directory k).size
  size_is k lt = by (is_drawn_name (entry_text wad k)) refl
    where
      by :
          (b : Bool) → is_drawn_name (entry_text wad k) ≡ b
          → content_size (if b then AtHand (lump wad k) else part_of_entry (entry_in directory k)) ≡ (entry_in directory k).size
      by true t = let i = lump_is k lt in i.part (ap (λ (m : Name8). is_drawn_name (name_text m)) (sym i.name) ∙ t)
      by false t = refl

  sizes_are : (k : ℕ) → k ≤ n → placed_bytes (map (kept_at wad (Some directory)) (range_with_len 0 k)) ≡ sizes_in directory k
  sizes_are zero le = refl
  sizes_are (suc k) le =
      let f = kept_at wad (Some directory) in
      let r = sizes_are k (omega (arith, le)) in
      let s : k + 1 ≡ suc k = omega arith in
      let z : 0 + k ≡ k = omega arith in
      let more : map f (range_with_len 0 (suc k)) ≡ map f (range_with_len 0 k) ++ f k ∷ [] =
      ap (λ (j : ℕ). map f (range_with_len 0 j)) (sym s) ∙ map-range_with_len_more f 0 k k z in
      let b = ap placed_bytes more ∙ placed_bytes-append (map f (range_with_len 0 k)) (f k ∷ []) in
      let here = size_is k (omega (arith, le)) in
      omega (arith, r, b, here)

  pub stands_for : (len : ℕ) → 16 * n ≤ length directory → 12 + sizes_in directory n + 16 * n ≤ len → len < 4294967296 → StandsInFor wad (Some directory) len
  stands_for len room fits short =
      let c = count_is in
      let z : lump_count wad - 0 ≡ n = omega (arith, c) in
      let s : placed_bytes (kept_lumps wad (Some directory)) ≡ sizes_in directory n =
      ap (λ (j : ℕ). placed_bytes (map (kept_at wad (Some directory)) (range_with_len 0 j))) z ∙ sizes_are n (omega arith) in
      let l = length-map-range_with_len (kept_at wad (Some directory)) 0 (lump_count wad - 0) in
      record {
        accepted = h.wad_is.accepted;
        lumps = h.wad_is.inside;
        directory = omega (arith, room, c);
        fits = omega (arith, fits, s, l, c);
        short = short;
      }
