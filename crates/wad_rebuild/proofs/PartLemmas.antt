-- The lumps of a WAD in their parts.
use Rattle.std.proofs.Common.{◌≡◌, ◌≢◌, ◌∙◌, refl, sym, ap, subst, ℕ, zero, suc, ◌+◌, ◌-◌, ◌<◌, ◌≤◌, List, [], ◌∷◌, ◌++◌, length, get_or, take, drop, arith, map, append_assoc, length-take, length-drop, Bool, true, false, ◌&&◌, ltb-false, min, Option}
use Rattle.std.specs.Prelude.{nat_lt}
use Rattle.std.proofs.lemmas.Bool.Decides.{nat_tests}
use Rattle.std.proofs.lemmas.List.FromFn.{get_or-map-range_with_len, length-map-range_with_len}
use Rattle.wad_levels.specs.Drawn.{level_lump}
use Rattle.wad_levels.specs.Levels.{lump_names}
use Rattle.wad_file.specs.Directory.{entry, is_outside, lump, lump_count, standing}
use Rattle.wad_levels.specs.declared.entries.LevelEntries.{LevelEntries}
use Rattle.wad_file.proofs.DirectoryLemmas.{inside_at}
use Rattle.lump_records.specs.declared.records.Name8.{Name8}
use Rattle.wad_build.specs.Wad.{with_names}
use Rattle.wad_file.specs.Lumps.{Lump, lump_at, lumps_between}
use Rattle.wad_file.specs.Placed.{AtHand, Placed}
use Rattle.wad_rebuild.specs.Held.{at_hand, kept_at, kept_between, placed_after, placed_from, placed_up_to}
use Rattle.wad_rebuild.specs.Parts.{AddsPlaced, IsWithin, HasLumps, RefusesPut}
use Rattle.wad_rebuild.specs.Rebuilt.{sizes_below, ten_bytes, ten_lumps}
use Rattle.wad_rebuild.specs.declared.error.RebuildError.{RebuildError}
use Rattle.wad_rebuild.specs.declared.parts.BoundedWad.{BoundedWad}
use Rattle.wad_rebuild.specs.declared.levels.RebuiltLevel.{RebuiltLevel}
use Rattle.wad_rebuild.specs.declared.made.MadeLumps.{MadeLumps}
use Rattle.wad_rebuild.proofs.AddLemmas.{add_all, add_both, add_next, add_none, refuse_behind, refuse_front, refuse_next}

pub sizes_step : (wad : List ℕ) (k : ℕ) → sizes_below wad (k + 1) ≡ sizes_below wad k + (entry wad k).size
sizes_step wad k = let s : k + 1 ≡ suc k = omega arith in ap (sizes_below wad) s

-- each lump stands in the file
pub stands : (wad : List ℕ) (k : ℕ) → HasLumps wad → k < lump_count wad → is_outside wad (entry wad k) ≡ false
stands wad k h l = let z : 0 + k ≡ k = omega arith in rw z at (inside_at wad 0 (lump_count wad) k h l)

pub lump_stands : (wad : List ℕ) (k : ℕ) → HasLumps wad → k < lump_count wad → standing wad k ≡ lump wad k
lump_stands wad k h l = rw (stands wad k h l) refl

lt_true : (a b : ℕ) → a < b → nat_lt a b ≡ true
lt_true a b h = grind (arith, nat_tests)

and_right : (a b : Bool) → a ≡ true → (a && b) ≡ false → b ≡ false
and_right a b e f = ap (λ (x : Bool). x && b) (sym e) ∙ f

-- so it is as long as its entry says
pub lump_long : (wad : List ℕ) (k : ℕ) → HasLumps wad → k < lump_count wad → (entry wad k).size ≡ length (lump wad k)
lump_long wad k h l =
    let e = entry wad k in
    let t = length-take e.size (drop e.at wad) in
    let d = length-drop e.at wad in
    by e.size refl (stands wad k h l) t d
  where
    by : (n : ℕ) → n ≡ (entry wad k).size → is_outside wad (entry wad k) ≡ false → length (take (entry wad k).size (drop (entry wad k).at wad)) ≡ min (entry wad k).size (length (drop (entry wad k).at wad))
        → length (drop (entry wad k).at wad) ≡ length wad - (entry wad k).at → (entry wad k).size ≡ length (lump wad k)
    by zero z o t d = omega (arith, z, t)
    by (suc n) z o t d =
        let some : nat_lt 0 (entry wad k).size ≡ true = lt_true 0 (entry wad k).size (omega (arith, z)) in
        let in_it : nat_lt (length wad) ((entry wad k).at + (entry wad k).size) ≡ false = and_right (nat_lt 0 (entry wad k).size) _ some o in
        let le : (entry wad k).at + (entry wad k).size ≤ length wad = ltb-false _ _ in_it in
        omega (arith, le, t, d)

-- ---- the lumps of entries one behind another
pub between_long : (wad : List ℕ) (from end : ℕ) → length (lumps_between wad from end) ≡ end - from
between_long wad from end = length-map-range_with_len (lump_at wad) from (end - from)

pub between_at :
    (wad : List ℕ) (from end k : ℕ) (x : Lump) → from ≤ k → k < end → get_or (lumps_between wad from end) (k - from) x ≡ lump_at wad k
between_at wad from end k x low high = get_or-map-range_with_len (lump_at wad) from (end - from) (k - from) k x (omega arith) (omega arith)

-- ---- the same, as they are written again
kept_long : (wad : List ℕ) (held : Option (List ℕ)) (from end : ℕ) → length (kept_between wad held from end) ≡ end - from
kept_long wad held from end = length-map-range_with_len (kept_at wad held) from (end - from)

kept_here : (wad : List ℕ) (held : Option (List ℕ)) (from end k : ℕ) → from ≤ k → k < end → k - from < length (kept_between wad held from end)
kept_here wad held from end k low high = let n = kept_long wad held from end in omega (arith, n)

kept_is : (wad : List ℕ) (held : Option (List ℕ)) (from end k : ℕ) (x : Placed) → from ≤ k → k < end → get_or (kept_between wad held from end) (k - from) x ≡ kept_at wad held k
kept_is wad held from end k x low high = get_or-map-range_with_len (kept_at wad held) from (end - from) (k - from) k x (omega arith) (omega arith)

pub between_next :
    (wad : List ℕ) (held : Option (List ℕ)) (from end k : ℕ) (a b c : BoundedWad) → from ≤ k → k < end → AddsPlaced a b (take (k - from) (kept_between wad held from end))
    → AddsPlaced b c (kept_at wad held k ∷ []) → AddsPlaced a c (take (k + 1 - from) (kept_between wad held from end))
between_next wad held from end k a b c low high p q =
    let s : k - from + 1 ≡ k + 1 - from = omega arith in
    subst (λ (n : ℕ). AddsPlaced a c (take n (kept_between wad held from end))) s
    (add_next a b c (kept_between wad held from end) (k - from) (kept_at wad held k) (kept_here wad held from end k low high) (kept_is wad held from end k (kept_at wad held k) low high) p q)

pub between_refuses :
    (wad : List ℕ) (held : Option (List ℕ)) (from end k : ℕ) (a b : BoundedWad) (e : RebuildError) → from ≤ k → k < end → AddsPlaced a b (take (k - from) (kept_between wad held from end))
    → RefusesPut b (kept_at wad held k ∷ []) e → RefusesPut a (kept_between wad held from end) e
between_refuses wad held from end k a b e low high p r =
    refuse_next a b (kept_between wad held from end) (k - from) (kept_at wad held k) e (kept_here wad held from end k low high) (kept_is wad held from end k (kept_at wad held k) low high) p r

pub between_none : (xs : List Placed) (from : ℕ) (a : BoundedWad) → IsWithin a → AddsPlaced a a (take (from - from) xs)
between_none xs from a t =
    let z : from - from ≡ 0 = omega arith in
    subst (λ (n : ℕ). AddsPlaced a a (take n xs)) (sym z) (add_none a t)

pub between_all :
    (wad : List ℕ) (held : Option (List ℕ)) (from end k : ℕ) (a b : BoundedWad) → end ≤ k → AddsPlaced a b (take (k - from) (kept_between wad held from end)) → AddsPlaced a b (kept_between wad held from end)
between_all wad held from end k a b h p =
    let n = kept_long wad held from end in
    add_all a b (kept_between wad held from end) (k - from) (omega (arith, n)) p

-- ---- the ten lumps of a level that is built anew
pub made_other :
    (wad : List ℕ) (l : LevelEntries) (m : MadeLumps) (n : ℕ) → n < 10 → n ≢ 3 → n ≢ 4 → n ≢ 5 → n ≢ 6 → n ≢ 8 → n ≢ 9
    → level_lump wad l n ≡ get_or (ten_bytes wad l m) n []
made_other wad l m zero h a b c d e f = refl
made_other wad l m (suc zero) h a b c d e f = refl
made_other wad l m (suc (suc zero)) h a b c d e f = refl
made_other wad l m (suc (suc (suc zero))) h a b c d e f = absurd (a refl)
made_other wad l m (suc (suc (suc (suc zero)))) h a b c d e f = absurd (b refl)
made_other wad l m (suc (suc (suc (suc (suc zero))))) h a b c d e f = absurd (c refl)
made_other wad l m (suc (suc (suc (suc (suc (suc zero)))))) h a b c d e f = absurd (d refl)
made_other wad l m (suc (suc (suc (suc (suc (suc (suc zero))))))) h a b c d e f = refl
made_other wad l m (suc (suc (suc (suc (suc (suc (suc (suc zero)))))))) h a b c d e f = absurd (e refl)
made_other wad l m (suc (suc (suc (suc (suc (suc (suc (suc (suc zero))))))))) h a b c d e f = absurd (f refl)
made_other wad l m (suc (suc (suc (suc (suc (suc (suc (suc (suc (suc n)))))))))) h a b c d e f = absurd (omega arith)

named_at :
    (names : List Name8) (bytes : List (List ℕ)) (n : ℕ) (d : Name8) (b : List ℕ) (x : Placed) → length names ≡ length bytes → n < length names
    → get_or bytes n [] ≡ b → get_or (map at_hand (with_names names bytes)) n x ≡ record { name = get_or names n d; content = AtHand b }
named_at [] bytes n d b x e h g = absurd (omega arith)
named_at (y ∷ names) [] n d b x e h g = absurd (omega (arith, e))
named_at (y ∷ names) (z ∷ bytes) zero d b x e h g = rw g refl
named_at (y ∷ names) (z ∷ bytes) (suc n) d b x e h g = named_at names bytes n d b x (omega (arith, e)) (omega arith) g

abbrev pub ten_lump : ℕ → Name8 → List ℕ → Placed
ten_lump n d bytes = record { name = get_or lump_names n d; content = AtHand bytes }

pub ten_next :
    (wad : List ℕ) (l : LevelEntries) (m : MadeLumps) (n : ℕ) (d : Name8) (bytes : List ℕ) (a b c : BoundedWad) → n < 10
    → bytes ≡ get_or (ten_bytes wad l m) n [] → AddsPlaced a b (take n (map at_hand (ten_lumps wad l m))) → AddsPlaced b c (ten_lump n d bytes ∷ [])
    → AddsPlaced a c (take (n + 1) (map at_hand (ten_lumps wad l m)))
ten_next wad l m n d bytes a b c h g p q =
    add_next a b c (map at_hand (ten_lumps wad l m)) n (ten_lump n d bytes) h (named_at lump_names (ten_bytes wad l m) n d bytes (ten_lump n d bytes) refl h (sym g)) p q

pub ten_refuses :
    (wad : List ℕ) (l : LevelEntries) (m : MadeLumps) (n : ℕ) (d : Name8) (bytes : List ℕ) (a b : BoundedWad) (e : RebuildError) → n < 10
    → bytes ≡ get_or (ten_bytes wad l m) n [] → AddsPlaced a b (take n (map at_hand (ten_lumps wad l m))) → RefusesPut b (ten_lump n d bytes ∷ []) e
    → RefusesPut a (map at_hand (ten_lumps wad l m)) e
ten_refuses wad l m n d bytes a b e h g p r =
    refuse_next a b (map at_hand (ten_lumps wad l m)) n (ten_lump n d bytes) e h (named_at lump_names (ten_bytes wad l m) n d bytes (ten_lump n d bytes) refl h (sym g)) p r

-- ---- what was listed of a WAD up to the k-th entry, before the levels that are left
pub record IsPutUpTo (wad : List ℕ) (held : Option (List ℕ)) (levels left : List RebuiltLevel) (k : ℕ) (a b : BoundedWad) : Type 0 where
  pub done : List Placed
  pub are : AddsPlaced a b done
  pub whole : placed_from wad held 0 levels ≡ done ++ placed_from wad held k left

pub begun_up_to : (wad : List ℕ) (held : Option (List ℕ)) (levels : List RebuiltLevel) (a : BoundedWad) → IsWithin a → IsPutUpTo wad held levels levels 0 a a
begun_up_to wad held levels a t = record { done = []; are = add_none a t; whole = refl }

from_step :
    (wad : List ℕ) (held : Option (List ℕ)) (levels left more : List RebuiltLevel) (k : ℕ) (x : RebuiltLevel) (done : List Placed) → left ≡ x ∷ more
    → placed_from wad held 0 levels ≡ done ++ placed_from wad held k left
    → placed_from wad held 0 levels ≡ (done ++ placed_up_to wad held k x) ++ placed_from wad held x.entries.gl_end more
from_step wad held levels left more k x done s w =
    w ∙ ap (λ (ls : List RebuiltLevel). done ++ placed_from wad held k ls) s
    ∙ ap (λ (l : List Placed). done ++ l)
    (sym (append_assoc (kept_between wad held k x.entries.marker) (placed_after wad held x.entries x.fate) (placed_from wad held x.entries.gl_end more)))
    ∙ sym (append_assoc done (placed_up_to wad held k x) (placed_from wad held x.entries.gl_end more))

drop_at_level : (levels : List RebuiltLevel) (n : ℕ) (x : RebuiltLevel) → n < length levels → get_or levels n x ≡ x → drop n levels ≡ x ∷ drop (n + 1) levels
drop_at_level [] n x h e = absurd (omega arith)
drop_at_level (l ∷ levels) zero x h e = rw e refl
drop_at_level (l ∷ levels) (suc n) x h e = let s : suc n + 1 ≡ suc (n + 1) = omega arith in rw s (drop_at_level levels n x (omega arith) e)

pub up_to_next :
    (wad : List ℕ) (held : Option (List ℕ)) (levels : List RebuiltLevel) (n k : ℕ) (x : RebuiltLevel) (a b c : BoundedWad) → n < length levels → get_or levels n x ≡ x
    → IsPutUpTo wad held levels (drop n levels) k a b → AddsPlaced b c (placed_up_to wad held k x) → IsPutUpTo wad held levels (drop (n + 1) levels) x.entries.gl_end a c
up_to_next wad held levels n k x a b c h e i p =
    record {
      done = i.done ++ placed_up_to wad held k x;
      are = add_both a b c i.done (placed_up_to wad held k x) i.are p;
      whole = from_step wad held levels (drop n levels) (drop (n + 1) levels) k x i.done (drop_at_level levels n x h e) i.whole;
    }

pub up_to_refuses :
    (wad : List ℕ) (held : Option (List ℕ)) (levels : List RebuiltLevel) (n k : ℕ) (x : RebuiltLevel) (a b : BoundedWad) (f : RebuildError) → n < length levels → get_or levels n x ≡ x
    → IsPutUpTo wad held levels (drop n levels) k a b → RefusesPut b (placed_up_to wad held k x) f → RefusesPut a (placed_from wad held 0 levels) f
up_to_refuses wad held levels n k x a b f h e i r =
    let w = from_step wad held levels (drop n levels) (drop (n + 1) levels) k x i.done (drop_at_level levels n x h e) i.whole in
    subst (λ (l : List Placed). RefusesPut a l f) (sym w)
    (refuse_front a (i.done ++ placed_up_to wad held k x) (placed_from wad held x.entries.gl_end (drop (n + 1) levels)) f (refuse_behind a b i.done (placed_up_to wad held k x) f i.are r))

drop_none : (levels : List RebuiltLevel) (n : ℕ) → length levels ≤ n → drop n levels ≡ []
drop_none [] zero h = refl
drop_none [] (suc n) h = refl
drop_none (l ∷ levels) zero h = absurd (omega arith)
drop_none (l ∷ levels) (suc n) h = drop_none levels n (omega arith)

end_whole :
    (wad : List ℕ) (held : Option (List ℕ)) (levels : List RebuiltLevel) (n k : ℕ) (a b : BoundedWad) (i : IsPutUpTo wad held levels (drop n levels) k a b) → length levels ≤ n
    → placed_from wad held 0 levels ≡ i.done ++ kept_between wad held k (lump_count wad)
end_whole wad held levels n k a b i h = i.whole ∙ ap (λ (ls : List RebuiltLevel). i.done ++ placed_from wad held k ls) (drop_none levels n h)

pub up_to_end :
    (wad : List ℕ) (held : Option (List ℕ)) (levels : List RebuiltLevel) (n k : ℕ) (a b c : BoundedWad) → length levels ≤ n → IsPutUpTo wad held levels (drop n levels) k a b
    → AddsPlaced b c (kept_between wad held k (lump_count wad)) → AddsPlaced a c (placed_from wad held 0 levels)
up_to_end wad held levels n k a b c h i p =
    subst (λ (l : List Placed). AddsPlaced a c l) (sym (end_whole wad held levels n k a b i h)) (add_both a b c i.done (kept_between wad held k (lump_count wad)) i.are p)

pub end_refuses :
    (wad : List ℕ) (held : Option (List ℕ)) (levels : List RebuiltLevel) (n k : ℕ) (a b : BoundedWad) (f : RebuildError) → length levels ≤ n → IsPutUpTo wad held levels (drop n levels) k a b
    → RefusesPut b (kept_between wad held k (lump_count wad)) f → RefusesPut a (placed_from wad held 0 levels) f
end_refuses wad held levels n k a b f h i r =
    subst (λ (l : List Placed). RefusesPut a l f) (sym (end_whole wad held levels n k a b i h)) (refuse_behind a b i.done (kept_between wad held k (lump_count wad)) f i.are r)
