-- Lumps that are listed one behind another.
use Rattle.std.proofs.Common.{◌≡◌, ◌∙◌, refl, sym, ap, subst, ℕ, suc, ◌+◌, ◌*◌, ◌<◌, ◌≤◌, Bool, true, false, List, [], ◌∷◌, ◌++◌, length, get_or, take, drop, arith, append_assoc, append-nil, length-append, take-append-drop}
use Rattle.std.proofs.Math.Seq.{take-suc, take_all}
use Rattle.wad_file.specs.Placed.{Placed, content_size, placed_bytes, placed_size}
use Rattle.std.specs.Prelude.{nat_le}
use Rattle.std.proofs.lemmas.Bool.{leb-false, leb-true}
use Rattle.wad_file.proofs.PlacedLemmas.{placed_bytes-append}
use Rattle.wad_rebuild.specs.Parts.{AddsPlaced, IsWithin, RefusesPut}
use Rattle.wad_rebuild.specs.declared.error.RebuildError.{RebuildError}
use Rattle.wad_rebuild.specs.declared.parts.BoundedWad.{BoundedWad}
use Rattle.wad_rebuild.specs.declared.error.RebuildError.TheVariants.{TooLong, NotAWad, DirectoryOutside, NoSuchLevel, LumpOutside, OutOfMemory}

-- nothing is listed
pub add_none : (a : BoundedWad) → IsWithin a → AddsPlaced a a []
add_none a t = record { lumps_are = sym (append-nil a.lumps); fits = t; most_stays = refl }

-- whether it fits
pub one_fits : (a : BoundedWad) (len : ℕ) (b : Bool) → IsWithin a → b ≡ nat_le (placed_size a.lumps + len + 16) a.most → b ≡ true → placed_size a.lumps + len + 16 < 4294967296
one_fits a len b t is so =
    let le : placed_size a.lumps + len + 16 ≤ a.most = leb-true _ _ (sym is ∙ so) in
    let short = t.short in
    omega (arith, le, short)

pub one_overfills : (a : BoundedWad) (p : Placed) (len : ℕ) (b : Bool) → len ≡ content_size p.content → b ≡ nat_le (placed_size a.lumps + len + 16) a.most → b ≡ false → RefusesPut a (p ∷ []) TooLong
one_overfills a p len b l is so =
    let lt : a.most < placed_size a.lumps + len + 16 = leb-false _ _ (sym is ∙ so) in
    omega (arith, lt, l)

-- a lump that fits is listed
pub list_one :
    (a b : BoundedWad) (p : Placed) (len : ℕ) (so : Bool) → IsWithin a → len ≡ content_size p.content → so ≡ nat_le (placed_size a.lumps + len + 16) a.most → so ≡ true
    → b.lumps ≡ a.lumps ++ p ∷ [] → b.most ≡ a.most → AddsPlaced a b (p ∷ [])
list_one a b p len so t l is fits e m =
    let le : placed_size a.lumps + len + 16 ≤ a.most = leb-true _ _ (sym is ∙ fits) in
    let n1 : placed_bytes b.lumps ≡ placed_bytes a.lumps + placed_bytes (p ∷ []) = ap placed_bytes e ∙ placed_bytes-append a.lumps (p ∷ []) in
    let n2 : length b.lumps ≡ length a.lumps + 1 = ap (λ (x : List Placed). length x) e ∙ length-append a.lumps (p ∷ []) in
    let short = t.short in
    record { lumps_are = e; fits = record { fits = omega (arith, le, n1, n2, l, m); short = omega (arith, short, m) }; most_stays = m }

-- so the WAD grows by their bytes and entries
pub grown : (a b : BoundedWad) (xs : List Placed) → AddsPlaced a b xs → placed_size b.lumps ≡ placed_size a.lumps + placed_bytes xs + 16 * length xs
grown a b xs p =
    let n1 : placed_bytes b.lumps ≡ placed_bytes a.lumps + placed_bytes xs = ap placed_bytes p.lumps_are ∙ placed_bytes-append a.lumps xs in
    let n2 : length b.lumps ≡ length a.lumps + length xs = ap (λ (x : List Placed). length x) p.lumps_are ∙ length-append a.lumps xs in
    omega (arith, n1, n2)

-- one list behind another
pub add_both : (a b c : BoundedWad) (xs ys : List Placed) → AddsPlaced a b xs → AddsPlaced b c ys → AddsPlaced a c (xs ++ ys)
add_both a b c xs ys p q =
    record {
      lumps_are = q.lumps_are ∙ ap (λ (ls : List Placed). ls ++ ys) p.lumps_are ∙ append_assoc a.lumps xs ys;
      fits = q.fits;
      most_stays = q.most_stays ∙ p.most_stays;
    }

overfills_front : (a : BoundedWad) (xs ys : List Placed) → RefusesPut a xs TooLong → RefusesPut a (xs ++ ys) TooLong
overfills_front a xs ys o =
    let n1 = placed_bytes-append xs ys in
    let n2 = length-append xs ys in
    omega (arith, n1, n2, o)

overfills_behind : (a b : BoundedWad) (xs ys : List Placed) → AddsPlaced a b xs → RefusesPut b ys TooLong → RefusesPut a (xs ++ ys) TooLong
overfills_behind a b xs ys p o =
    let n1 = placed_bytes-append xs ys in
    let n2 = length-append xs ys in
    let n3 = grown a b xs p in
    let m = p.most_stays in
    omega (arith, n1, n2, n3, m, o)

-- what refuses the first list refuses both
pub refuse_front : (a : BoundedWad) (xs ys : List Placed) (e : RebuildError) → RefusesPut a xs e → RefusesPut a (xs ++ ys) e
refuse_front a xs ys TooLong r = overfills_front a xs ys r
refuse_front a xs ys NotAWad r = r
refuse_front a xs ys DirectoryOutside r = r
refuse_front a xs ys NoSuchLevel r = r
refuse_front a xs ys LumpOutside r = r
refuse_front a xs ys OutOfMemory r = tt

-- what refuses the second behind the first refuses both
pub refuse_behind : (a b : BoundedWad) (xs ys : List Placed) (e : RebuildError) → AddsPlaced a b xs → RefusesPut b ys e → RefusesPut a (xs ++ ys) e
refuse_behind a b xs ys TooLong p r = overfills_behind a b xs ys p r
refuse_behind a b xs ys NotAWad p r = r
refuse_behind a b xs ys DirectoryOutside p r = r
refuse_behind a b xs ys NoSuchLevel p r = r
refuse_behind a b xs ys LumpOutside p r = r
refuse_behind a b xs ys OutOfMemory p r = tt

-- ---- a list's lumps one by one
taken : (xs : List Placed) (n : ℕ) (x : Placed) → n < length xs → get_or xs n x ≡ x → take (n + 1) xs ≡ take n xs ++ x ∷ []
taken xs n x h e =
    let s : n + 1 ≡ suc n = omega arith in
    ap (λ (k : ℕ). take k xs) s ∙ take-suc xs n x h ∙ ap (λ (y : Placed). take n xs ++ y ∷ []) e

pub add_next :
    (a b c : BoundedWad) (xs : List Placed) (n : ℕ) (x : Placed) → n < length xs → get_or xs n x ≡ x → AddsPlaced a b (take n xs) → AddsPlaced b c (x ∷ []) → AddsPlaced a c (take (n + 1) xs)
add_next a b c xs n x h e p q = subst (λ (l : List Placed). AddsPlaced a c l) (sym (taken xs n x h e)) (add_both a b c (take n xs) (x ∷ []) p q)

pub add_all : (a b : BoundedWad) (xs : List Placed) (n : ℕ) → length xs ≤ n → AddsPlaced a b (take n xs) → AddsPlaced a b xs
add_all a b xs n h p = subst (λ (l : List Placed). AddsPlaced a b l) (take_all n xs h) p

pub refuse_next :
    (a b : BoundedWad) (xs : List Placed) (n : ℕ) (x : Placed) (e : RebuildError) → n < length xs → get_or xs n x ≡ x → AddsPlaced a b (take n xs) → RefusesPut b (x ∷ []) e → RefusesPut a xs e
refuse_next a b xs n x e h g p r =
    let t = ap (λ (l : List Placed). l ++ drop (n + 1) xs) (sym (taken xs n x h g)) ∙ take-append-drop (n + 1) xs in
    subst (λ (l : List Placed). RefusesPut a l e) t
    (refuse_front a (take n xs ++ x ∷ []) (drop (n + 1) xs) e (refuse_behind a b (take n xs) (x ∷ []) e p r))
