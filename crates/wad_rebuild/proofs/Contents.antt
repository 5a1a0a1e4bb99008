-- The lumps that lists of lumps become, one by one and in parts.
use Rattle.std.proofs.Common.{◌≡◌, ◌∙◌, refl, sym, ap, ℕ, zero, suc, ◌+◌, ◌-◌, ◌<◌, ◌≤◌, List, [], ◌∷◌, ◌++◌, length, get_or, take, drop, map, replicate, arith, Option, None, length-append}
use Rattle.std.specs.List.{range_with_len}
use Rattle.std.proofs.Math.Seq.{drop-append_seam, take-append_seam}
use Rattle.std.proofs.lemmas.List.{length-replicate}
use Rattle.std.proofs.lemmas.List.FromFn.{take-map-range_with_len}
use Rattle.wad_file.specs.Directory.{lump_count}
use Rattle.wad_file.specs.Lumps.{Lump, all_bytes, lump_at, lumps_between, lumps_in, wad_size}
use Rattle.wad_file.specs.Placed.{AreContents, AtHand, Content, InSource, IsContent, Placed, content_size, placed_bytes, placed_size}

-- a list in two parts becomes lumps in two parts
pub record Splits (ps qs : List Placed) (ls : List Lump) : Type 0 where
  pub xs : List Lump
  pub ys : List Lump
  pub whole : ls ≡ xs ++ ys
  pub first : AreContents None ps xs
  pub second : AreContents None qs ys

pub contents_split : (ps qs : List Placed) (ls : List Lump) → AreContents None (ps ++ qs) ls → Splits ps qs ls
contents_split [] qs ls a = record { xs = []; ys = ls; whole = refl; first = tt; second = a }
contents_split (p ∷ ps) qs [] a = absurd a
contents_split (p ∷ ps) qs (l ∷ ls) a =
    let r = contents_split ps qs ls a.2 in
    record { xs = l ∷ r.xs; ys = r.ys; whole = ap (λ (t : List Lump). l ∷ t) r.whole; first = (a.0, a.1, r.first); second = r.second }

pub contents_join : (ps qs : List Placed) (xs ys : List Lump) → AreContents None ps xs → AreContents None qs ys → AreContents None (ps ++ qs) (xs ++ ys)
contents_join [] qs [] ys a b = b
contents_join [] qs (x ∷ xs) ys a b = absurd a
contents_join (p ∷ ps) qs [] ys a b = absurd a
contents_join (p ∷ ps) qs (x ∷ xs) ys a b = (a.0, a.1, contents_join ps qs xs ys a.2 b)

-- of a source of which nothing is known any list may become lumps
pub record Becomes (ps : List Placed) : Type 0 where
  pub lumps : List Lump
  pub are : AreContents None ps lumps

some_content : (c : Content) → (b : List ℕ) × IsContent None c b
some_content (AtHand bytes) = (bytes, refl)
some_content (InSource at size) = (replicate size 0, (length-replicate size 0, tt))

pub contents_some : (ps : List Placed) → Becomes ps
contents_some [] = record { lumps = []; are = tt }
contents_some (p ∷ ps) =
    let r = contents_some ps in
    let c = some_content p.content in
    record { lumps = record { name = p.name; bytes = c.0 } ∷ r.lumps; are = (refl, c.1, r.are) }

-- what a known source gives may come from an unknown one
unknown : (source : Option (List ℕ)) (c : Content) (b : List ℕ) → IsContent source c b → IsContent None c b
unknown source (AtHand bytes) b i = i
unknown source (InSource at size) b i = (i.0, tt)

pub contents_unknown : (source : Option (List ℕ)) (ps : List Placed) (ls : List Lump) → AreContents source ps ls → AreContents None ps ls
contents_unknown source [] [] a = tt
contents_unknown source [] (l ∷ ls) a = absurd a
contents_unknown source (p ∷ ps) [] a = absurd a
contents_unknown source (p ∷ ps) (l ∷ ls) a = (a.0, unknown source p.content l.bytes a.1, contents_unknown source ps ls a.2)

content_long : (c : Content) (b : List ℕ) → IsContent None c b → length b ≡ content_size c
content_long (AtHand bytes) b i = ap (λ (x : List ℕ). length x) i
content_long (InSource at size) b i = i.0

pub contents_long : (ps : List Placed) (ls : List Lump) → AreContents None ps ls → length ls ≡ length ps
contents_long [] [] a = refl
contents_long [] (l ∷ ls) a = absurd a
contents_long (p ∷ ps) [] a = absurd a
contents_long (p ∷ ps) (l ∷ ls) a = let r = contents_long ps ls a.2 in omega (arith, r)

contents_bytes : (ps : List Placed) (ls : List Lump) → AreContents None ps ls → length (all_bytes ls) ≡ placed_bytes ps
contents_bytes [] [] a = refl
contents_bytes [] (l ∷ ls) a = absurd a
contents_bytes (p ∷ ps) [] a = absurd a
contents_bytes (p ∷ ps) (l ∷ ls) a =
    let r = contents_bytes ps ls a.2 in
    let h = content_long p.content l.bytes a.1 in
    let n = length-append l.bytes (all_bytes ls) in
    omega (arith, r, h, n)

-- so the WAD of the lumps is as long as that of the list
pub contents_size : (ps : List Placed) (ls : List Lump) → AreContents None ps ls → wad_size ls ≡ placed_size ps
contents_size ps ls a =
    let n1 = contents_long ps ls a in
    let n2 = contents_bytes ps ls a in
    omega (arith, n1, n2)

-- one of the lumps
pub record IsBecome (p : Placed) (l : Lump) : Type 0 where
  pub name : l.name ≡ p.name
  pub content : IsContent None p.content l.bytes

pub contents_at : (ps : List Placed) (ls : List Lump) (k : ℕ) (p : Placed) (l : Lump) → AreContents None ps ls → k < length ps → IsBecome (get_or ps k p) (get_or ls k l)
contents_at [] ls k p l a h = absurd (omega arith)
contents_at (q ∷ ps) [] k p l a h = absurd a
contents_at (q ∷ ps) (x ∷ ls) zero p l a h = record { name = a.0; content = a.1 }
contents_at (q ∷ ps) (x ∷ ls) (suc k) p l a h = contents_at ps ls k p l a.2 (omega arith)

-- ---- the lumps of a WAD, in parts
range_part : {X : Type 0} (f : ℕ → X) (from n skip : ℕ) → skip ≤ n → drop skip (map f (range_with_len from n)) ≡ map f (range_with_len (from + skip) (n - skip))
range_part f from n zero h =
    let z : from + 0 ≡ from = omega arith in
    let m : n - 0 ≡ n = omega arith in
    rw (z, m) refl
range_part f from zero (suc skip) h = absurd (omega arith)
range_part f from (suc n) (suc skip) h =
    let s : from + 1 + skip ≡ from + suc skip = omega arith in
    let m : n - skip ≡ suc n - suc skip = omega arith in
    range_part f (from + 1) n skip (omega arith) ∙ ap (λ (k : ℕ). map f (range_with_len k (n - skip))) s ∙ ap (λ (k : ℕ). map f (range_with_len (from + suc skip) k)) m

pub between_part :
    (wad : List ℕ) (pre mid post : List Lump) (a b : ℕ) → lumps_in wad ≡ pre ++ (mid ++ post) → length pre ≡ a → a + length mid ≡ b → b ≤ lump_count wad
    → lumps_between wad a b ≡ mid
between_part wad pre mid post a b e p m h =
    let n : b - a ≡ length mid = omega (arith, m) in
    let z : lump_count wad - 0 ≡ lump_count wad = omega arith in
    let fit : b - a ≤ lump_count wad - 0 - a = omega (arith, h) in
    let f : 0 + a ≡ a = omega arith in
    let dropped : drop a (lumps_in wad) ≡ map (lump_at wad) (range_with_len a (lump_count wad - 0 - a)) =
    range_part (lump_at wad) 0 (lump_count wad - 0) a (omega (arith, m, h)) ∙ ap (λ (k : ℕ). map (lump_at wad) (range_with_len k (lump_count wad - 0 - a))) f in
    sym (take-map-range_with_len (lump_at wad) a (lump_count wad - 0 - a) (b - a) fit)
    ∙ ap (take (b - a)) (sym dropped)
    ∙ ap (λ (ls : List Lump). take (b - a) (drop a ls)) e
    ∙ ap (λ (k : ℕ). take k (drop a (pre ++ (mid ++ post)))) n
    ∙ ap (λ (k : ℕ). take (length mid) (drop k (pre ++ (mid ++ post)))) (sym p)
    ∙ ap (take (length mid)) (drop-append_seam pre (mid ++ post))
    ∙ take-append_seam mid post

-- what stands between two numbers, in two parts
pub range_split : {X : Type 0} (f : ℕ → X) (a b c : ℕ) → a ≤ b → b ≤ c → map f (range_with_len a (c - a)) ≡ map f (range_with_len a (b - a)) ++ map f (range_with_len b (c - b))
range_split f a b c low high = by (b - a) a b low high refl
  where
    by : (n a b : ℕ) → a ≤ b → b ≤ c → b - a ≡ n → map f (range_with_len a (c - a)) ≡ map f (range_with_len a n) ++ map f (range_with_len b (c - b))
    by zero a b low high e = let s : a ≡ b = omega (arith, e) in ap (λ (k : ℕ). map f (range_with_len k (c - k))) s
    by (suc n) a b low high e =
        let s : c - a ≡ suc (c - (a + 1)) = omega (arith, e) in
        ap (λ (k : ℕ). map f (range_with_len a k)) s ∙ ap (λ (t : List _). f a ∷ t) (by n (a + 1) b (omega (arith, e)) high (omega (arith, e)))
