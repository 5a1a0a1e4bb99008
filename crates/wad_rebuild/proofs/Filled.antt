-- Lumps that were written are those of some WAD after what became of its levels.
use Rattle.std.proofs.Common.{◌≡◌, ◌∙◌, refl, sym, ap, subst, ℕ, suc, ◌+◌, ◌-◌, ◌<◌, ◌≤◌, List, [], ◌∷◌, ◌++◌, length, map, arith, Option, None, append_assoc, append-nil, length-append}
use Rattle.std.specs.List.{range_with_len}
use Rattle.std.proofs.lemmas.List.{map-append}
use Rattle.std.proofs.lemmas.List.FromFn.{length-map-range_with_len}
use Rattle.wad_file.specs.Directory.{lump_count}
use Rattle.wad_file.specs.Lumps.{Lump, lump_at, lumps_between, lumps_in}
use Rattle.wad_file.specs.Placed.{AreContents, Placed}
use Rattle.wad_levels.specs.Entries.{IsLevelAt}
use Rattle.wad_levels.specs.declared.entries.LevelEntries.{LevelEntries}
use Rattle.wad_rebuild.specs.Held.{at_hand, kept_at, kept_between, placed_after, placed_from}
use Rattle.wad_rebuild.specs.Rebuilt.{lumps_after, lumps_from, ten_lumps}
use Rattle.wad_rebuild.specs.declared.levels.Fate.{Fate}
use Rattle.wad_rebuild.specs.declared.levels.Fate.TheVariants.{NotAsked, Made, Left}
use Rattle.wad_rebuild.specs.declared.levels.RebuiltLevel.{RebuiltLevel}
use Rattle.wad_rebuild.specs.declared.made.MadeLumps.{MadeLumps}
use Rattle.wad_rebuild.proofs.Contents.{between_part, contents_join, contents_long, contents_some, contents_split, range_split}
use Rattle.wad_rebuild.proofs.Following.{Follow}

-- ---- lumps at hand

map_twice : {X Y Z : Type 0} (f : X → Y) (g : Y → Z) (xs : List X) → map g (map f xs) ≡ map (λ x. g (f x)) xs
map_twice f g [] = refl
map_twice f g (x ∷ xs) = ap (λ (zs : List _). g (f x) ∷ zs) (map_twice f g xs)

hand_between : (wad : List ℕ) (a b : ℕ) → kept_between wad None a b ≡ map at_hand (lumps_between wad a b)
hand_between wad a b = sym (map_twice (lump_at wad) at_hand (range_with_len a (b - a)))

hand_after : (wad : List ℕ) (l : LevelEntries) (f : Fate) → placed_after wad None l f ≡ map at_hand (lumps_after wad l f)
hand_after wad l NotAsked = hand_between wad l.marker l.gl_end
hand_after wad l (Made m) = refl
hand_after wad l (Left c) = hand_between wad l.marker l.gl_end

-- where all lumps stand in memory, all are at hand
pub all_at_hand : (wad : List ℕ) (k : ℕ) (levels : List RebuiltLevel) → placed_from wad None k levels ≡ map at_hand (lumps_from wad k levels)
all_at_hand wad k [] = hand_between wad k (lump_count wad)
all_at_hand wad k (l ∷ levels) =
    let first = lumps_between wad k l.entries.marker in
    let next = lumps_after wad l.entries l.fate in
    let rest = lumps_from wad l.entries.gl_end levels in
    (λ i. hand_between wad k l.entries.marker i ++ (hand_after wad l.entries l.fate i ++ all_at_hand wad l.entries.gl_end levels i))
    ∙ ap (λ (ps : List Placed). map at_hand first ++ ps) (sym (map-append at_hand next rest))
    ∙ sym (map-append at_hand first (next ++ rest))

pub hand_contents : (xs ls : List Lump) → AreContents None (map at_hand xs) ls → ls ≡ xs
hand_contents [] [] a = refl
hand_contents [] (l ∷ ls) a = absurd a
hand_contents (x ∷ xs) [] a = absurd a
hand_contents (x ∷ xs) (l ∷ ls) a = same l x a.0 a.1 (hand_contents xs ls a.2)
  where
    same : (l x : Lump) → l.name ≡ x.name → l.bytes ≡ x.bytes → ls ≡ xs → l ∷ ls ≡ x ∷ xs
    same l x n b r = λ i. record { name = n i; bytes = b i } ∷ r i

-- ---- the lumps of some WAD

-- what was made of a level of one WAD makes the same lumps of that level of the other
abbrev pub MakesSame : List ℕ → List ℕ → Type 0
MakesSame wad whole = (l : LevelEntries) (m : MadeLumps) → ten_lumps whole l m ≡ ten_lumps wad l m

kept_long : (wad : List ℕ) (held : Option (List ℕ)) (a b : ℕ) → length (kept_between wad held a b) ≡ b - a
kept_long wad held a b = length-map-range_with_len (kept_at wad held) a (b - a)

-- lumps that stay are those of the WAD
stay :
    (wad : List ℕ) (held : Option (List ℕ)) (a b : ℕ) (ms : List Lump) (whole : List ℕ) (pre post : List Lump) → a ≤ b → b ≤ lump_count whole → AreContents None (kept_between wad held a b) ms
    → lumps_in whole ≡ pre ++ (ms ++ post) → length pre ≡ a → lumps_between whole a b ≡ ms
stay wad held a b ms whole pre post low high are e p =
    let n1 = contents_long (kept_between wad held a b) ms are in
    let n2 = kept_long wad held a b in
    between_part whole pre ms post a b e p (omega (arith, low, n1, n2)) high

-- those of a level: some lumps stand in its place
record FillsLevel (wad : List ℕ) (held : Option (List ℕ)) (l : LevelEntries) (fate : Fate) (ms : List Lump) : Type 0 where
  pub lumps : List Lump
  pub are : AreContents None (kept_between wad held l.marker l.gl_end) lumps
  pub give : (whole : List ℕ) (pre post : List Lump) → lumps_in whole ≡ pre ++ (lumps ++ post) → length pre ≡ l.marker → lump_count whole ≡ lump_count wad → MakesSame wad whole
      → lumps_after whole l fate ≡ ms

fill_staying :
    (wad : List ℕ) (held : Option (List ℕ)) (l : LevelEntries) (fate : Fate) (ms : List Lump) → IsLevelAt wad l → AreContents None (kept_between wad held l.marker l.gl_end) ms
    → ((whole : List ℕ) → lumps_after whole l fate ≡ lumps_between whole l.marker l.gl_end) → FillsLevel wad held l fate ms
fill_staying wad held l fate ms at are stays =
    let low = at.lumps.behind in
    let mid = at.gl.behind in
    let high = at.gl.among in
    record {
      lumps = ms;
      are = are;
      give = λ whole pre post e p c _. stays whole ∙ stay wad held l.marker l.gl_end ms whole pre post (omega (arith, low, mid)) (omega (arith, high, c)) are e p;
    }

kept_first : (wad : List ℕ) (held : Option (List ℕ)) (a b : ℕ) → a < b → kept_between wad held a b ≡ kept_at wad held a ∷ kept_between wad held (a + 1) b
kept_first wad held a b h =
    let n : b - a ≡ suc (b - (a + 1)) = omega (arith, h) in
    ap (λ (k : ℕ). map (kept_at wad held) (range_with_len a k)) n

one_between : (wad : List ℕ) (k : ℕ) (x : Lump) → lumps_between wad k (k + 1) ≡ x ∷ [] → lump_at wad k ≡ x
one_between wad k x e =
    let n : 1 ≡ k + 1 - k = omega arith in
    let one : lump_at wad k ∷ [] ≡ x ∷ [] = ap (λ (j : ℕ). map (lump_at wad) (range_with_len k j)) n ∙ e in
    cc

fill_made :
    (wad : List ℕ) (held : Option (List ℕ)) (l : LevelEntries) (m : MadeLumps) (ms : List Lump) → IsLevelAt wad l → AreContents None (kept_at wad held l.marker ∷ map at_hand (ten_lumps wad l m)) ms
    → FillsLevel wad held l (Made m) ms
fill_made wad held l m [] at are = absurd are
fill_made wad held l m (x ∷ ts) at are =
    let low = at.lumps.behind in
    let mid = at.gl.behind in
    let high = at.gl.among in
    let rest = contents_some (kept_between wad held (l.marker + 1) l.gl_end) in
    let tens = hand_contents (ten_lumps wad l m) ts are.2 in
    record {
      lumps = x ∷ rest.lumps;
      are =
          subst (λ (ps : List Placed). AreContents None ps (x ∷ rest.lumps)) (sym (kept_first wad held l.marker l.gl_end (omega (arith, low, mid))))
          (are.0, are.1, rest.are);
      give =
          λ whole pre post e p c same.
          let first : lump_at whole l.marker ≡ x =
          one_between whole l.marker x (between_part whole pre (x ∷ []) (rest.lumps ++ post) l.marker (l.marker + 1) e p refl (omega (arith, low, mid, high, c))) in
          let next : ten_lumps whole l m ≡ ts = same l m ∙ sym tens in
          (λ i. first i ∷ next i);
    }

fill_level : (wad : List ℕ) (held : Option (List ℕ)) (l : LevelEntries) (fate : Fate) (ms : List Lump) → IsLevelAt wad l → AreContents None (placed_after wad held l fate) ms → FillsLevel wad held l fate ms
fill_level wad held l NotAsked ms at are = fill_staying wad held l NotAsked ms at are (λ whole. refl)
fill_level wad held l (Made m) ms at are = fill_made wad held l m ms at are
fill_level wad held l (Left c) ms at are = fill_staying wad held l (Left c) ms at are (λ whole. refl)

-- from the k-th entry on
pub record Fills (wad : List ℕ) (held : Option (List ℕ)) (k : ℕ) (levels : List RebuiltLevel) (ls : List Lump) : Type 0 where
  pub lumps : List Lump
  pub are : AreContents None (kept_between wad held k (lump_count wad)) lumps
  pub give : (whole : List ℕ) (pre : List Lump) → lumps_in whole ≡ pre ++ lumps → length pre ≡ k → lump_count whole ≡ lump_count wad → MakesSame wad whole → lumps_from whole k levels ≡ ls

three :
    (wad : List ℕ) (held : Option (List ℕ)) (k a b : ℕ) (xs ns vs : List Lump) → k ≤ a → a ≤ b → b ≤ lump_count wad → AreContents None (kept_between wad held k a) xs
    → AreContents None (kept_between wad held a b) ns → AreContents None (kept_between wad held b (lump_count wad)) vs → AreContents None (kept_between wad held k (lump_count wad)) (xs ++ (ns ++ vs))
three wad held k a b xs ns vs low mid high p q r =
    let end = lump_count wad in
    let f = kept_at wad held in
    let cut : kept_between wad held k end ≡ kept_between wad held k a ++ (kept_between wad held a b ++ kept_between wad held b end) =
    range_split f k a end low (omega (arith, mid, high)) ∙ ap (λ (ps : List Placed). kept_between wad held k a ++ ps) (range_split f a b end mid high) in
    subst (λ (ps : List Placed). AreContents None ps (xs ++ (ns ++ vs))) (sym cut)
    (contents_join (kept_between wad held k a) (kept_between wad held a b ++ kept_between wad held b end) xs (ns ++ vs) p
    (contents_join (kept_between wad held a b) (kept_between wad held b end) ns vs q r))

fill_more :
    (wad : List ℕ) (held : Option (List ℕ)) (k : ℕ) (l : RebuiltLevel) (levels : List RebuiltLevel) (ls xs ms zs : List Lump) → k ≤ l.entries.marker → IsLevelAt wad l.entries → ls ≡ xs ++ (ms ++ zs)
    → AreContents None (kept_between wad held k l.entries.marker) xs → FillsLevel wad held l.entries l.fate ms → Fills wad held l.entries.gl_end levels zs → Fills wad held k (l ∷ levels) ls
fill_more wad held k l levels ls xs ms zs low at is first mid rest =
    let here = at.lumps.behind in
    let gl = at.gl.behind in
    let high = at.gl.among in
    let a = l.entries.marker in
    let b = l.entries.gl_end in
    let n1 = contents_long (kept_between wad held k a) xs first in
    let n2 = kept_long wad held k a in
    let n3 = contents_long (kept_between wad held a b) mid.lumps mid.are in
    let n4 = kept_long wad held a b in
    record {
      lumps = xs ++ (mid.lumps ++ rest.lumps);
      are = three wad held k a b xs mid.lumps rest.lumps low (omega (arith, here, gl)) high first mid.are rest.are;
      give =
          λ whole pre e p c same.
          let l1 = length-append pre xs in
          let l2 = length-append (pre ++ xs) mid.lumps in
          let e1 : lumps_in whole ≡ (pre ++ xs) ++ (mid.lumps ++ rest.lumps) = e ∙ sym (append_assoc pre xs (mid.lumps ++ rest.lumps)) in
          let e2 : lumps_in whole ≡ ((pre ++ xs) ++ mid.lumps) ++ rest.lumps = e1 ∙ sym (append_assoc (pre ++ xs) mid.lumps rest.lumps) in
          let s1 = stay wad held k a xs whole pre (mid.lumps ++ rest.lumps) low (omega (arith, here, gl, high, c)) first e p in
          let s2 = mid.give whole (pre ++ xs) rest.lumps e1 (omega (arith, l1, p, n1, n2, low)) c same in
          let s3 = rest.give whole ((pre ++ xs) ++ mid.lumps) e2 (omega (arith, l1, l2, p, n1, n2, n3, n4, low, here, gl)) c same in
          (λ i. s1 i ++ (s2 i ++ s3 i)) ∙ sym is;
    }

pub fill : (wad : List ℕ) (held : Option (List ℕ)) (k : ℕ) (levels : List RebuiltLevel) (ls : List Lump) → Follow wad k levels → AreContents None (placed_from wad held k levels) ls → Fills wad held k levels ls
fill wad held k [] ls f a =
    record {
      lumps = ls;
      are = a;
      give =
          λ whole pre e p c _.
          ap (lumps_between whole k) c
          ∙ stay wad held k (lump_count wad) ls whole pre [] f (omega (arith, c)) a (e ∙ ap (λ (xs : List Lump). pre ++ xs) (sym (append-nil ls))) p;
    }
fill wad held k (l ∷ levels) ls f a =
    let after = placed_after wad held l.entries l.fate in
    let behind = placed_from wad held l.entries.gl_end levels in
    let one = contents_split (kept_between wad held k l.entries.marker) (after ++ behind) ls a in
    let two = contents_split after behind one.ys one.second in
    fill_more wad held k l levels ls one.xs two.xs two.ys f.0 f.1 (one.whole ∙ ap (λ (ys : List Lump). one.xs ++ ys) two.whole) one.first
    (fill_level wad held l.entries l.fate two.xs f.1 two.first) (fill wad held l.entries.gl_end levels two.ys f.2 two.second)
