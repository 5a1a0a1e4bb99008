-- The lumps of a new WAD, each at hand or at a place in a source, and the bytes that are written from there.
use Rattle.std.proofs.Common.{◌≡◌, ◌∙◌, refl, sym, ap, subst, ℕ, ◌+◌, ◌*◌, ◌<◌, true, List, [], ◌∷◌, ◌++◌, length, map, take, drop, get_or, arith, length-append, append-nil, take-add, drop-drop, Option, Some, None}
use Rattle.std.specs.Prelude.{All, flat_map}
use Rattle.std.specs.Io.KnownBytes.{Appends}
use Rattle.std.proofs.KnownBytes.{Appends-trans}
use Rattle.std.proofs.lemmas.List.{map-append, take_more}
use Rattle.std.proofs.lemmas.List.Elements.{All-cons, All-head, All-nil, All-push, All-tail}
use Rattle.lump_records.specs.declared.records.Name8.{Name8}
use Rattle.wad_file.specs.Directory.{is_kind}
use Rattle.wad_file.specs.Listed.{AreListed, ArePut, IsPlaced8, IsPut, listed_content, listed_entry, listed_lump, lumps_listed}
use Rattle.wad_file.specs.Lumps.{IsNamed8, Lump, all_bytes, entries_from, entry_bytes, long, wad_head, wad_of, wad_size}
use Rattle.wad_file.specs.Placed.{AreContents, AtHand, Content, InSource, IsContent, IsCopied, IsListWritten, IsPartAt, Placed, content_over, content_size, lump_over, lumps_over, placed_bytes, placed_directory, placed_entries, placed_head, placed_size}
use Rattle.wad_file.specs.declared.entry.Entry.{Entry}
use Rattle.wad_file.specs.declared.list.ListedLump.{ListedLump}
use Rattle.wad_file.proofs.DirectoryLemmas.{add_zero}
use Rattle.wad_file.proofs.DraftLemmas.{all_bytes-append}
use Rattle.wad_file.proofs.WrittenLemmas.{is_wad_of, kind_long, length_head, written}

-- ---- a list

pub placed_bytes-append : (xs ys : List Placed) → placed_bytes (xs ++ ys) ≡ placed_bytes xs + placed_bytes ys
placed_bytes-append [] ys = omega arith
placed_bytes-append (x ∷ xs) ys = let r = placed_bytes-append xs ys in omega (arith, r)

placed_entries-append : (at : ℕ) (xs ys : List Placed) → placed_entries at (xs ++ ys) ≡ placed_entries at xs ++ placed_entries (at + placed_bytes xs) ys
placed_entries-append at [] ys = let z : at + 0 ≡ at = add_zero at in rw z refl
placed_entries-append at (x ∷ xs) ys =
    let size = content_size x.content in
    let s : at + size + placed_bytes xs ≡ at + (size + placed_bytes xs) = omega arith in
    ap (λ (es : List Entry). record { at = at; size = size; name = x.name } ∷ es)
    (placed_entries-append (at + size) xs ys ∙ ap (λ (n : ℕ). placed_entries (at + size) xs ++ placed_entries n ys) s)

same_entry : (e : Entry) (a s : ℕ) → a ≡ e.at → s ≡ e.size → e ≡ record { at = a; size = s; name = e.name }
same_entry e a s p q = rw (p, q) refl

-- a lump more
pub listed_more :
    (xs new : List ListedLump) (x : ListedLump) (len : ℕ) → AreListed xs len → new ≡ xs ++ x ∷ [] → x.entry.at ≡ 12 + len → x.entry.size ≡ content_size (listed_content x.content)
    → length x.entry.name.bytes ≡ 8 → AreListed new (len + x.entry.size)
listed_more xs new x len i e at size name =
    let ls = lumps_listed xs in
    let y = listed_lump x in
    let entry_in : ListedLump → Entry = λ (l : ListedLump). l.entry in
    let lumps : lumps_listed new ≡ ls ++ y ∷ [] = ap (map listed_lump) e ∙ map-append listed_lump xs (x ∷ []) in
    let long_is = i.len_is in
    let here : 12 + placed_bytes ls ≡ x.entry.at = omega (arith, at, long_is) in
    let n1 : placed_bytes (lumps_listed new) ≡ placed_bytes ls + placed_bytes (y ∷ []) = ap placed_bytes lumps ∙ placed_bytes-append ls (y ∷ []) in
    record {
      entries_are =
          ap (map entry_in) e ∙ map-append entry_in xs (x ∷ []) ∙ ap (λ (es : List Entry). es ++ x.entry ∷ []) i.entries_are
          ∙ ap (λ (f : Entry). placed_entries 12 ls ++ f ∷ []) (same_entry x.entry (12 + placed_bytes ls) (content_size y.content) here (sym size))
          ∙ sym (placed_entries-append 12 ls (y ∷ []))
          ∙ ap (placed_entries 12) (sym lumps);
      len_is = omega (arith, n1, long_is, size);
      named = subst (All IsPlaced8) (sym lumps) (All-push IsPlaced8 ls y i.named name);
    }

pub listed_long : (xs : List ListedLump) → length (lumps_listed xs) ≡ length xs
listed_long [] = refl
listed_long (x ∷ xs) = let n = listed_long xs in omega (arith, n)

-- ---- parts of a source

-- two parts one behind the other are one
part_both : (source : Option (List ℕ)) (at len : ℕ) (xs ys : List ℕ) → length xs ≡ len → IsPartAt source at xs → IsPartAt source (at + len) ys → IsPartAt source at (xs ++ ys)
part_both None at len xs ys n p q = tt
part_both (Some s) at len xs ys n p q =
    let both = length-append xs ys in
    let split = take-add (length xs) (length ys) (drop at s) in
    ap (λ (b : List ℕ). b ++ ys) p ∙ ap (λ (b : List ℕ). take (length xs) (drop at s) ++ b) (q ∙ ap (take (length ys)) (further at len (length xs) s n))
    ∙ sym split
    ∙ ap (λ (k : ℕ). take k (drop at s)) (sym both)
  where
    further : (at len n : ℕ) (s : List ℕ) → n ≡ len → drop (at + len) s ≡ drop n (drop at s)
    further at len n s e = sym (drop-drop len at s) ∙ ap (λ (k : ℕ). drop k (drop at s)) (sym e)

pub copied_both : (source other u v w : Option (List ℕ)) (at next len more : ℕ) → other ≡ source → next ≡ at + len → IsCopied source at len u v → IsCopied other next more v w → IsCopied source at (len + more) u w
copied_both source other u v w at next len more same n p q =
    let here : IsPartAt source next q.part = subst (λ (k : Option (List ℕ)). IsPartAt k next q.part) same q.is_part in
    let l = length-append p.part q.part in
    let a = p.long in
    let b = q.long in
    record {
      part = p.part ++ q.part;
      long = omega (arith, l, a, b);
      is_part = part_both source at len p.part q.part p.long p.is_part (subst (λ (k : ℕ). IsPartAt source k q.part) n here);
      put = Appends-trans u v w p.part q.part p.put q.put;
    }

-- ---- lumps that were written

content_long : (source : Option (List ℕ)) (c : Content) (b : List ℕ) → IsContent source c b → length b ≡ content_size c
content_long source (AtHand bytes) b i = ap (λ (x : List ℕ). length x) i
content_long source (InSource at size) b i = i.0

AreContents-push :
    (source : Option (List ℕ)) (ps : List Placed) (ls : List Lump) (p : Placed) (l : Lump) → AreContents source ps ls → l.name ≡ p.name → IsContent source p.content l.bytes
    → AreContents source (ps ++ p ∷ []) (ls ++ l ∷ [])
AreContents-push source [] [] p l a n c = (n, c, tt)
AreContents-push source [] (y ∷ ls) p l a n c = absurd a
AreContents-push source (x ∷ ps) [] p l a n c = absurd a
AreContents-push source (x ∷ ps) (y ∷ ls) p l a n c = (a.0, a.1, AreContents-push source ps ls p l a.2 n c)

contents_long : (source : Option (List ℕ)) (ps : List Placed) (ls : List Lump) → AreContents source ps ls → length ls ≡ length ps
contents_long source [] [] a = refl
contents_long source [] (l ∷ ls) a = absurd a
contents_long source (p ∷ ps) [] a = absurd a
contents_long source (p ∷ ps) (l ∷ ls) a = let r = contents_long source ps ls a.2 in omega (arith, r)

contents_bytes : (source : Option (List ℕ)) (ps : List Placed) (ls : List Lump) → AreContents source ps ls → length (all_bytes ls) ≡ placed_bytes ps
contents_bytes source [] [] a = refl
contents_bytes source [] (l ∷ ls) a = absurd a
contents_bytes source (p ∷ ps) [] a = absurd a
contents_bytes source (p ∷ ps) (l ∷ ls) a =
    let r = contents_bytes source ps ls a.2 in
    let h = content_long source p.content l.bytes a.1 in
    let n = length-append l.bytes (all_bytes ls) in
    omega (arith, r, h, n)

contents_entries : (source : Option (List ℕ)) (at : ℕ) (ps : List Placed) (ls : List Lump) → AreContents source ps ls → placed_entries at ps ≡ entries_from at ls
contents_entries source at [] [] a = refl
contents_entries source at [] (l ∷ ls) a = absurd a
contents_entries source at (p ∷ ps) [] a = absurd a
contents_entries source at (p ∷ ps) (l ∷ ls) a =
    let h = content_long source p.content l.bytes a.1 in
    let n = a.0 in
    ap (λ (k : ℕ). record { at = at; size = k; name = p.name } ∷ placed_entries (at + k) ps) (sym h)
    ∙ ap (λ (m : _). record { at = at; size = length l.bytes; name = m } ∷ placed_entries (at + length l.bytes) ps) (sym n)
    ∙ ap (λ (es : List Entry). record { at = at; size = length l.bytes; name = l.name } ∷ es) (contents_entries source (at + length l.bytes) ps ls a.2)

contents_named : (source : Option (List ℕ)) (ps : List Placed) (ls : List Lump) → AreContents source ps ls → All IsPlaced8 ps → All IsNamed8 ls
contents_named source [] [] a named = All-nil IsNamed8
contents_named source [] (l ∷ ls) a named = absurd a
contents_named source (p ∷ ps) [] a named = absurd a
contents_named source (p ∷ ps) (l ∷ ls) a named =
    let e = ap (λ (n : _). length n.bytes) a.0 in
    All-cons IsNamed8 l ls (e ∙ All-head IsPlaced8 p ps named) (contents_named source ps ls a.2 (All-tail IsPlaced8 p ps named))

-- where the source is known, the lumps are those over it
pub contents_over : (source : List ℕ) (ps : List Placed) (ls : List Lump) → AreContents (Some source) ps ls → ls ≡ lumps_over source ps
contents_over source [] [] a = refl
contents_over source [] (l ∷ ls) a = absurd a
contents_over source (p ∷ ps) [] a = absurd a
contents_over source (p ∷ ps) (l ∷ ls) a =
    same_lump l p.name (content_over source p.content) a.0 (over p.content l.bytes a.1)
    ∙ ap (λ (b : List Lump). lump_over source p ∷ b) (contents_over source ps ls a.2)
  where
    over : (c : Content) (b : List ℕ) → IsContent (Some source) c b → b ≡ content_over source c
    over (AtHand bytes) b i = i
    over (InSource at size) b i = i.1 ∙ ap (λ (n : ℕ). take n (drop at source)) i.0

    same_lump : (l : Lump) (n : Name8) (b : List ℕ) → l.name ≡ n → l.bytes ≡ b → l ∷ ls ≡ record { name = n; bytes = b } ∷ ls
    same_lump l n b e f = ap (λ (m : Name8). record { name = m; bytes = l.bytes } ∷ ls) e ∙ ap (λ (c : List ℕ). record { name = n; bytes = c } ∷ ls) f

-- a lump more is written
pub put_more :
    (source other u v w : Option (List ℕ)) (xs : List ListedLump) (n : ℕ) (d : ListedLump) → other ≡ source → n < length xs
    → ArePut source (lumps_listed (take n xs)) u v → IsPut other (listed_content (get_or xs n d).content) v w → ArePut source (lumps_listed (take (n + 1) xs)) u w
put_more source other u v w xs n d same within p q =
    let x = get_or xs n d in
    let more = take_more xs n d within in
    let lumps : lumps_listed (take (n + 1) xs) ≡ lumps_listed (take n xs) ++ listed_lump x ∷ [] = ap (map listed_lump) more ∙ map-append listed_lump (take n xs) (x ∷ []) in
    let l : Lump = record { name = x.entry.name; bytes = q.bytes } in
    let here : IsContent source (listed_content x.content) q.bytes = subst (λ (k : Option (List ℕ)). IsContent k (listed_content x.content) q.bytes) same q.are in
    let all : all_bytes (p.lumps ++ l ∷ []) ≡ all_bytes p.lumps ++ q.bytes = all_bytes-append p.lumps (l ∷ []) ∙ ap (λ (b : List ℕ). all_bytes p.lumps ++ b) (append-nil q.bytes) in
    record {
      lumps = p.lumps ++ l ∷ [];
      are = subst (λ (ps : List Placed). AreContents source ps (p.lumps ++ l ∷ [])) (sym lumps) (AreContents-push source (lumps_listed (take n xs)) p.lumps (listed_lump x) l p.are refl here);
      put = subst (Appends u w) (sym all) (Appends-trans u v w (all_bytes p.lumps) q.bytes p.put q.put);
    }

-- ---- the WAD of them

entries_listed : (xs : List ListedLump) → flat_map listed_entry xs ≡ flat_map entry_bytes (map (λ (l : ListedLump). l.entry) xs)
entries_listed [] = refl
entries_listed (x ∷ xs) = ap (λ (bs : List ℕ). entry_bytes x.entry ++ bs) (entries_listed xs)

-- the entries that a list keeps are those of the directory
pub directory_listed : (xs ys : List ListedLump) (list : List Placed) (len : ℕ) → AreListed xs len → lumps_listed xs ≡ list → ys ≡ xs → flat_map listed_entry ys ≡ placed_directory list
directory_listed xs ys list len i e y =
    ap (flat_map listed_entry) y ∙ entries_listed xs ∙ ap (flat_map entry_bytes) i.entries_are ∙ ap (λ (ps : List Placed). placed_directory ps) e

-- and its header
pub head_listed : (kind : List ℕ) (xs : List ListedLump) (list : List Placed) (len count : ℕ) → AreListed xs len → lumps_listed xs ≡ list → count ≡ length xs
    → kind ++ (long count ++ long (12 + len)) ≡ placed_head kind list
head_listed kind xs list len count i e c =
    let n : count ≡ length list = c ∙ sym (listed_long xs) ∙ ap (λ (ps : List Placed). length ps) e in
    let m : len ≡ placed_bytes list = i.len_is ∙ ap placed_bytes e in
    ap (λ (k : ℕ). kind ++ (long k ++ long (12 + len))) n ∙ ap (λ (k : ℕ). kind ++ (long (length list) ++ long (12 + k))) m

-- header, lumps and directory are the WAD
pub whole_is : (source : Option (List ℕ)) (kind : List ℕ) (list : List Placed) (ls : List Lump) → AreContents source list ls
    → placed_head kind list ++ (all_bytes ls ++ placed_directory list) ≡ wad_of kind ls
whole_is source kind list ls a =
    let n = contents_long source list ls a in
    let m = contents_bytes source list ls a in
    let head : placed_head kind list ≡ wad_head kind ls =
    ap (λ (k : ℕ). kind ++ (long k ++ long (12 + placed_bytes list))) (sym n) ∙ ap (λ (k : ℕ). kind ++ (long (length ls) ++ long (12 + k))) (sym m) in
    ap (λ (h : List ℕ). h ++ (all_bytes ls ++ placed_directory list)) head
    ∙ ap (λ (es : List Entry). wad_head kind ls ++ (all_bytes ls ++ flat_map entry_bytes es)) (contents_entries source 12 list ls a)

-- so the WAD is written, part by part
pub whole_written :
    (source u v w x : Option (List ℕ)) (kind : List ℕ) (list : List Placed) (ls : List Lump) → AreContents source list ls → Appends u v (placed_head kind list) → Appends v w (all_bytes ls)
    → Appends w x (placed_directory list) → Appends u x (wad_of kind ls)
whole_written source u v w x kind list ls a head body directory =
    subst (Appends u x) (whole_is source kind list ls a)
    (Appends-trans u v x (placed_head kind list) (all_bytes ls ++ placed_directory list) head (Appends-trans v w x (all_bytes ls) (placed_directory list) body directory))

-- its length is that of the list's WAD
pub size_is : (source : Option (List ℕ)) (list : List Placed) (ls : List Lump) → AreContents source list ls → wad_size ls ≡ placed_size list
size_is source list ls a =
    let n1 = contents_long source list ls a in
    let n2 = contents_bytes source list ls a in
    omega (arith, n1, n2)

entry_size : (e : Entry) → length e.name.bytes ≡ 8 → length (entry_bytes e) ≡ 16
entry_size e h =
    let n = length-append (long e.at ++ long e.size) e.name.bytes in
    omega (arith, n, h)

directory_size : (at : ℕ) (lumps : List Lump) → All IsNamed8 lumps → length (flat_map entry_bytes (entries_from at lumps)) ≡ 16 * length lumps
directory_size at [] named = refl
directory_size at (l ∷ lumps) named =
    let e : Entry = record { at = at; size = length l.bytes; name = l.name } in
    let n1 = entry_size e (All-head IsNamed8 l lumps named) in
    let n2 = directory_size (at + length l.bytes) lumps (All-tail IsNamed8 l lumps named) in
    let n3 = length-append (entry_bytes e) (flat_map entry_bytes (entries_from (at + length l.bytes) lumps)) in
    omega (arith, n1, n2, n3)

pub wad_long : (kind : List ℕ) (lumps : List Lump) → is_kind kind ≡ true → All IsNamed8 lumps → length (wad_of kind lumps) ≡ wad_size lumps
wad_long kind lumps i named =
    let n1 = length-append (wad_head kind lumps) (all_bytes lumps ++ flat_map entry_bytes (entries_from 12 lumps)) in
    let n2 = length-append (all_bytes lumps) (flat_map entry_bytes (entries_from 12 lumps)) in
    let n3 = directory_size 12 lumps named in
    let n4 = length_head kind lumps (kind_long kind i) in
    omega (arith, n1, n2, n3, n4)

-- a list's WAD is written, part by part
pub list_written :
    (source u v w x : Option (List ℕ)) (kind : List ℕ) (xs ys : List ListedLump) (list : List Placed) (len : ℕ) → AreListed xs len → lumps_listed xs ≡ list → ys ≡ xs → is_kind kind ≡ true
    → placed_size list < 4294967296 → Appends u v (placed_head kind list) → ArePut source (lumps_listed ys) v w → Appends w x (placed_directory list) → IsListWritten source kind list u x
list_written source u v w x kind xs ys list len i e y k fits head body directory =
    let b : ArePut source (lumps_listed xs) v w = subst (λ (ls : List ListedLump). ArePut source (lumps_listed ls) v w) y body in
    let ls = b.lumps in
    let a : AreContents source list ls = subst (λ (ps : List Placed). AreContents source ps ls) e b.are in
    let named : All IsNamed8 ls = contents_named source (lumps_listed xs) ls b.are i.named in
    let s : wad_size ls ≡ placed_size list = size_is source list ls a in
    record {
      lumps = ls;
      are = a;
      put = whole_written source u v w x kind list ls a head b.put directory;
      reads = is_wad_of kind ls (wad_of kind ls) (written kind ls k named (omega (arith, s, fits)));
      long = wad_long kind ls k named ∙ s;
    }
