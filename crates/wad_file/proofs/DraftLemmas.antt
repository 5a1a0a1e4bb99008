-- A WAD that is written lump by lump: what its writer holds, and lumps that are appended one behind another.
use Rattle.std.proofs.Common.{◌≡◌, ◌∙◌, refl, sym, ap, subst, ℕ, ◌+◌, ◌-◌, ◌≤◌, List, [], ◌∷◌, ◌++◌, length, map, take, drop, arith, append_assoc, length-append, append-nil, length-drop, take-append-drop, true}
use Rattle.std.specs.Prelude.{flat_map}
use Rattle.std.proofs.Math.Seq.{drop-append_seam, drop-append-add, take-append_seam}
use Rattle.std.proofs.lemmas.Grind.{flat_map-append}
use Rattle.std.proofs.lemmas.List.{drop-append-le, length-take-le, take-append-le, take_all}
use Rattle.std.proofs.lemmas.List.Elements.{All-nil, All-push}
use Rattle.lump_records.specs.declared.records.Name8.{Name8}
use Rattle.wad_file.specs.DraftFields.{IsLaid, draft_in, lump_in}
use Rattle.wad_file.specs.Drafts.{Draft, no_lumps}
use Rattle.wad_file.specs.Lumps.{IsNamed8, Lump, all_bytes, entries_from, entry_bytes, long, wad_head, wad_of}
use Rattle.wad_file.specs.declared.entry.Entry.{Entry}
use Rattle.wad_file.specs.Directory.{is_kind}
use Rattle.wad_file.proofs.DirectoryLemmas.{add_zero}
use Rattle.wad_file.proofs.WrittenLemmas.{kind_long}

-- ---- lists of lumps

pub all_bytes-append : (xs ys : List Lump) → all_bytes (xs ++ ys) ≡ all_bytes xs ++ all_bytes ys
all_bytes-append xs ys = flat_map-append (λ (l : Lump). l.bytes) xs ys

pub all_bytes-length : (xs ys : List Lump) → length (all_bytes (xs ++ ys)) ≡ length (all_bytes xs) + length (all_bytes ys)
all_bytes-length xs ys = ap (λ (ws : List ℕ). length ws) (all_bytes-append xs ys) ∙ length-append (all_bytes xs) (all_bytes ys)

entries_behind : (at : ℕ) (xs ys : List Lump) → entries_from at (xs ++ ys) ≡ entries_from at xs ++ entries_from (at + length (all_bytes xs)) ys
entries_behind at [] ys = let z : at + 0 ≡ at = add_zero at in rw z refl
entries_behind at (x ∷ xs) ys =
    let l = length-append x.bytes (all_bytes xs) in
    let s : at + length x.bytes + length (all_bytes xs) ≡ at + length (x.bytes ++ all_bytes xs) = omega (arith, l) in
    ap (λ (es : List Entry). record { at = at; size = length x.bytes; name = x.name } ∷ es)
    (entries_behind (at + length x.bytes) xs ys ∙ ap (λ (n : ℕ). entries_from (at + length x.bytes) xs ++ entries_from n ys) s)

-- ---- what a writer holds

-- lumps that stand one behind another are the lumps of their entries
in_place : (pre rest : List ℕ) (ls : List Lump) → map (lump_in (pre ++ (all_bytes ls ++ rest))) (entries_from (length pre) ls) ≡ ls
in_place pre rest [] = refl
in_place pre rest (l ∷ ls) =
    let wad = pre ++ ((l.bytes ++ all_bytes ls) ++ rest) in
    let next : wad ≡ (pre ++ l.bytes) ++ (all_bytes ls ++ rest) =
    ap (λ (ws : List ℕ). pre ++ ws) (append_assoc l.bytes (all_bytes ls) rest) ∙ sym (append_assoc pre l.bytes (all_bytes ls ++ rest)) in
    let bytes : take (length l.bytes) (drop (length pre) wad) ≡ l.bytes =
    ap (take (length l.bytes)) (drop-append_seam pre ((l.bytes ++ all_bytes ls) ++ rest) ∙ append_assoc l.bytes (all_bytes ls) rest)
    ∙ take-append_seam l.bytes (all_bytes ls ++ rest) in
    let others : map (lump_in wad) (entries_from (length pre + length l.bytes) ls) ≡ ls =
    ap (λ (ws : List ℕ). map (lump_in ws) (entries_from (length pre + length l.bytes) ls)) next
    ∙ ap (λ (n : ℕ). map (lump_in ((pre ++ l.bytes) ++ (all_bytes ls ++ rest))) (entries_from n ls)) (sym (length-append pre l.bytes))
    ∙ in_place (pre ++ l.bytes) rest ls in
    ap (λ (ws : List ℕ). record { name = l.name; bytes = ws } ∷ map (lump_in wad) (entries_from (length pre + length l.bytes) ls)) bytes
    ∙ ap (λ (xs : List Lump). l ∷ xs) others

-- what is laid so is what the fields hold
pub held : (bytes : List ℕ) (entries : List Entry) (at : ℕ) (d : Draft) → IsLaid bytes entries at d → draft_in bytes entries at ≡ d
held bytes entries at d l =
    let front : length (take 12 bytes) ≡ 12 = length-take-le 12 bytes l.long in
    let whole : bytes ≡ take 12 bytes ++ (all_bytes d.lumps ++ d.begun) =
    sym (take-append-drop 12 bytes) ∙ ap (λ (ws : List ℕ). take 12 bytes ++ ws) l.bytes_are in
    let lumps : map (lump_in bytes) entries ≡ d.lumps =
    ap (map (lump_in bytes)) l.entries_are
    ∙ ap (λ (ws : List ℕ). map (lump_in ws) (entries_from 12 d.lumps)) whole
    ∙ ap (λ (n : ℕ). map (lump_in (take 12 bytes ++ (all_bytes d.lumps ++ d.begun))) (entries_from n d.lumps)) (sym front)
    ∙ in_place (take 12 bytes) d.begun d.lumps in
    let begun : drop at bytes ≡ d.begun =
    ap (λ (n : ℕ). drop n bytes) (l.at_is ∙ ap (λ (n : ℕ). n + length (all_bytes d.lumps)) (sym front))
    ∙ ap (drop (length (take 12 bytes) + length (all_bytes d.lumps))) whole
    ∙ drop-append-add (take 12 bytes) (all_bytes d.lumps ++ d.begun) (length (all_bytes d.lumps))
    ∙ drop-append_seam (all_bytes d.lumps) d.begun in
    rw (lumps, begun) refl

-- so the fields hold it, and are those of a writer
pub record Holds (bytes : List ℕ) (entries : List Entry) (at : ℕ) (d : Draft) : Type 0 where
  pub view_is : draft_in bytes entries at ≡ d
  pub laid : IsLaid bytes entries at (draft_in bytes entries at)

pub holds : (bytes : List ℕ) (entries : List Entry) (at : ℕ) (d : Draft) → IsLaid bytes entries at d → Holds bytes entries at d
holds bytes entries at d l =
    let h = held bytes entries at d l in
    record { view_is = h; laid = subst (IsLaid bytes entries at) (sym h) l }

pub begun : (bytes : List ℕ) → length bytes ≡ 12 → Holds bytes [] 12 no_lumps
begun bytes h =
    holds bytes [] 12 no_lumps
    (record { long = omega (arith, h); bytes_are = ap (λ (n : ℕ). drop n bytes) (sym h) ∙ none bytes; entries_are = refl; at_is = refl; named = All-nil IsNamed8 })
  where
    none : (xs : List ℕ) → drop (length xs) xs ≡ []
    none [] = refl
    none (x ∷ xs) = none xs

pub appended :
    (bytes more new : List ℕ) (entries : List Entry) (at : ℕ) (d : Draft) → IsLaid bytes entries at d → new ≡ bytes ++ more
    → Holds new entries at (record d { begun = d.begun ++ more })
appended bytes more new entries at d l e =
    let n = ap (λ (ws : List ℕ). length ws) e ∙ length-append bytes more in
    let long = l.long in
    holds new entries at (record d { begun = d.begun ++ more })
    (record {
      long = omega (arith, n, long);
      bytes_are =
          ap (drop 12) e ∙ drop-append-le 12 bytes more l.long ∙ ap (λ (ws : List ℕ). ws ++ more) l.bytes_are
          ∙ append_assoc (all_bytes d.lumps) d.begun more;
      entries_are = l.entries_are;
      at_is = l.at_is;
      named = l.named;
    })

-- how long the bytes are
pub laid_long : (bytes : List ℕ) (entries : List Entry) (at : ℕ) (d : Draft) → IsLaid bytes entries at d → length bytes ≡ at + length d.begun
laid_long bytes entries at d l =
    let n1 = ap (λ (ws : List ℕ). length ws) (sym (take-append-drop 12 bytes) ∙ ap (λ (ws : List ℕ). take 12 bytes ++ ws) l.bytes_are) in
    let n2 = length-append (take 12 bytes) (all_bytes d.lumps ++ d.begun) in
    let n3 = length-append (all_bytes d.lumps) d.begun in
    let n4 = length-take-le 12 bytes l.long in
    let n5 = l.at_is in
    omega (arith, n1, n2, n3, n4, n5)

entries_long : (at : ℕ) (lumps : List Lump) → length (entries_from at lumps) ≡ length lumps
entries_long at [] = refl
entries_long at (l ∷ lumps) = let n = entries_long (at + length l.bytes) lumps in omega (arith, n)

pub ended :
    (bytes : List ℕ) (entries new : List Entry) (at size end : ℕ) (name : Name8) (d : Draft) → IsLaid bytes entries at d → length name.bytes ≡ 8 → end ≡ length bytes → size ≡ end - at
    → new ≡ entries ++ record { at = at; size = size; name = name } ∷ []
    → Holds bytes new end (record { lumps = d.lumps ++ record { name = name; bytes = d.begun } ∷ []; begun = [] })
ended bytes entries new at size end name d l n e s is =
    let lump : Lump = record { name = name; bytes = d.begun } in
    let lumps = d.lumps ++ lump ∷ [] in
    let here = l.at_is in
    let long = laid_long bytes entries at d l in
    let same : size ≡ length d.begun = omega (arith, e, s, long) in
    let more = all_bytes-append d.lumps (lump ∷ []) ∙ ap (λ (ws : List ℕ). all_bytes d.lumps ++ ws) (append-nil d.begun) in
    let n1 = ap (λ (ws : List ℕ). length ws) more ∙ length-append (all_bytes d.lumps) d.begun in
    holds bytes new end (record { lumps = lumps; begun = [] })
    (record {
      long = l.long;
      bytes_are = l.bytes_are ∙ sym more ∙ sym (append-nil (all_bytes lumps));
      entries_are =
          is ∙ ap (λ (es : List Entry). es ++ record { at = at; size = size; name = name } ∷ []) l.entries_are
          ∙ ap (λ (m : ℕ). entries_from 12 d.lumps ++ record { at = m; size = size; name = name } ∷ []) here
          ∙ ap (λ (m : ℕ). entries_from 12 d.lumps ++ record { at = 12 + length (all_bytes d.lumps); size = m; name = name } ∷ []) same
          ∙ sym (entries_behind 12 d.lumps (lump ∷ []));
      at_is = omega (arith, e, long, here, n1);
      named = All-push IsNamed8 d.lumps lump l.named n;
    })

-- ---- the header

-- the bytes with the header written over the first twelve are no longer than before
over_whole :
    (bytes head new : List ℕ) (len : ℕ) → length bytes ≡ len → length head ≡ 12 → 12 ≤ length bytes → new ≡ head ++ drop (length head) bytes
    → take len (new ++ drop (length new) bytes) ≡ new
over_whole bytes head new len l h b e =
    let n1 = ap (λ (ws : List ℕ). length ws) e ∙ length-append head (drop (length head) bytes) in
    let n2 = length-drop (length head) bytes in
    let le : len ≤ length new = omega (arith, n1, n2, l, h, b) in
    let ge : length new ≤ len = omega (arith, n1, n2, l, h, b) in
    take-append-le len new (drop (length new) bytes) le ∙ take_all len new ge

-- the first bytes written over by the header, and the directory behind the lumps
pub finished :
    (bytes head new out kind : List ℕ) (entries : List Entry) (at count place len : ℕ) (d : Draft) → IsLaid bytes entries at d → d.begun ≡ [] → is_kind kind ≡ true
    → count ≡ length entries → place ≡ length bytes → len ≡ length bytes → head ≡ kind ++ (long count ++ long place) → new ≡ head ++ drop (length head) bytes
    → out ≡ take len (new ++ drop (length new) bytes) ++ flat_map entry_bytes entries → out ≡ wad_of kind d.lumps
finished bytes head new out kind entries at count place len d l r i n m e h w o =
    let f = kind_long kind i in
    let many : count ≡ length d.lumps = n ∙ ap (λ (es : List Entry). length es) l.entries_are ∙ entries_long 12 d.lumps in
    let long0 = laid_long bytes entries at d l in
    let here = l.at_is in
    let none = ap (λ (ws : List ℕ). length ws) r in
    let there : place ≡ 12 + length (all_bytes d.lumps) = omega (arith, m, long0, here, none) in
    let head_is : head ≡ wad_head kind d.lumps =
    h ∙ ap (λ (k : ℕ). kind ++ (long k ++ long place)) many ∙ ap (λ (k : ℕ). kind ++ (long (length d.lumps) ++ long k)) there in
    let n1 = ap (λ (ws : List ℕ). length ws) h ∙ length-append kind (long count ++ long place) in
    let twelve : length head ≡ 12 = omega (arith, n1, f) in
    let body : drop (length head) bytes ≡ all_bytes d.lumps =
    ap (λ (k : ℕ). drop k bytes) twelve ∙ l.bytes_are ∙ ap (λ (ws : List ℕ). all_bytes d.lumps ++ ws) r ∙ append-nil (all_bytes d.lumps) in
    o ∙ ap (λ (ws : List ℕ). ws ++ flat_map entry_bytes entries) (over_whole bytes head new len (sym e) twelve l.long w ∙ w)
    ∙ ap (λ (ws : List ℕ). (ws ++ drop (length head) bytes) ++ flat_map entry_bytes entries) head_is
    ∙ ap (λ (ws : List ℕ). (wad_head kind d.lumps ++ ws) ++ flat_map entry_bytes entries) body
    ∙ ap (λ (es : List Entry). (wad_head kind d.lumps ++ all_bytes d.lumps) ++ flat_map entry_bytes es) l.entries_are
    ∙ append_assoc (wad_head kind d.lumps) (all_bytes d.lumps) (flat_map entry_bytes (entries_from 12 d.lumps))
