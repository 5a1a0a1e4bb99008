-- The table of the names that blocks hold: where the newest of each stands, and which one each hides.
use Rattle.std.proofs.Common.{◌≡◌, ℕ, Bool, true, false, cond, List, [], ◌∷◌, ◌++◌, map, length, get_or, set, refl, ap, ap₂, sym, ◌∙◌, Option, Some, None}
use Rattle.std.proofs.lemmas.List.{append_assoc, map-append}
use Rattle.std.proofs.lemmas.Slice.Eq.{bytes_eq-Decides}
use Rattle.std.specs.Prelude.{bytes_eq, zero, suc, Vec}
use Rattle.std.specs.Global.{Global}
use Rattle.std.specs.Map.{lookup}
use Rattle.indexmap.specs.IndexMap.{insert_entry}
use Rattle.map_script.specs.Held.{HideOlder, HasNewest, newest_of, place_noted, held_place}
use Rattle.map_script.specs.declared.held.Entry.{Entry}
use Rattle.map_script.specs.declared.meaning.Meaning.{Meaning}
use Rattle.map_script.proofs.Holding.{newest_behind, newest_same, with_sense}

-- ---- The table

put_by : (n k e : List ℕ) (t u : Bool) (new old : Option ℕ) (rest more : Option (Option ℕ)) → bytes_eq k e ≡ t → bytes_eq n e ≡ u
    → more ≡ cond (bytes_eq n k) (Some new) rest
    → cond t (cond u (Some new) rest) (cond u (Some old) more) ≡ cond (bytes_eq n k) (Some new) (cond u (Some old) rest)
put_by n k e true true new old rest more same here is =
    let one : k ≡ e = (bytes_eq-Decides k e).0 same in
    sym (ap (λ t. cond t (Some new) (Some old)) (ap (bytes_eq n) one ∙ here))
put_by n k e true false new old rest more same here is =
    let one : k ≡ e = (bytes_eq-Decides k e).0 same in
    sym (ap (λ t. cond t (Some new) rest) (ap (bytes_eq n) one ∙ here))
put_by n k e false true new old rest more same here is = other (bytes_eq n k) refl
  where
    other : (t : Bool) → bytes_eq n k ≡ t → Some old ≡ cond t (Some new) (Some old)
    other true at =
        let one : n ≡ k = (bytes_eq-Decides n k).0 at in
        let two : n ≡ e = (bytes_eq-Decides n e).0 here in
        let three : bytes_eq k e ≡ true = (bytes_eq-Decides k e).1 (sym one ∙ two) in
        cc
    other false at = refl
put_by n k e false false new old rest more same here is = is

lookup_put : (es : List (Vec ℕ Global × Option ℕ)) (k : Vec ℕ Global) (new : Option ℕ) (n : List ℕ)
    → lookup (λ (l : Vec ℕ Global). bytes_eq n l.items) (insert_entry (λ (k l : Vec ℕ Global). bytes_eq k.items l.items) es k new)
    ≡ cond (bytes_eq n k.items) (Some new) (lookup (λ (l : Vec ℕ Global). bytes_eq n l.items) es)
lookup_put [] k new n = refl
lookup_put (e ∷ es) k new n =
    let test : Vec ℕ Global → Bool = λ l. bytes_eq n l.items in
    let more = insert_entry (λ (k l : Vec ℕ Global). bytes_eq k.items l.items) es k new in
    first (bytes_eq k.items e.0.items) e (e.0, new) es more
    ∙ put_by n k.items e.0.items (bytes_eq k.items e.0.items) (bytes_eq n e.0.items) new e.1 (lookup test es) (lookup test more) refl refl (lookup_put es k new n)
  where
    first : (t : Bool) (e f : Vec ℕ Global × Option ℕ) (es more : List (Vec ℕ Global × Option ℕ))
        → lookup (λ (l : Vec ℕ Global). bytes_eq n l.items) (cond t (f ∷ es) (e ∷ more))
        ≡ cond t (cond (bytes_eq n f.0.items) (Some f.1) (lookup (λ (l : Vec ℕ Global). bytes_eq n l.items) es))
        (cond (bytes_eq n e.0.items) (Some e.1) (lookup (λ (l : Vec ℕ Global). bytes_eq n l.items) more))
    first true e f es more = refl
    first false e f es more = refl

-- the place of a name, where one is place_noted
pub place_put : (es : List (Vec ℕ Global × Option ℕ)) (k : Vec ℕ Global) (new : Option ℕ) (n : List ℕ)
    → held_place (insert_entry (λ (k l : Vec ℕ Global). bytes_eq k.items l.items) es k new) n ≡ cond (bytes_eq n k.items) new (held_place es n)
place_put es k new n = ap place_noted (lookup_put es k new n) ∙ by (bytes_eq n k.items) (lookup (λ (l : Vec ℕ Global). bytes_eq n l.items) es)
  where
    by : (t : Bool) (rest : Option (Option ℕ)) → place_noted (cond t (Some new) rest) ≡ cond t new (place_noted rest)
    by true rest = refl
    by false rest = refl

-- ---- One name more

hide_more : (others hs : List Entry) (h : Entry) → HideOlder others hs → h.hidden ≡ newest_of (others ++ hs) h.name.items → HideOlder others (hs ++ h ∷ [])
hide_more others [] h all is = (is ∙ ap (λ (gs : List Entry). newest_of gs h.name.items) (append-none others), tt)
  where
    append-none : (xs : List Entry) → xs ++ [] ≡ xs
    append-none [] = refl
    append-none (x ∷ xs) = ap (λ ys. x ∷ ys) (append-none xs)
hide_more others (g ∷ hs) h all is =
    (all.0, hide_more (others ++ g ∷ []) hs h all.1 (is ∙ ap (λ (gs : List Entry). newest_of gs h.name.items) (sym (append_assoc others (g ∷ []) hs))))

pub indexed_more : (hs : List Entry) (es : List (Vec ℕ Global × Option ℕ)) (h : Entry) (key : Vec ℕ Global) → HasNewest hs es → h.hidden ≡ held_place es h.name.items
    → key.items ≡ h.name.items
    → HasNewest (hs ++ h ∷ []) (insert_entry (λ (k l : Vec ℕ Global). bytes_eq k.items l.items) es key (Some (length hs)))
indexed_more hs es h key old is same = record {
  hide = hide_more [] hs h old.hide (is ∙ old.newest h.name.items);
  newest = λ n.
      place_put es key (Some (length hs)) n
      ∙ ap₂ (λ (k : List ℕ) (o : Option ℕ). cond (bytes_eq n k) (Some (length hs)) o) same (old.newest n)
      ∙ sym (newest_behind hs h n);
}

-- ---- One name less

hide_less : (others hs : List Entry) (h : Entry) → HideOlder others (hs ++ h ∷ []) → HideOlder others hs × (h.hidden ≡ newest_of (others ++ hs) h.name.items)
hide_less others [] h all = (tt, all.0 ∙ ap (λ (gs : List Entry). newest_of gs h.name.items) (sym (append-none others)))
  where
    append-none : (xs : List Entry) → xs ++ [] ≡ xs
    append-none [] = refl
    append-none (x ∷ xs) = ap (λ ys. x ∷ ys) (append-none xs)
hide_less others (g ∷ hs) h all =
    let (front, last) = hide_less (others ++ g ∷ []) hs h all.1 in
    ((all.0, front), last ∙ ap (λ (gs : List Entry). newest_of gs h.name.items) (append_assoc others (g ∷ []) hs))

pub indexed_less : (hs : List Entry) (es : List (Vec ℕ Global × Option ℕ)) (h : Entry) → HasNewest (hs ++ h ∷ []) es
    → HasNewest hs (insert_entry (λ (k l : Vec ℕ Global). bytes_eq k.items l.items) es h.name h.hidden)
indexed_less hs es h old =
    let (front, last) = hide_less [] hs h old.hide in
    record {
      hide = front;
      newest = λ n.
          place_put es h.name h.hidden n
          ∙ ap₂ (λ (new rest : Option ℕ). cond (bytes_eq n h.name.items) new rest) last (old.newest n ∙ newest_behind hs h n)
          ∙ by n (bytes_eq n h.name.items) refl;
    }
  where
    by : (n : List ℕ) (t : Bool) → bytes_eq n h.name.items ≡ t → cond t (newest_of hs h.name.items) (cond t (Some (length hs)) (newest_of hs n)) ≡ newest_of hs n
    by n true at = ap (newest_of hs) (sym ((bytes_eq-Decides n h.name.items).0 at))
    by n false at = refl

-- the table has the newest name
pub has_last : (hs : List Entry) (es : List (Vec ℕ Global × Option ℕ)) (h : Entry) → HasNewest (hs ++ h ∷ []) es
    → lookup (λ (l : Vec ℕ Global). bytes_eq h.name.items l.items) es ≡ None → ⊥
has_last hs es h old none =
    let name = h.name.items in
    let some : held_place es name ≡ Some (length hs) =
    old.newest name ∙ newest_behind hs h name ∙ ap (λ t. cond t (Some (length hs)) (newest_of hs name)) ((bytes_eq-Decides name name).1 refl) in
    let other : held_place es name ≡ None = ap place_noted none in
    cc

-- ---- Another meaning

names_set : (hs : List Entry) (x : Entry) (m : Meaning) (i : ℕ) → x ≡ get_or hs i x
    → map (λ (h : Entry). h.name.items) (set hs i (with_sense x m)) ≡ map (λ (h : Entry). h.name.items) hs
names_set [] x m i at = refl
names_set (h ∷ hs) x m zero at = ap (λ (y : Entry). y.name.items ∷ map (λ (h : Entry). h.name.items) hs) at
names_set (h ∷ hs) x m (suc i) at = ap (λ ns. h.name.items ∷ ns) (names_set hs x m i at)

hide_same : (others news hs : List Entry) → map (λ (h : Entry). h.name.items) others ≡ map (λ (h : Entry). h.name.items) news → HideOlder others hs → HideOlder news hs
hide_same others news [] same all = tt
hide_same others news (h ∷ hs) same all =
    (all.0 ∙ newest_same others news h.name.items same, hide_same (others ++ h ∷ []) (news ++ h ∷ []) hs (more others news same) all.1)
  where
    more : (xs ys : List Entry) → map (λ (h : Entry). h.name.items) xs ≡ map (λ (h : Entry). h.name.items) ys
        → map (λ (h : Entry). h.name.items) (xs ++ h ∷ []) ≡ map (λ (h : Entry). h.name.items) (ys ++ h ∷ [])
    more xs ys e = map-append (λ (h : Entry). h.name.items) xs (h ∷ []) ∙ ap (λ ns. ns ++ h.name.items ∷ []) e ∙ sym (map-append (λ (h : Entry). h.name.items) ys (h ∷ []))

hide_set : (others hs : List Entry) (x : Entry) (m : Meaning) (i : ℕ) → x ≡ get_or hs i x → HideOlder others hs → HideOlder others (set hs i (with_sense x m))
hide_set others [] x m i at all = tt
hide_set others (h ∷ hs) x m zero at all =
    let first : h.hidden ≡ x.hidden = ap (λ (y : Entry). y.hidden) (sym at) in
    let name : h.name.items ≡ x.name.items = ap (λ (y : Entry). y.name.items) (sym at) in (
      sym first ∙ all.0 ∙ ap (newest_of others) name,
      hide_same (others ++ h ∷ []) (others ++ with_sense x m ∷ []) hs
          (map-append (λ (h : Entry). h.name.items) others (h ∷ []) ∙ ap (λ n. map (λ (h : Entry). h.name.items) others ++ n ∷ []) name
          ∙ sym (map-append (λ (h : Entry). h.name.items) others (with_sense x m ∷ []))) all.1,
    )
hide_set others (h ∷ hs) x m (suc i) at all = (all.0, hide_set (others ++ h ∷ []) hs x m i at all.1)

pub indexed_set : (hs : List Entry) (es : List (Vec ℕ Global × Option ℕ)) (x : Entry) (m : Meaning) (i : ℕ) → x ≡ get_or hs i x → HasNewest hs es
    → HasNewest (set hs i (with_sense x m)) es
indexed_set hs es x m i at old = record {
  hide = hide_set [] hs x m i at old.hide;
  newest = λ n. old.newest n ∙ newest_same hs (set hs i (with_sense x m)) n (sym (names_set hs x m i at));
}
