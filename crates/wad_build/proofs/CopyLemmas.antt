-- A list's items, one after another.
use Rattle.std.proofs.Common.{◌≡◌, ◌∙◌, refl, sym, ap, subst, ℕ, ◌+◌, ◌<◌, ◌≤◌, List, [], ◌∷◌, ◌++◌, length, take, arith, append-nil, Option, Some}
use Rattle.std.specs.Prelude.{slice_get, get_or, flat_map, All}
use Rattle.std.specs.Io.KnownBytes.{Appends, append_known}
use Rattle.std.proofs.KnownBytes.{Appends-trans}
use Rattle.std.proofs.lemmas.Grind.{flat_map-append}
use Rattle.std.proofs.lemmas.List.Elements.{All-nil, All-push, All-same}
use Rattle.std.proofs.lemmas.List.{take_more, take_all}
use Rattle.std.proofs.lemmas.Option.{slice_get-get_or, slice_get_within, get_or_from_slice_get}
use Rattle.lump_records.specs.Lumps.{records_of}
use Rattle.wad_file.proofs.BufferLemmas.{all_sent, none_held}
use Rattle.map_tables.proofs.BodyLemmas.{IsBack, records-back}

pub item_more : {X : Type 0} (xs old : List X) (n : ℕ) (x : X) → slice_get xs n ≡ Some x → old ≡ take n xs → old ++ x ∷ [] ≡ take (n + 1) xs
item_more xs old n x at so_far =
    ap (λ ys. ys ++ x ∷ []) so_far
    ∙ ap (λ y. take n xs ++ y ∷ []) (sym (get_or_from_slice_get xs n x x at))
    ∙ sym (take_more xs n x (slice_get_within xs n x at))

pub no_gap : {X : Type 0} (xs : List X) (n : ℕ) → n < length xs → ((x : X) → slice_get xs n ≡ Some x → ⊥) → ⊥
no_gap [] n h none = absurd (omega arith)
no_gap (x ∷ xs) n h none = none (get_or (x ∷ xs) n x) (slice_get-get_or (x ∷ xs) n x h)

pub all_items : {X : Type 0} (xs ys : List X) (n : ℕ) → length xs ≤ n → ys ≡ take n xs → ys ≡ xs
all_items xs ys n h so_far = so_far ∙ take_all n xs h

-- ---- The records of a list, encoded one after another

-- the records of the first n items are written, and each decodes from its own bytes
abbrev pub Encodes : {X : Type 0} → (List ℕ → X) → (X → List ℕ) → ℕ → List X → ℕ → Option (List ℕ) → Option (List ℕ) → Type 0
Encodes at bytes_of size xs n old new = Appends old new (flat_map bytes_of (take n xs)) × All (IsBack at bytes_of size) (take n xs)

-- at first none is
pub encoded_none : {X : Type 0} (at : List ℕ → X) (bytes_of : X → List ℕ) (size : ℕ) (xs : List X) (u : Option (List ℕ)) (held : List ℕ) → held ≡ []
    → Encodes at bytes_of size xs 0 u (append_known u held)
encoded_none at bytes_of size xs u held none = (none_held u held none, All-nil (IsBack at bytes_of size))

pub encoded_more : {X : Type 0} (at : List ℕ → X) (bytes_of : X → List ℕ) (size : ℕ) (xs : List X) (n : ℕ) (u v w : Option (List ℕ)) (field : List ℕ) (x : X) → slice_get xs n ≡ Some x
    → Encodes at bytes_of size xs n u v → Appends v w field → field ≡ bytes_of x → at field ≡ x → length field ≡ size → Encodes at bytes_of size xs (n + 1) u w
encoded_more at bytes_of size xs n u v w field x here so_far put of back long =
    let more = item_more xs (take n xs) n x here refl in
    let same : length (bytes_of x) ≡ length field = ap (λ (bs : List ℕ). length bs) (sym of) in
    let one : flat_map bytes_of (take n xs) ++ field ≡ flat_map bytes_of (take (n + 1) xs) =
    ap (λ (bs : List ℕ). flat_map bytes_of (take n xs) ++ bs) (of ∙ sym (append-nil (bytes_of x)))
    ∙ sym (flat_map-append bytes_of (take n xs) (x ∷ []))
    ∙ ap (flat_map bytes_of) more in (
      subst (Appends u w) one (Appends-trans u v w (flat_map bytes_of (take n xs)) field so_far.0 put),
      All-same (IsBack at bytes_of size) _ _ (sym more)
          (All-push (IsBack at bytes_of size) (take n xs) x so_far.1 (record { size = same ∙ long; back = ap at (sym of) ∙ back })),
    )

-- all of them, once what was held is written
pub encoded_sent : {X : Type 0} (at : List ℕ → X) (bytes_of : X → List ℕ) (size : ℕ) (xs : List X) (n : ℕ) (u v w : Option (List ℕ)) (held : List ℕ) → length xs ≤ n
    → Encodes at bytes_of size xs n u (append_known v held) → Appends v w held → Appends u w (flat_map bytes_of xs)
encoded_sent at bytes_of size xs n u v w held whole so_far sent =
    subst (λ (ys : List _). Appends u w (flat_map bytes_of ys)) (take_all n xs whole) (all_sent u v w held (flat_map bytes_of (take n xs)) so_far.0 sent)

pub encoded_back : {X : Type 0} (at : List ℕ → X) (bytes_of : X → List ℕ) (size : ℕ) (xs : List X) (n : ℕ) (u v : Option (List ℕ)) → length xs ≤ n → 0 < size
    → Encodes at bytes_of size xs n u v → records_of at size (flat_map bytes_of xs) ≡ xs
encoded_back at bytes_of size xs n u v whole some so_far =
    records-back at bytes_of size xs some (All-same (IsBack at bytes_of size) _ _ (sym (take_all n xs whole)) so_far.1)
