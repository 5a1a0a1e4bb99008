-- The numbers that are placed, one more at a time: none lies on another, each is beside its item, and there are no more
-- than are wanted.
use Rattle.std.proofs.Common.{◌≡◌, ◌∙◌, ◌⊎◌, inl, inr, refl, sym, ap, ℕ, suc, ◌+◌, ◌<◌, ◌≤◌, Bool, true, false, not, cond, List, [], ◌∷◌, ◌++◌, length, get_or, Option, None, Some, arith, length-append}
use Rattle.std.specs.Prelude.{◌&&◌, ◌==◌, if◌then◌else◌, All, AllPairs, Contains, find, fold}
use Rattle.std.specs.List.{list_any, position_or_len}
use Rattle.std.specs.Option.{option_map_or}
use Rattle.std.proofs.lemmas.List.Elements.{All-push}
use Rattle.std.proofs.lemmas.List.Folds.{find_at, list_any_at}
use Rattle.std.proofs.lemmas.List.Quantifiers.{all_pairs_push}
use Rattle.std.proofs.lemmas.Option.{get_or_from_slice_get, slice_get_within}
use Rattle.map_tables.specs.Tables.{Tables}
use Rattle.map_svg.specs.declared.places.Shift.{Shift}
use Rattle.map_picture.specs.Labels.{all_labels, number_size}
use Rattle.map_picture.specs.Placing.{IsBeside, first_free, half_height, is_free, label_width, left_out, lies_within, note_box, number_box, overlaps, page_box, place_all, placed_at, placed_numbers, placed_with}
use Rattle.map_picture.specs.declared.labels.Label.{Label}
use Rattle.map_picture.specs.declared.placing.NumberBox.{NumberBox}
use Rattle.map_picture.specs.declared.placing.Placed.{Placed}
use Rattle.map_picture.specs.declared.placing.Room.{Room}
use Rattle.map_picture.specs.declared.view.View.{View}

-- what a search finds passes the test
found_first : {X : Type 0} (b : Bool) (y x : X) (rest : Option X) → cond b (Some y) rest ≡ Some x → ((b ≡ true) × (y ≡ x)) ⊎ (rest ≡ Some x)
found_first true y x rest e = inl (refl, cc)
found_first false y x rest e = inr e

find_passes : {X : Type 0} (p : X → Bool) (xs : List X) (x : X) → find p xs ≡ Some x → p x ≡ true
find_passes p [] x e = absurd cc
find_passes p (y ∷ xs) x e =
    elim (found_first (p y) y x (find p xs) e) [
      | inl h ↦ ap p (sym h.1) ∙ h.0
      | inr h ↦ find_passes p xs x h
    ]

find_contains : {X : Type 0} (p : X → Bool) (xs : List X) (x : X) → find p xs ≡ Some x → Contains xs x
find_contains p xs x e =
    let there = sym (find_at p xs) ∙ e in
    (position_or_len p xs, slice_get_within xs (position_or_len p xs) x there, get_or_from_slice_get xs (position_or_len p xs) x x there)

last_not : (a b c : Bool) → (a && not b && not c) ≡ true → c ≡ false
last_not a b false e = refl
last_not true true true e = absurd cc
last_not true false true e = absurd cc
last_not false true true e = absurd cc
last_not false false true e = absurd cc

either_way : (b : Bool) → (b ≡ true) ⊎ (b ≡ false)
either_way true = inl refl
either_way false = inr refl

none_passes : {X : Type 0} (p : X → Bool) (xs : List X) → list_any p xs ≡ false → (k : ℕ) (d : X) → k < length xs → p (get_or xs k d) ≡ false
none_passes p xs e k d within =
    elim (either_way (p (get_or xs k d))) [
      | inl h ↦ (let some : list_any p xs ≡ true = list_any_at p xs k d within h in absurd cc)
      | inr h ↦ h
    ]

-- ---- none lies on another
abbrev pub Apart : List Placed → Type 0
Apart ps = AllPairs (λ a b. overlaps b.space a.space ≡ false) ps

abbrev box_of : ℕ → Label → Shift → NumberBox
box_of size l s = number_box l.place s (label_width size l) (half_height l.item size)

abbrev placed_by : ℕ → Label → Shift → Placed
placed_by size l s = placed_at (label_width size l) (half_height l.item size) l s

apart_with : (size : ℕ) (room : Room) (ps : List Placed) (l : Label) → Apart ps → Apart (placed_with size room ps l)
apart_with size room ps l h = by (first_free size room ps l) refl
  where
    by : (o : Option Shift) → first_free size room ps l ≡ o → Apart (option_map_or (λ s. ps ++ placed_by size l s ∷ []) o ps)
    by None e = h
    by (Some s) e =
        let free : is_free room ps (box_of size l s) ≡ true = find_passes (λ s. is_free room ps (box_of size l s)) l.shifts s e in
        let none : list_any (λ other. overlaps (box_of size l s) other.space) ps ≡ false = last_not (lies_within (box_of size l s) room.page) (option_map_or (overlaps (box_of size l s)) room.kept false) _ free in
        all_pairs_push (λ a b. overlaps b.space a.space ≡ false) ps (placed_by size l s) h (none_passes (λ other. overlaps (box_of size l s) other.space) ps none)

apart_all : (size : ℕ) (room : Room) (ls : List Label) (ps : List Placed) → Apart ps → Apart (fold (placed_with size room) ps ls)
apart_all size room [] ps h = h
apart_all size room (l ∷ ls) ps h = apart_all size room ls (placed_with size room ps l) (apart_with size room ps l h)

-- ---- each is beside its item
beside_with : (size : ℕ) (room : Room) (labels : List Label) (ps : List Placed) (l : Label) → Contains labels l → All (IsBeside size labels) ps
    → All (IsBeside size labels) (placed_with size room ps l)
beside_with size room labels ps l among h = by (first_free size room ps l) refl
  where
    by : (o : Option Shift) → first_free size room ps l ≡ o → All (IsBeside size labels) (option_map_or (λ s. ps ++ placed_by size l s ∷ []) o ps)
    by None e = h
    by (Some s) e =
        All-push (IsBeside size labels) ps (placed_by size l s) h
        (l, among, find_contains (λ s. is_free room ps (box_of size l s)) l.shifts s e, refl)

beside_all : (size : ℕ) (room : Room) (labels ls : List Label) (ps : List Placed) → ((l : Label) → Contains ls l → Contains labels l) → All (IsBeside size labels) ps
    → All (IsBeside size labels) (fold (placed_with size room) ps ls)
beside_all size room labels [] ps among h = h
beside_all size room labels (l ∷ ls) ps among h =
    beside_all size room labels ls (placed_with size room ps l) (λ x c. among x (suc c.0, omega (arith, c.1), c.2))
    (beside_with size room labels ps l (among l (0, omega arith, refl)) h)

-- ---- no more than are wanted
few_with : (size : ℕ) (room : Room) (ps : List Placed) (l : Label) → length (placed_with size room ps l) ≤ length ps + 1
few_with size room ps l = by (first_free size room ps l)
  where
    by : (o : Option Shift) → length (option_map_or (λ s. ps ++ placed_by size l s ∷ []) o ps) ≤ length ps + 1
    by None = omega arith
    by (Some s) = omega (arith, length-append ps (placed_by size l s ∷ []))

few_all : (size : ℕ) (room : Room) (ls : List Label) (ps : List Placed) → length (fold (placed_with size room) ps ls) ≤ length ps + length ls
few_all size room [] ps = omega arith
few_all size room (l ∷ ls) ps = omega (arith, few_all size room ls (placed_with size room ps l), few_with size room ps l)

-- ---- each is wholly on the page
abbrev pub Seen : NumberBox → List Placed → Type 0
Seen page ps = All (λ p. lies_within p.space page ≡ true) ps

first_of : (a b c : Bool) → (a && not b && not c) ≡ true → a ≡ true
first_of true b c e = refl
first_of false true true e = absurd cc
first_of false true false e = absurd cc
first_of false false true e = absurd cc
first_of false false false e = absurd cc

seen_with : (size : ℕ) (room : Room) (ps : List Placed) (l : Label) → Seen room.page ps → Seen room.page (placed_with size room ps l)
seen_with size room ps l h = by (first_free size room ps l) refl
  where
    by : (o : Option Shift) → first_free size room ps l ≡ o → Seen room.page (option_map_or (λ s. ps ++ placed_by size l s ∷ []) o ps)
    by None e = h
    by (Some s) e =
        let free : is_free room ps (box_of size l s) ≡ true = find_passes (λ s. is_free room ps (box_of size l s)) l.shifts s e in
        let seen : lies_within (box_of size l s) room.page ≡ true = first_of _ (option_map_or (overlaps (box_of size l s)) room.kept false) (list_any (λ other. overlaps (box_of size l s) other.space) ps) free in
        All-push (λ p. lies_within p.space room.page ≡ true) ps (placed_by size l s) h seen

seen_all : (size : ℕ) (room : Room) (ls : List Label) (ps : List Placed) → Seen room.page ps → Seen room.page (fold (placed_with size room) ps ls)
seen_all size room [] ps h = h
seen_all size room (l ∷ ls) ps h = seen_all size room ls (placed_with size room ps l) (seen_with size room ps l h)

-- ---- the same of a whole page
either_of : {X : Type 0} (P : X → Type 0) (b : Bool) (x y : X) → P x → P y → P (if b then x else y)
either_of P true x y p q = p
either_of P false x y p q = q

abbrev room_of : View → Option NumberBox → Room
room_of v kept = record { page = page_box v; kept = kept }

of_page : (P : List Placed → Type 0) (m : Tables) (v : View) → ((kept : Option NumberBox) → P (place_all (number_size m v) (room_of v kept) (all_labels m v))) → P (placed_numbers m v)
of_page P m v all =
    either_of P (length (place_all (number_size m v) (room_of v None) (all_labels m v)) == length (all_labels m v)) _ _ (all None) (all (Some (note_box v)))

pub page_apart : (m : Tables) (v : View) → AllPairs (λ a b. overlaps b.space a.space ≡ false) (placed_numbers m v)
page_apart m v =
    of_page Apart m v (λ kept. apart_all (number_size m v) (room_of v kept) (all_labels m v) [] (λ i j d lt within. absurd (omega arith)))

pub page_seen : (m : Tables) (v : View) → All (λ p. lies_within p.space (page_box v) ≡ true) (placed_numbers m v)
page_seen m v =
    of_page (Seen (page_box v)) m v (λ kept. seen_all (number_size m v) (room_of v kept) (all_labels m v) [] (λ k d within. absurd (omega arith)))

pub page_beside : (m : Tables) (v : View) → All (IsBeside (number_size m v) (all_labels m v)) (placed_numbers m v)
page_beside m v =
    of_page (All (IsBeside (number_size m v) (all_labels m v))) m v
    (λ kept. beside_all (number_size m v) (room_of v kept) (all_labels m v) (all_labels m v) [] (λ l c. c) (λ k d within. absurd (omega arith)))

pub page_counted : (m : Tables) (v : View) → length (placed_numbers m v) + left_out m v ≡ length (all_labels m v)
page_counted m v =
    let few : length (placed_numbers m v) ≤ length (all_labels m v) =
    of_page (λ ps. length ps ≤ length (all_labels m v)) m v (λ kept. omega (arith, few_all (number_size m v) (room_of v kept) (all_labels m v) [])) in
    omega (arith, few)
