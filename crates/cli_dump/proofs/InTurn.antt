-- Lines of items, of one behind another.
use Rattle.std.proofs.Common.{◌≡◌, ◌∙◌, ◌+◌, ◌<◌, ℕ, List, [], ◌∷◌, ◌++◌, Option, Bool, true, false, cond, length, get_or, map, take, drop, refl, sym, ap, subst, append_assoc, append-nil}
use Rattle.std.specs.Prelude.{flat_map, filter, not, ◌&&◌, ◌||◌}
use Rattle.std.specs.List.{list_any}
use Rattle.std.specs.Io.KnownBytes.{Appends}
use Rattle.std.proofs.KnownBytes.{Appends-nil, Appends-trans}
use Rattle.std.proofs.lemmas.Grind.{flat_map-append}
use Rattle.std.proofs.lemmas.List.{take-append-drop, take_more}
use Rattle.std.proofs.lemmas.List.Folds.{list_any-append}
use Rattle.map_dump.specs.Texts.{WritesFront, text_of, with_lf}

-- ---- lines that are known

pub flat_map-more : {X : Type 0} (f : X → List (List ℕ)) (xs : List X) (n : ℕ) (d : X) → n < length xs → flat_map f (take (n + 1) xs) ≡ flat_map f (take n xs) ++ f (get_or xs n d)
flat_map-more f xs n d within =
    ap (flat_map f) (take_more xs n d within) ∙ flat_map-append f (take n xs) (get_or xs n d ∷ []) ∙ ap (λ (t : List (List ℕ)). flat_map f (take n xs) ++ t) (append-nil (f (get_or xs n d)))

-- the lines of one item more were written
pub lines_more : {X : Type 0} (f : X → List (List ℕ)) (xs : List X) (n : ℕ) (d : X) (u v w : Option (List ℕ)) → n < length xs → Appends u v (text_of (flat_map f (take n xs)))
    → Appends v w (text_of (f (get_or xs n d))) → Appends u w (text_of (flat_map f (take (n + 1) xs)))
lines_more f xs n d u v w within said more =
    let done = flat_map f (take n xs) in
    let one = f (get_or xs n d) in
    subst (λ (t : List ℕ). Appends u w t) (sym (ap text_of (flat_map-more f xs n d within) ∙ flat_map-append with_lf done one)) (Appends-trans u v w (text_of done) (text_of one) said more)

-- some lines of one item more were written
pub lines_stopped_at : {X : Type 0} (f : X → List (List ℕ)) (xs : List X) (n : ℕ) (d : X) (u v w : Option (List ℕ)) → n < length xs → Appends u v (text_of (flat_map f (take n xs)))
    → WritesFront (f (get_or xs n d)) v w → WritesFront (flat_map f xs) u w
lines_stopped_at f xs n d u v w within said some =
    let done = flat_map f (take n xs) in
    let rest = flat_map f (drop (n + 1) xs) in
    let here : flat_map f (take (n + 1) xs) ≡ done ++ (some.front ++ some.back) =
    flat_map-more f xs n d within ∙ ap (λ (lines : List (List ℕ)). done ++ lines) some.parted in
    record {
      front = done ++ some.front;
      back = some.back ++ rest;
      parted =
          ap (flat_map f) (sym (take-append-drop (n + 1) xs)) ∙ flat_map-append f (take (n + 1) xs) (drop (n + 1) xs)
          ∙ ap (λ (lines : List (List ℕ)). lines ++ rest) (here ∙ sym (append_assoc done some.front some.back))
          ∙ append_assoc (done ++ some.front) some.back rest;
      written =
          subst (λ (t : List ℕ). Appends u w t) (sym (flat_map-append with_lf done some.front)) (Appends-trans u v w (text_of done) (text_of some.front) said some.written);
    }

-- no line was written before one that found no memory
pub none_of : (lines : List (List ℕ)) (u : Option (List ℕ)) → WritesFront lines u u
none_of lines u = record { front = []; back = lines; parted = refl; written = Appends-nil u }

-- ---- items that are passed over

kept_by : {X Y : Type 0} (g : X → Y) (h : Y → List (List ℕ)) (x : X) (xs : List X) (b : Bool)
    → flat_map h (map g (cond (not b) (x ∷ xs) xs)) ≡ cond b [] (h (g x)) ++ flat_map h (map g xs)
kept_by g h x xs true = refl
kept_by g h x xs false = refl

-- the lines of the items that don't pass a test
pub lines_kept : {X Y : Type 0} (g : X → Y) (h : Y → List (List ℕ)) (p : X → Bool) (xs : List X)
    → flat_map (λ (x : X). cond (p x) [] (h (g x))) xs ≡ flat_map h (map g (filter (λ (x : X). not (p x)) xs))
lines_kept g h p [] = refl
lines_kept g h p (x ∷ xs) =
    ap (λ (t : List (List ℕ)). cond (p x) [] (h (g x)) ++ t) (lines_kept g h p xs) ∙ sym (kept_by g h x (filter (λ (y : _). not (p y)) xs) (p x))

taken_by : {X : Type 0} (h : X → List (List ℕ)) (x : X) (xs : List X) (b : Bool) → flat_map h (cond b (x ∷ xs) xs) ≡ cond b (h x) [] ++ flat_map h xs
taken_by h x xs true = refl
taken_by h x xs false = refl

-- the lines of the items that pass a test
pub lines_taken : {X : Type 0} (h : X → List (List ℕ)) (p : X → Bool) (xs : List X) → flat_map (λ (x : X). cond (p x) (h x) []) xs ≡ flat_map h (filter p xs)
lines_taken h p [] = refl
lines_taken h p (x ∷ xs) = ap (λ (t : List (List ℕ)). cond (p x) (h x) [] ++ t) (lines_taken h p xs) ∙ sym (taken_by h x (filter p xs) (p x))

none_more : (a b : Bool) → not (a || (b || false)) ≡ not a && not b
none_more true b = refl
none_more false true = refl
none_more false false = refl

-- no item so far passes a test, with one more
pub no_more : {X : Type 0} (p : X → Bool) (xs : List X) (n : ℕ) (d : X) (all one : Bool) → n < length xs → all ≡ not (list_any p (take n xs)) → one ≡ not (p (get_or xs n d))
    → all && one ≡ not (list_any p (take (n + 1) xs))
no_more p xs n d all one within is here =
    (λ i. is i && here i) ∙ sym (none_more (list_any p (take n xs)) (p (get_or xs n d)))
    ∙ sym (ap (λ (b : Bool). not b) (ap (list_any p) (take_more xs n d within) ∙ list_any-append p (take n xs) (get_or xs n d ∷ [])))
