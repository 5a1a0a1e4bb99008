-- The names of frames, each in front of those behind it.
use Rattle.std.proofs.Common.{◌≡◌, ℕ, ◌+◌, ◌<◌, ◌≤◌, Bool, true, false, cond, List, [], ◌∷◌, ◌++◌, length, get_or, take, refl, ap, sym, ◌∙◌, arith, Option, Some, None}
use Rattle.std.proofs.lemmas.List.{take_more, take_all}
use Rattle.std.specs.Prelude.{bytes_eq, suc, is_some}
use Rattle.map_script.specs.Frames.{known_in, layer_of, layers_in_front}
use Rattle.map_script.specs.Layers.{Layer, layered}
use Rattle.map_script.specs.Meant.{Meant, meant_by, with_meaning}
use Rattle.map_script.specs.declared.frame.Frame.{Frame}

-- ---- Names in front of others

-- the second if there is no first
abbrev pub or_else : Option Meant → Option Meant → Option Meant
or_else (Some m) other = Some m
or_else None other = other

-- what a name stands for in the names in front, or else in the others
pub meant_front : (xs ys : List (List ℕ × Meant)) (name : List ℕ) → meant_by (xs ++ ys) name ≡ or_else (meant_by xs name) (meant_by ys name)
meant_front [] ys name = refl
meant_front (x ∷ xs) ys name = by (bytes_eq name x.0) (meant_front xs ys name)
  where
    by : (t : Bool) → meant_by (xs ++ ys) name ≡ or_else (meant_by xs name) (meant_by ys name)
        → cond t (Some x.1) (meant_by (xs ++ ys) name) ≡ or_else (cond t (Some x.1) (meant_by xs name)) (meant_by ys name)
    by true e = refl
    by false e = e

-- a name that is in front now stands for something else
pub given_front : (xs ys : List (List ℕ × Meant)) (name : List ℕ) (m : Meant) → is_some (meant_by xs name) ≡ true
    → with_meaning (xs ++ ys) name m ≡ with_meaning xs name m ++ ys
given_front [] ys name m e = cc
given_front (x ∷ xs) ys name m e = by (bytes_eq name x.0) (λ rest. given_front xs ys name m rest) e
  where
    by : (t : Bool) → (is_some (meant_by xs name) ≡ true → with_meaning (xs ++ ys) name m ≡ with_meaning xs name m ++ ys)
        → is_some (cond t (Some x.1) (meant_by xs name)) ≡ true
        → cond t ((x.0, m) ∷ (xs ++ ys)) (x ∷ with_meaning (xs ++ ys) name m) ≡ cond t ((x.0, m) ∷ xs) (x ∷ with_meaning xs name m) ++ ys
    by true rest e = refl
    by false rest e = ap (λ zs. x ∷ zs) (rest e)

-- there are as many names as before
pub given_long : (xs : List (List ℕ × Meant)) (name : List ℕ) (m : Meant) → is_some (meant_by xs name) ≡ true → length (with_meaning xs name m) ≡ length xs
given_long [] name m e = cc
given_long (x ∷ xs) name m e = by (bytes_eq name x.0) (λ rest. given_long xs name m rest) e
  where
    by : (t : Bool) → (is_some (meant_by xs name) ≡ true → length (with_meaning xs name m) ≡ length xs)
        → is_some (cond t (Some x.1) (meant_by xs name)) ≡ true → length (cond t ((x.0, m) ∷ xs) (x ∷ with_meaning xs name m)) ≡ suc (length xs)
    by true rest e = refl
    by false rest e = ap suc (rest e)

-- a name that isn't in front is one of the others
pub given_behind : (xs ys : List (List ℕ × Meant)) (name : List ℕ) (m : Meant) → meant_by xs name ≡ None → with_meaning (xs ++ ys) name m ≡ xs ++ with_meaning ys name m
given_behind [] ys name m e = refl
given_behind (x ∷ xs) ys name m e = by (bytes_eq name x.0) (λ rest. given_behind xs ys name m rest) e
  where
    by : (t : Bool) → (meant_by xs name ≡ None → with_meaning (xs ++ ys) name m ≡ xs ++ with_meaning ys name m)
        → cond t (Some x.1) (meant_by xs name) ≡ None
        → cond t ((x.0, m) ∷ (xs ++ ys)) (x ∷ with_meaning (xs ++ ys) name m) ≡ x ∷ (xs ++ with_meaning ys name m)
    by true rest e = cc
    by false rest e = ap (λ zs. x ∷ zs) (rest e)

-- names and how many of them are held
pub layer_is : (names news : List (List ℕ × Meant)) (n m : ℕ) → names ≡ news → n ≡ m
    → ◌≡◌ {A = Layer} (record { names = names; held = n }) (record { names = news; held = m })
layer_is names news n m is same = λ i. record { names = is i; held = same i }

-- ---- Frames

-- one frame more
pub frames_more : (fs : List Frame) (f : Frame) (others : List Layer) → layers_in_front (fs ++ f ∷ []) others ≡ layer_of f ∷ layers_in_front fs others
frames_more [] f others = refl
frames_more (g ∷ fs) f others = frames_more fs f (layer_of g ∷ others)

-- as many layers as frames
pub frames_long : (fs : List Frame) (others : List Layer) → length (layers_in_front fs others) ≡ length fs + length others
frames_long [] others = omega arith
frames_long (f ∷ fs) others =
    let one = frames_long fs (layer_of f ∷ others) in
    omega (arith, one)

-- what a name stands for with one frame more
pub found_more : (fs : List Frame) (i : ℕ) (f : Frame) (name : List ℕ) → f ≡ get_or fs i f → i < length fs
    → meant_by (layered (layers_in_front (take (i + 1) fs) [])) name
    ≡ or_else (meant_by (known_in f) name) (meant_by (layered (layers_in_front (take i fs) [])) name)
found_more fs i f name is below =
    ap (λ gs. meant_by (layered (layers_in_front gs [])) name) (take_more fs i f below ∙ ap (λ g. take i fs ++ g ∷ []) (sym is))
    ∙ ap (λ ls. meant_by (layered ls) name) (frames_more (take i fs) f [])
    ∙ meant_front (known_in f) (layered (layers_in_front (take i fs) [])) name

pub found_all : (fs : List Frame) (i : ℕ) (name : List ℕ) → length fs ≤ i
    → meant_by (layered (layers_in_front (take i fs) [])) name ≡ meant_by (layered (layers_in_front fs [])) name
found_all fs i name all = ap (λ gs. meant_by (layered (layers_in_front gs [])) name) (take_all i fs all)
