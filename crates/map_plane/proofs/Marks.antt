-- Marks of the lines that meet another one: line by line, part by part, and by number.
use Rattle.std.proofs.Common.{◌≡◌, ℕ, zero, suc, ◌+◌, ◌<◌, ◌≤◌, Bool, true, false, ◌&&◌, ◌||◌, ◌==◌, nat_eq, nat_lt, not, List, [], ◌∷◌, ◌++◌, length, get_or, filter, map, take, refl, sym, ap, subst, ◌∙◌, cond, ◌⊎◌, inl, inr, ⊎_elim, arith}
use Rattle.std.specs.Prelude.{Some, Option, pos, Result, Ok, Err, OnOk}
use Rattle.std.specs.List.{list_any, list_all, enumerate_from, slice_get}
use Rattle.std.specs.Option.{option_map_or}
use Rattle.std.proofs.lemmas.Bool.Decides.{nat_tests}
use Rattle.std.proofs.lemmas.Bool.{false≢true}
use Rattle.std.proofs.lemmas.List.{get_or_default, get_or_past}
use Rattle.lump_records.specs.declared.records.Line.{Line}
use Rattle.map_tables.specs.Tables.{Tables}
use Rattle.map_plane.specs.declared.places.PlacedLine.{PlacedLine}
use Rattle.map_plane.specs.Crossed.{goes_left, goes_right, meets_within, MarksMeeting, MarksSome, SetsMark}
use Rattle.map_plane.specs.Meeting.{meets, meets_another}
use Rattle.map_plane.specs.Places.{placed, placed_lines}
use Rattle.map_plane.proofs.Apart.{together}
use Rattle.map_plane.proofs.Tests.{and_both, or_either, or_left, or_right, both}

-- ---- tests

same_test : (a b : Bool) → (a ≡ true → b ≡ true) → (b ≡ true → a ≡ true) → a ≡ b
same_test true b f g = sym (f refl)
same_test false true f g = g refl
same_test false false f g = refl

or_false : (b : Bool) → (b || false) ≡ b
or_false true = refl
or_false false = refl

number_same : (a b : ℕ) → (a == b) ≡ true → a ≡ b
number_same a b h = grind (arith, nat_tests, h)

-- ---- items of a list

module _ {X : Type 0} where
  -- an item of the list
  pub record IsAmong (x : X) (xs : List X) : Type 0 where
    pub any : (t : X → Bool) → t x ≡ true → list_any t xs ≡ true
    pub all : (t : X → Bool) → list_all t xs ≡ true → t x ≡ true

  -- an item that passes a test
  record Passes (test : X → Bool) (xs : List X) : Type 0 where
    x : X
    passes : test x ≡ true
    among : IsAmong x xs

  first_among : (x : X) (xs : List X) → IsAmong x (x ∷ xs)
  first_among x xs = record { any = λ t p. or_left (t x) (list_any t xs) p; all = λ t p. (and_both (t x) (list_all t xs) p).0 }

  later_among : (x y : X) (xs : List X) → IsAmong y xs → IsAmong y (x ∷ xs)
  later_among x y xs a = record {
    any = λ t p. or_right (t x) (list_any t xs) (a.any t p);
    all = λ t p. a.all t (and_both (t x) (list_all t xs) p).1;
  }

  passing : (test : X → Bool) (xs : List X) → list_any test xs ≡ true → Passes test xs
  passing test [] h = cc
  passing test (x ∷ xs) h =
      ⊎_elim
      (λ (a : test x ≡ true). record { x = x; passes = a; among = first_among x xs })
      (λ (b : list_any test xs ≡ true). let r = passing test xs b in record { x = r.x; passes = r.passes; among = later_among x r.x xs r.among })
      (or_either (test x) (list_any test xs) h)

  -- those that pass a test stay
  kept_among : (keeps : X → Bool) (xs : List X) (x : X) → IsAmong x xs → keeps x ≡ true → (t : X → Bool) → t x ≡ true → list_any t (filter keeps xs) ≡ true
  kept_among keeps xs x a k t p = filtered xs (a.any (λ y. keeps y && t y) (both (keeps x) (t x) k p))
    where
      one : (b : Bool) (y : X) (ys : List X) → ((b && t y) || list_any t ys) ≡ list_any t (cond b (y ∷ ys) ys)
      one true y ys = refl
      one false y ys = refl

      same : (ys : List X) → list_any (λ y. keeps y && t y) ys ≡ list_any t (filter keeps ys)
      same [] = refl
      same (y ∷ ys) = ap (λ b. (keeps y && t y) || b) (same ys) ∙ one (keeps y) y (filter keeps ys)

      filtered : (ys : List X) → list_any (λ y. keeps y && t y) ys ≡ true → list_any t (filter keeps ys) ≡ true
      filtered ys h = sym (same ys) ∙ h

  any_kept : (keeps t : X → Bool) (xs : List X) → list_any t (filter keeps xs) ≡ true → list_any t xs ≡ true
  any_kept keeps t [] h = h
  any_kept keeps t (x ∷ xs) h = one (keeps x) (any_kept keeps t xs) h
    where
      one : (b : Bool) → (list_any t (filter keeps xs) ≡ true → list_any t xs ≡ true)
          → list_any t (cond b (x ∷ filter keeps xs) (filter keeps xs)) ≡ true → (t x || list_any t xs) ≡ true
      one true later g =
          ⊎_elim
          (λ (a : t x ≡ true). or_left (t x) (list_any t xs) a)
          (λ (b : list_any t (filter keeps xs) ≡ true). or_right (t x) (list_any t xs) (later b))
          (or_either (t x) (list_any t (filter keeps xs)) g)
      one false later g = or_right (t x) (list_any t xs) (later g)

-- ---- lines that meet

-- a line of these with the number, and a line of these that it meets
meet_of : (ls : List PlacedLine) (n : ℕ) → meets_within ls n ≡ true → Passes (λ l. (l.number == n) && list_any (meets l) ls) ls
meet_of ls n h = passing (λ l. (l.number == n) && list_any (meets l) ls) ls h

-- those of a part meet as before
within_part : (keeps : PlacedLine → Bool) (ls : List PlacedLine) (n : ℕ) → meets_within (filter keeps ls) n ≡ true → meets_within ls n ≡ true
within_part keeps ls n h =
    let r = meet_of (filter keeps ls) n h in
    let two = and_both (r.x.number == n) (list_any (meets r.x) (filter keeps ls)) r.passes in
    any_kept keeps (λ l. (l.number == n) && list_any (meets l) ls) ls
    (r.among.any (λ l. (l.number == n) && list_any (meets l) ls)
    (both (r.x.number == n) (list_any (meets r.x) ls) two.0 (any_kept keeps (meets r.x) ls two.1)))

part_has : (keeps : PlacedLine → Bool) (ls : List PlacedLine) (n : ℕ) (l k : PlacedLine) → IsAmong l ls → IsAmong k ls → (l.number == n) ≡ true
    → meets l k ≡ true → (keeps l ≡ true) × (keeps k ≡ true) → meets_within (filter keeps ls) n ≡ true
part_has keeps ls n l k la ka is m two =
    kept_among keeps ls l la two.0 (λ j. (j.number == n) && list_any (meets j) (filter keeps ls))
    (both (l.number == n) (list_any (meets l) (filter keeps ls)) is (kept_among keeps ls k ka two.1 (meets l) m))

parted : (d : PlacedLine) (ls : List PlacedLine) (n : ℕ)
    → meets_within ls n ≡ (meets_within (filter (goes_right d) ls) n || meets_within (filter (goes_left d) ls) n)
parted d ls n =
    same_test (meets_within ls n) (meets_within (filter (goes_right d) ls) n || meets_within (filter (goes_left d) ls) n)
    (λ h.
    let l = meet_of ls n h in
    let two = and_both (l.x.number == n) (list_any (meets l.x) ls) l.passes in
    let k = passing (meets l.x) ls two.1 in
    ⊎_elim
    (λ (r : (goes_right d l.x ≡ true) × (goes_right d k.x ≡ true)). or_left (meets_within (filter (goes_right d) ls) n) (meets_within (filter (goes_left d) ls) n)
    (part_has (goes_right d) ls n l.x k.x l.among k.among two.0 k.passes r))
    (λ (r : (goes_left d l.x ≡ true) × (goes_left d k.x ≡ true)). or_right (meets_within (filter (goes_right d) ls) n) (meets_within (filter (goes_left d) ls) n)
    (part_has (goes_left d) ls n l.x k.x l.among k.among two.0 k.passes r))
    (together d l.x k.x k.passes))
    (λ h. ⊎_elim
    (λ (r : meets_within (filter (goes_right d) ls) n ≡ true). within_part (goes_right d) ls n r)
    (λ (r : meets_within (filter (goes_left d) ls) n ≡ true). within_part (goes_left d) ls n r)
    (or_either (meets_within (filter (goes_right d) ls) n) (meets_within (filter (goes_left d) ls) n) h))

-- ---- marks

three : (a b c : Bool) → ((a || b) || c) ≡ (a || (b || c))
three true b c = refl
three false b c = refl

-- the marks of both parts are those of all
pub parts_marked : (d : PlacedLine) (ls : List PlacedLine) (old mid new : List Bool)
    → MarksMeeting (filter (goes_right d) ls) old mid → MarksMeeting (filter (goes_left d) ls) mid new → MarksMeeting ls old new
parts_marked d ls old mid new r f = record {
  count = f.count ∙ r.count;
  each = λ n h.
      f.each n (omega (arith, h, r.count))
      ∙ ap (λ b. b || meets_within (filter (goes_left d) ls) n) (r.each n h)
      ∙ three (get_or old n false) (meets_within (filter (goes_right d) ls) n) (meets_within (filter (goes_left d) ls) n)
      ∙ ap (λ b. get_or old n false || b) (sym (parted d ls n));
}

-- some marks may have been set before
pub some_before : (ls : List PlacedLine) (old mid new : List Bool) → MarksSome ls old mid → MarksMeeting ls mid new → MarksMeeting ls old new
some_before ls old mid new s f = record {
  count = f.count ∙ s.count;
  each = λ n h. f.each n (omega (arith, h, s.count)) ∙ same_test (get_or mid n false || meets_within ls n) (get_or old n false || meets_within ls n)
      (λ e. ⊎_elim
      (λ (a : get_or mid n false ≡ true). s.only n h a)
      (λ (b : meets_within ls n ≡ true). or_right (get_or old n false) (meets_within ls n) b)
      (or_either (get_or mid n false) (meets_within ls n) e))
      (λ e. ⊎_elim
      (λ (a : get_or old n false ≡ true). or_left (get_or mid n false) (meets_within ls n) (s.kept n a))
      (λ (b : meets_within ls n ≡ true). or_right (get_or mid n false) (meets_within ls n) b)
      (or_either (get_or old n false) (meets_within ls n) e));
}

-- where each line has a mark, all is done
pub all_marked : (ls : List PlacedLine) (marks : List Bool) → list_all (λ l. get_or marks l.number true) ls ≡ true → MarksMeeting ls marks marks
all_marked ls marks all = record {
  count = refl;
  each = λ n h. same_test (get_or marks n false) (get_or marks n false || meets_within ls n)
      (λ a. or_left (get_or marks n false) (meets_within ls n) a)
      (λ e. ⊎_elim
      (λ (a : get_or marks n false ≡ true). a)
      (λ (b : meets_within ls n ≡ true).
      let l = meet_of ls n b in
      let is = number_same l.x.number n (and_both (l.x.number == n) (list_any (meets l.x) ls) l.passes).0 in
      get_or_default marks n false true h ∙ ap (λ k. get_or marks k true) (sym is) ∙ l.among.all (λ k. get_or marks k.number true) all)
      (or_either (get_or marks n false) (meets_within ls n) e));
}

-- ---- line by line

-- the marks after the first lines
pub record MarksFirst (ls : List PlacedLine) (i : ℕ) (old new : List Bool) : Type 0 where
  pub count : length new ≡ length old
  pub each : (n : ℕ) → n < length old
      → get_or new n false ≡ (get_or old n false || list_any (λ l. (l.number == n) && list_any (meets l) ls) (take i ls))

any_more : {X : Type 0} (t : X → Bool) (xs : List X) (i : ℕ) (x : X) → slice_get xs i ≡ Some x → list_any t (take (suc i) xs) ≡ (list_any t (take i xs) || t x)
any_more t [] i x h = cc
any_more {X = X} t (y ∷ xs) zero x h = one (t y) (t x) (ap (λ (o : Option X). option_map_or t o false) h)
  where
    one : (a b : Bool) → a ≡ b → (a || false) ≡ (false || b)
    one true b e = e
    one false b e = e
any_more t (y ∷ xs) (suc i) x h = ap (λ b. t y || b) (any_more t xs i x h) ∙ sym (three (t y) (list_any t (take i xs)) (t x))

pub none_first : (ls : List PlacedLine) (old : List Bool) → MarksFirst ls 0 old old
none_first ls old = record { count = refl; each = λ n h. sym (or_false (get_or old n false)) }

pub all_first : (ls : List PlacedLine) (i : ℕ) (old new : List Bool) → take i ls ≡ ls → MarksFirst ls i old new → MarksMeeting ls old new
all_first ls i old new e m = record {
  count = m.count;
  each = λ n h. m.each n h ∙ ap (λ xs. get_or old n false || list_any (λ l. (l.number == n) && list_any (meets l) ls) xs) e;
}

-- a line that neither meets one nor lacks a mark
line_passed : (ls : List PlacedLine) (i : ℕ) (l : PlacedLine) (old new : List Bool) → slice_get ls i ≡ Some l
    → ((n : ℕ) → n < length old → (l.number == n) ≡ true → list_any (meets l) ls ≡ true → get_or new n false ≡ true)
    → MarksFirst ls i old new → MarksFirst ls (suc i) old new
line_passed ls i l old new at has m = record {
  count = m.count;
  each = λ n h. m.each n h ∙ same_test (get_or old n false || list_any (test n) (take i ls)) (get_or old n false || list_any (test n) (take (suc i) ls))
      (λ e. ⊎_elim
      (λ (a : get_or old n false ≡ true). or_left (get_or old n false) (list_any (test n) (take (suc i) ls)) a)
      (λ (b : list_any (test n) (take i ls) ≡ true). or_right (get_or old n false) (list_any (test n) (take (suc i) ls))
      (any_more (test n) ls i l at ∙ or_left (list_any (test n) (take i ls)) (test n l) b))
      (or_either (get_or old n false) (list_any (test n) (take i ls)) e))
      (λ e. ⊎_elim
      (λ (a : get_or old n false ≡ true). or_left (get_or old n false) (list_any (test n) (take i ls)) a)
      (λ (b : list_any (test n) (take (suc i) ls) ≡ true). ⊎_elim
      (λ (c : list_any (test n) (take i ls) ≡ true). or_right (get_or old n false) (list_any (test n) (take i ls)) c)
      (λ (c : test n l ≡ true). sym (m.each n h) ∙ has n h (and_both (l.number == n) (list_any (meets l) ls) c).0 (and_both (l.number == n) (list_any (meets l) ls) c).1)
      (or_either (list_any (test n) (take i ls)) (test n l) (sym (any_more (test n) ls i l at) ∙ b)))
      (or_either (get_or old n false) (list_any (test n) (take (suc i) ls)) e));
}
  where
    test : ℕ → PlacedLine → Bool
    test n k = (k.number == n) && list_any (meets k) ls

-- a line that meets none
pub line_alone : (ls : List PlacedLine) (i : ℕ) (l : PlacedLine) (old new : List Bool) → slice_get ls i ≡ Some l
    → list_any (meets l) ls ≡ false → MarksFirst ls i old new → MarksFirst ls (suc i) old new
line_alone ls i l old new at none m = line_passed ls i l old new at (λ n h e b. absurd (false≢true (sym none ∙ b))) m

-- a line that has a mark
pub line_left : (ls : List PlacedLine) (i : ℕ) (l : PlacedLine) (old new : List Bool) → slice_get ls i ≡ Some l
    → get_or new l.number true ≡ true → MarksFirst ls i old new → MarksFirst ls (suc i) old new
line_left ls i l old new at has m =
    line_passed ls i l old new at
    (λ n h e b. get_or_default new n false true (omega (arith, h, m.count)) ∙ ap (λ k. get_or new k true) (sym (number_same l.number n e)) ∙ has) m

-- what stands for a line that isn't there
abbrev pub no_line : PlacedLine
no_line = record { number = 0; from = record { x = pos 0; y = pos 0 }; to = record { x = pos 0; y = pos 0 }; is_wall = false }

-- a line that meets one
pub line_marked : (ls : List PlacedLine) (i : ℕ) (l : PlacedLine) (old mid new : List Bool) → slice_get ls i ≡ Some l → list_any (meets l) ls ≡ true
    → MarksFirst ls i old mid → SetsMark l.number mid new → MarksFirst ls (suc i) old new
line_marked ls i l old mid new at is m s = record {
  count = s.count ∙ m.count;
  each = λ n h.
      s.each n (omega (arith, h, m.count))
      ∙ ap (λ b. b || (l.number == n)) (m.each n h)
      ∙ three (get_or old n false) (list_any (test n) (take i ls)) (l.number == n)
      ∙ ap (λ b. get_or old n false || b) (ap (λ b. list_any (test n) (take i ls) || b) (sym (and_is (l.number == n) (list_any (meets l) ls) is)) ∙ sym (any_more (test n) ls i l at));
}
  where
    test : ℕ → PlacedLine → Bool
    test n k = (k.number == n) && list_any (meets k) ls

    and_is : (a b : Bool) → b ≡ true → (a && b) ≡ a
    and_is true b e = e
    and_is false b e = refl

-- ---- by number

pub by_number : (m : Tables) (n : ℕ) → meets_within (placed_lines m) n ≡ meets_another (placed_lines m) n
by_number m n = ap (λ i. list_any (λ l. (l.number == i) && list_any (meets l) (placed_lines m)) (placed_lines m)) (omega arith) ∙ numbered (λ l. list_any (meets l) (placed_lines m)) m.lines 0 n
  where
    none_behind : (q : PlacedLine → Bool) (xs : List Line) (k n : ℕ) → n < k → list_any (λ l. (l.number == n) && q l) (map (placed m) (enumerate_from k xs)) ≡ false
    none_behind q [] k n h = refl
    none_behind q (x ∷ xs) k n h =
        let e : (k == n) ≡ false = grind (arith, nat_tests, h) in
        ap (λ b. (b && q (placed m (k, x))) || list_any (λ l. (l.number == n) && q l) (map (placed m) (enumerate_from (k + 1) xs))) e
        ∙ none_behind q xs (k + 1) n (omega (arith, h))

    numbered : (q : PlacedLine → Bool) (xs : List Line) (k n : ℕ)
        → list_any (λ l. (l.number == (k + n)) && q l) (map (placed m) (enumerate_from k xs)) ≡ option_map_or q (slice_get (map (placed m) (enumerate_from k xs)) n) false
    numbered q [] k n = refl
    numbered q (x ∷ xs) k zero =
        let e : (k == (k + 0)) ≡ true = grind (arith, nat_tests) in
        ap (λ b. (b && q (placed m (k, x))) || list_any (λ l. (l.number == (k + 0)) && q l) (map (placed m) (enumerate_from (k + 1) xs))) e
        ∙ ap (λ b. q (placed m (k, x)) || b) (none_behind q xs (k + 1) (k + 0) (omega arith))
        ∙ or_false (q (placed m (k, x)))
    numbered q (x ∷ xs) k (suc n) =
        let e : (k == (k + suc n)) ≡ false = grind (arith, nat_tests) in
        ap (λ b. (b && q (placed m (k, x))) || list_any (λ l. (l.number == (k + suc n)) && q l) (map (placed m) (enumerate_from (k + 1) xs))) e
        ∙ ap (λ i. list_any (λ l. (l.number == i) && q l) (map (placed m) (enumerate_from (k + 1) xs))) (omega arith)
        ∙ numbered q xs (k + 1) n

-- ---- what a call says where it ends well

pub on_ok : {T E P Q : Type 0} (r : Result T E) → (P → Q) → OnOk r P → OnOk r Q
on_ok (Ok x) f h = f h
on_ok (Err e) f h = h
