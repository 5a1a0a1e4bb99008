-- The bytes of a file after a write.
use Rattle.std.proofs.Common.{◌≡◌, inl, inr, ⊎_elim, ◌⊎◌, ◌<◌, ◌≤◌, ◌+◌, ◌-◌, ℕ, zero, suc, List, [], ◌∷◌, ◌++◌, length, get_or, refl, sym, ◌∙◌, ap, arith, length-append}
use Rattle.std.proofs.lemmas.List.{get_or_append_left, get_or-append-add, ext_get_or}
use Rattle.std.proofs.lemmas.Bool.{cases_lt}
use Rattle.store_disk.specs.Files.{HasAt, KeepsOutside, Torn, Written}

pub keeps_itself : (at n : ℕ) (file : List ℕ) → KeepsOutside at n file file
keeps_itself at n file = record { same = λ i lt out. refl; no_shorter = omega arith }

pub torn_itself : (at n : ℕ) (file : List ℕ) → Torn at n file file
torn_itself at n file = record { keeps = keeps_itself at n file; no_longer = omega arith; nothing = λ none. refl }

-- a successful write is a special case of a torn one
pub written_torn : (at : ℕ) (bytes old new : List ℕ) → Written at bytes old new → Torn at (length bytes) old new
written_torn at bytes old new written = record {
  keeps = written.keeps;
  no_longer = grind (arith, written.long, written.nothing);
  nothing = written.nothing;
}

-- a larger range
pub keeps_wider : (at n from m : ℕ) (old new : List ℕ) → from ≤ at → at + n ≤ from + m → KeepsOutside at n old new → KeepsOutside from m old new
keeps_wider at n from m old new low high keeps = record {
  same = λ i lt out. keeps.same i lt (⊎_elim (λ below. inl (omega (arith, below, low))) (λ above. inr (omega (arith, above, high))) out);
  no_shorter = keeps.no_shorter;
}

pub keeps_then : (at n : ℕ) (old mid new : List ℕ) → KeepsOutside at n old mid → KeepsOutside at n mid new → KeepsOutside at n old new
keeps_then at n old mid new first second = record {
  same = λ i lt out. second.same i (omega (arith, lt, first.no_shorter)) out ∙ first.same i lt out;
  no_shorter = omega (arith, first.no_shorter, second.no_shorter);
}

-- what is outside the range stays
pub has_kept : (at n place : ℕ) (bytes old new : List ℕ) → (place + length bytes ≤ at) ⊎ (at + n ≤ place) → KeepsOutside at n old new → HasAt place bytes old → HasAt place bytes new
has_kept at n place bytes old new apart keeps has = record {
  within = omega (arith, has.within, keeps.no_shorter);
  same = λ i lt. keeps.same (place + i) (omega (arith, has.within, lt)) (⊎_elim (λ below. inl (omega (arith, below, lt))) (λ above. inr (omega (arith, above))) apart) ∙ has.same i lt;
}

pub has_left : (place : ℕ) (xs ys file : List ℕ) → HasAt place (xs ++ ys) file → HasAt place xs file
has_left place xs ys file has = record {
  within = omega (arith, has.within, length-append xs ys);
  same = λ i lt. has.same i (omega (arith, lt, length-append xs ys)) ∙ get_or_append_left xs ys 0 i lt;
}

pub has_right : (place : ℕ) (xs ys file : List ℕ) → HasAt place (xs ++ ys) file → HasAt (place + length xs) ys file
has_right place xs ys file has = record {
  within = omega (arith, has.within, length-append xs ys);
  same = λ i lt.
      let there : place + length xs + i ≡ place + (length xs + i) = omega arith in
      ap (λ (k : ℕ). get_or file k 0) there ∙ has.same (length xs + i) (omega (arith, lt, length-append xs ys)) ∙ get_or-append-add xs ys i 0;
}

pub has_both : (place : ℕ) (xs ys file : List ℕ) → HasAt place xs file → HasAt (place + length xs) ys file → HasAt place (xs ++ ys) file
has_both place xs ys file front back = record {
  within = omega (arith, back.within, length-append xs ys);
  same = λ i lt. at_i i lt (cases_lt i (length xs));
}
  where
    at_i : (i : ℕ) → i < length (xs ++ ys) → (i < length xs) ⊎ (length xs ≤ i) → get_or file (place + i) 0 ≡ get_or (xs ++ ys) i 0
    at_i i lt (inl below) = front.same i below ∙ sym (get_or_append_left xs ys 0 i below)
    at_i i lt (inr above) =
        let j = i - length xs in
        let same : i ≡ length xs + j = omega (arith, above) in
        let there : place + i ≡ place + length xs + j = omega (arith, above) in
        ap (λ (k : ℕ). get_or file k 0) there ∙ back.same j (omega (arith, lt, above, length-append xs ys))
        ∙ sym (get_or-append-add xs ys j 0) ∙ ap (λ (k : ℕ). get_or (xs ++ ys) k 0) (sym same)

-- two lists of the same length at the same offset are equal
pub has_same : (place : ℕ) (xs ys file : List ℕ) → length xs ≡ length ys → HasAt place xs file → HasAt place ys file → xs ≡ ys
has_same place xs ys file same first second =
    ext_get_or 0 xs ys same (λ i lt. sym (first.same i lt) ∙ second.same i (omega (arith, lt, same)))

-- one byte
pub has_one : (place byte : ℕ) (file : List ℕ) → place < length file → get_or file place 0 ≡ byte → HasAt place (byte ∷ []) file
has_one place byte file within is = record { within = omega (arith, within); same = at_i }
  where
    at_i : (i : ℕ) → i < length (byte ∷ []) → get_or file (place + i) 0 ≡ get_or (byte ∷ []) i 0
    at_i zero lt = let there : place + 0 ≡ place = omega arith in ap (λ (k : ℕ). get_or file k 0) there ∙ is
    at_i (suc i) lt = absurd (omega (arith, lt))

pub one_has : (place byte : ℕ) (bytes file : List ℕ) → HasAt place (byte ∷ bytes) file → get_or file place 0 ≡ byte
one_has place byte bytes file has =
    let there : place ≡ place + 0 = omega arith in
    ap (λ (k : ℕ). get_or file k 0) there ∙ has.same 0 (omega arith)
