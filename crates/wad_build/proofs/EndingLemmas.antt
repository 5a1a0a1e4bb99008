-- One more word, from the end.
use Rattle.std.proofs.Common.{◌≡◌, ◌≢◌, ◌∙◌, refl, sym, ap, ℕ, zero, suc, ◌+◌, ◌<◌, ◌≤◌, ◌⊎◌, inl, inr, Bool, false, ◌&&◌, ◌||◌, List, [], ◌∷◌, length, get_or, drop, arith}
use Rattle.std.specs.Prelude.{◌==◌}
use Rattle.std.proofs.Math.ListN.{set}
use Rattle.std.proofs.lemmas.Bool.{cases_eq}
use Rattle.std.proofs.lemmas.List.{get_or-set_same, get_or-set_other, length-set, drop_all}
use Rattle.wad_build.specs.Endings.{is_line, ends_in_lines, AreEndings}

cons_at : (xs : List ℕ) (n : ℕ) → n < length xs → drop n xs ≡ get_or xs n 0 ∷ drop (n + 1) xs
cons_at [] n h = absurd (omega arith)
cons_at (x ∷ xs) zero h = refl
cons_at (x ∷ xs) (suc n) h = let e : suc n + 1 ≡ suc (n + 1) = omega arith in rw e (cons_at xs n (omega arith))

-- the flags from an index on, and whether the words from it on name lines up to an end
pub record SoFar (lines : ℕ) (words : List ℕ) (from size : ℕ) (flags : List Bool) (ends : Bool) : Type 0 where
  pub here : ends ≡ ends_in_lines lines (drop from words)
  pub flagged : AreEndings lines words from flags
  pub whole : length flags ≡ size

pub here_before :
    (lines : ℕ) (words : List ℕ) (place word : ℕ) (ends : Bool) → place < length words → get_or words place 0 ≡ word → ends ≡ ends_in_lines lines (drop (place + 1) words)
    → ((word == 65535) || (is_line lines word && ends)) ≡ ends_in_lines lines (drop place words)
here_before lines words place word ends h is e =
    ap (λ (b : Bool). (word == 65535) || (is_line lines word && b)) e
    ∙ ap (λ (w : ℕ). ends_in_lines lines (w ∷ drop (place + 1) words)) (sym is)
    ∙ sym (ap (ends_in_lines lines) (cons_at words place h))

-- the index is past the last flag
pub no_flag :
    (lines : ℕ) (words : List ℕ) (place size : ℕ) (flags : List Bool) (ends new : Bool) → length flags ≤ place → new ≡ ends_in_lines lines (drop place words)
    → SoFar lines words (place + 1) size flags ends → SoFar lines words place size flags new
no_flag lines words place size flags ends new far e s =
    record { here = e; flagged = record { each = λ p from below. absurd (omega arith) }; whole = s.whole }

-- the flag at the index is set
pub flag_set :
    (lines : ℕ) (words : List ℕ) (place size : ℕ) (flags : List Bool) (ends new : Bool) → place < length flags → new ≡ ends_in_lines lines (drop place words)
    → SoFar lines words (place + 1) size flags ends → SoFar lines words place size (set flags place new) new
flag_set lines words place size flags ends new near e s =
    record { here = e; flagged = record { each = each }; whole = length-set flags place new ∙ s.whole }
  where
    each : (p : ℕ) → place ≤ p → p < length (set flags place new) → get_or (set flags place new) p false ≡ ends_in_lines lines (drop p words)
    each p from below = by (cases_eq p place)
      where
        by : (p ≡ place) ⊎ (p ≢ place) → get_or (set flags place new) p false ≡ ends_in_lines lines (drop p words)
        by (inl q) = rw q (get_or-set_same flags place new false near ∙ e)
        by (inr q) =
            let l = length-set flags place new in
            get_or-set_other flags place p new false q ∙ s.flagged.each p (omega arith) (omega (arith, l, below))
