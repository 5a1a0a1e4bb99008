-- A disk and its images after each successful call.
use Rattle.std.proofs.Common.{◌≡◌, inl, inr, ◌<◌, ◌≤◌, ◌+◌, ℕ, min, max, List, [], ◌∷◌, ◌++◌, length, get_or, map, Bool, true, false, cond, refl, sym, ◌∙◌, ap, subst, arith, length-append}
use Rattle.std.proofs.lemmas.List.{take_all, take-append-le, ext_get_or}
use Rattle.std.proofs.lemmas.List.Folds.{list_any-append}
use Rattle.std.proofs.lemmas.List.FromFn.{length-map-range_with_len, get_or-map-range_with_len}
use Rattle.std.proofs.lemmas.Bool.{cases_Bool, cases_lt}
use Rattle.std.proofs.lemmas.Bool.Decides.{nat_tests}
use Rattle.std.specs.List.{range_with_len}
use Rattle.store_disk.specs.Files.{Outside, Torn}
use Rattle.store_disk.specs.Stops.{From, Elapses}
use Rattle.store_disk.specs.Shows.{Shows}
use Rattle.store_disk.specs.Medium.{Call, Wrote, Synced, Medium, overwritten, settled, after_call, after_calls, is_in, is_unsynced, IsImage, LeftSince}
use Rattle.store_disk.proofs.Overwriting.{overwritten_size, overwritten_no_shorter, overwritten_nothing, overwritten_out}

pub shows_settled : (file : List ℕ) → Shows (settled file) file file []
shows_settled file = record {
  file_is = refl;
  synced_is = refl;
  writes_are = refl;
  longest_is = refl;
  image = record { no_shorter = omega arith; no_longer = omega arith; same = λ i un. refl };
}

module _ (m : Medium) (at : ℕ) (x : List ℕ) where
  abbrev written : Medium
  written = after_call m (Wrote at x)

  -- what is synced after the write was synced before it, and is outside its range
  synced_before : (i : ℕ) → is_unsynced written i ≡ false → is_unsynced m i ≡ false
  synced_before i un = grind (arith, list_any-append (is_in i) m.writes ((at, length x) ∷ []), un)

  synced_outside : (i : ℕ) → is_unsynced written i ≡ false → Outside at (length x) i
  synced_outside i un = grind (arith, nat_tests, list_any-append (is_in i) m.writes ((at, length x) ∷ []), un)

  stays_synced : (i : ℕ) → is_unsynced m i ≡ false → Outside at (length x) i → is_unsynced written i ≡ false
  stays_synced i un out = grind (arith, nat_tests, list_any-append (is_in i) m.writes ((at, length x) ∷ []), un, out)

  pub wrote_good : IsImage m m.file → IsImage written written.file
  wrote_good image = record {
    no_shorter = omega (arith, image.no_shorter, overwritten_no_shorter at x m.file);
    no_longer = omega arith;
    same = λ i un. overwritten_out at x m.file i (synced_outside i un) ∙ image.same i (synced_before i un);
  }

  -- an image stays one
  pub still_image : (file : List ℕ) → IsImage m file → IsImage written file
  still_image file is = record {
    no_shorter = is.no_shorter;
    no_longer = omega (arith, is.no_longer);
    same = λ i un. is.same i (synced_before i un);
  }

  -- an image after the write is a torn write of an image before it
  module _ (image : IsImage m m.file) (file : List ℕ) (is : IsImage written file) where
    before_at : ℕ → ℕ
    before_at i = cond (is_unsynced m i) (get_or file i 0) (get_or m.synced i 0)

    before_size : ℕ
    before_size = min (length file) m.longest

    before : List ℕ
    before = map before_at (range_with_len 0 before_size)

    length-before : length before ≡ before_size
    unfolding before
    length-before = length-map-range_with_len before_at 0 before_size

    get-before : (i : ℕ) → i < before_size → get_or before i 0 ≡ before_at i
    unfolding before
    get-before i lt = get_or-map-range_with_len before_at 0 before_size i i 0 lt (omega arith)

    was_synced : (i : ℕ) → is_unsynced m i ≡ false → before_at i ≡ get_or m.synced i 0
    unfolding before_at
    was_synced i un = ap (λ (b : Bool). cond b (get_or file i 0) (get_or m.synced i 0)) un

    was_unsynced : (i : ℕ) → is_unsynced m i ≡ true → before_at i ≡ get_or file i 0
    unfolding before_at
    was_unsynced i un = ap (λ (b : Bool). cond b (get_or file i 0) (get_or m.synced i 0)) un

    -- a synced byte is in the file as of the last sync
    is_short : (i : ℕ) → is_unsynced m i ≡ false → i < length m.synced
    is_short i un = grind (arith, nat_tests, un)

    stays : (i : ℕ) → Outside at (length x) i → get_or file i 0 ≡ before_at i
    stays i out = elim (cases_Bool (is_unsynced m i)) [
      | inl un ↦ sym (was_unsynced i un)
      | inr synced ↦ is.same i (stays_synced i synced out) ∙ sym (was_synced i synced)
    ]

    no_longer_than : length file ≤ max before_size (at + length x)
    unfolding before_size
    no_longer_than = elim (overwritten_size at x m.file) [
      | inl none ↦ omega (arith, is.no_longer, image.no_longer, none.1)
      | inr some ↦ omega (arith, is.no_longer, image.no_longer, some.1)
    ]

    pub torn_from : From (IsImage m) (Torn at (length x)) file
    unfolding before_size
    torn_from = (
      before,
      record {
        no_shorter = omega (arith, length-before, is.no_shorter, image.no_shorter, image.no_longer);
        no_longer = omega (arith, length-before);
        same = λ i un. get-before i (omega (arith, is_short i un, is.no_shorter, image.no_shorter, image.no_longer)) ∙ was_synced i un;
      },
      record {
        keeps = record {
          same = λ i lt out. stays i out ∙ sym (get-before i (omega (arith, lt, length-before)));
          no_shorter = omega (arith, length-before);
        };
        no_longer = omega (arith, length-before, no_longer_than);
        nothing = λ none. omega (arith, length-before, is.no_longer, image.no_longer, ap length (overwritten_nothing at x m.file none));
      },
    )

-- the fields of a disk after each call
pub shows_written : (m : Medium) (at : ℕ) (x file synced : List ℕ) (writes : List (ℕ × ℕ)) → Shows m file synced writes
    → Shows (after_call m (Wrote at x)) (overwritten at x file) synced (writes ++ (at, length x) ∷ [])
shows_written m at x file synced writes shows = record {
  file_is = ap (overwritten at x) shows.file_is;
  synced_is = shows.synced_is;
  writes_are = ap (λ (ws : List (ℕ × ℕ)). ws ++ (at, length x) ∷ []) shows.writes_are;
  longest_is = omega (arith, shows.longest_is, overwritten_no_shorter at x m.file);
  image = wrote_good m at x shows.image;
}

pub shows_synced : (m : Medium) (file synced : List ℕ) (writes : List (ℕ × ℕ)) → Shows m file synced writes → Shows (after_call m Synced) file file []
shows_synced m file synced writes shows = subst (λ (f : List ℕ). Shows (settled m.file) f f []) shows.file_is (shows_settled m.file)

-- a fully synced file is its only image
pub settled_only : (file image : List ℕ) → IsImage (settled file) image → image ≡ file
settled_only file image is =
    ext_get_or 0 image file (omega (arith, is.no_shorter, is.no_longer)) (λ i lt. is.same i (grind (arith, nat_tests, lt, is.no_longer)))

pub only_settled : (m : Medium) (file : List ℕ) → m ≡ settled file → (image : List ℕ) → IsImage m image → image ≡ m.file
only_settled m file settles image is =
    settled_only file image (subst (λ (n : Medium). IsImage n image) settles is) ∙ sym (ap (λ (n : Medium). n.file) settles)

pub after_calls-push : (m : Medium) (calls : List Call) (call : Call) → after_calls m (calls ++ call ∷ []) ≡ after_call (after_calls m calls) call
after_calls-push m [] call = refl
after_calls-push m (c ∷ calls) call = after_calls-push (after_call m c) calls call

-- one call passes
pub elapses_push : (first : Medium) (calls : List Call) (call : Call)
    → Elapses (length calls) (length (calls ++ call ∷ [])) (LeftSince first calls) (LeftSince first (calls ++ call ∷ [])) (IsImage (after_calls first (calls ++ call ∷ [])))
elapses_push first calls call = record {
  later = omega (arith, size);
  nothing_else = λ t file le left. elim (cases_lt (length calls) left.0) [
    | inl above ↦ inr (subst (λ (cs : List Call). IsImage (after_calls first cs) file) (take_all left.0 (calls ++ call ∷ []) (omega (arith, size, above))) left.3)
    | inr below ↦ inl (left.0, left.1, below, subst (λ (cs : List Call). IsImage (after_calls first cs) file) (take-append-le left.0 calls (call ∷ []) below) left.3)
  ];
  keeps = λ t file le left. (
    left.0,
    left.1,
    omega (arith, left.2, size),
    subst (λ (cs : List Call). IsImage (after_calls first cs) file)
        (sym (take-append-le left.0 calls (call ∷ []) left.2)) left.3,
  );
}
  where
    size : length (calls ++ call ∷ []) ≡ length calls + 1
    size = length-append calls (call ∷ [])
