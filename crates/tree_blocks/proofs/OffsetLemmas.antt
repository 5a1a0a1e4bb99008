-- Where lists that follow one another begin, list by list.
use Rattle.std.proofs.Common.{◌≡◌, refl, sym, ap, ◌∙◌, subst, ℕ, zero, suc, ◌+◌, ◌<◌, ◌≤◌, List, [], ◌∷◌, ◌++◌, length, take, get_or, arith, append_assoc, length-append}
use Rattle.std.specs.Prelude.{flat_map, All}
use Rattle.std.proofs.lemmas.List.{take_more, take_all, append-nil}
use Rattle.std.proofs.lemmas.Grind.{flat_map-append}
use Rattle.std.proofs.lemmas.List.Elements.{All-nil, All-push, All-get_or}
use Rattle.lump_records.specs.Fields.{unsigned}
use Rattle.tree_blocks.specs.Layout.{list_words, starts, word_bytes, greatest_offset, list_end}
use Rattle.tree_blocks.proofs.LayoutLemmas.{length-starts}

-- how many words the first k lists have
abbrev pub words_before : List (List ℕ) → ℕ → ℕ
words_before lists zero = 0
words_before [] (suc k) = 0
words_before (list ∷ lists) (suc k) = length (list_words list) + words_before lists k

-- a list begins after the words of those before it
pub start_at : (at : ℕ) (lists : List (List ℕ)) (k : ℕ) → k < length lists → get_or (starts at lists) k 0 ≡ at + words_before lists k
start_at at [] k h = absurd (omega arith)
start_at at (list ∷ lists) zero h = omega arith
start_at at (list ∷ lists) (suc k) h =
    let r = start_at (at + length (list_words list)) lists k (omega arith) in
    omega (arith, r)

-- one more list
pub words_more : (lists : List (List ℕ)) (k : ℕ) → k < length lists → words_before lists (k + 1) ≡ words_before lists k + length (list_words (get_or lists k []))
words_more [] k h = absurd (omega arith)
words_more (list ∷ lists) zero h = omega arith
words_more (list ∷ lists) (suc k) h =
    let r = words_more lists k (omega arith) in
    let e : suc k + 1 ≡ suc (k + 1) = omega arith in
    ap (words_before (list ∷ lists)) e ∙ omega (arith, r)

-- one more list is written
pub list_more :
    (front bytes : List ℕ) (lists : List (List ℕ)) (k : ℕ) (list : List ℕ) → k < length lists → get_or lists k [] ≡ list → bytes ≡ front ++ word_bytes (flat_map list_words (take k lists))
    → bytes ++ word_bytes (list_words list) ≡ front ++ word_bytes (flat_map list_words (take (k + 1) lists))
list_more front bytes lists k list h is e =
    ap (λ (bs : List ℕ). bs ++ word_bytes (list_words list)) e ∙ append_assoc front (word_bytes (flat_map list_words (take k lists))) (word_bytes (list_words list))
    ∙ ap (λ (bs : List ℕ). front ++ bs)
    (sym (flat_map-append unsigned (flat_map list_words (take k lists)) (list_words list))
    ∙ ap word_bytes
    (ap (λ (ws : List ℕ). flat_map list_words (take k lists) ++ ws) (sym (append-nil (list_words list)))
    ∙ sym (flat_map-append list_words (take k lists) (list ∷ []))
    ∙ ap (flat_map list_words) (ap (λ (l : List ℕ). take k lists ++ l ∷ []) (sym is) ∙ sym (take_more lists k [] h))))

-- the starts so far: they are known and fit, and so is the next one
pub record StartsSoFar (lists : List (List ℕ)) (first n at : ℕ) (found : List ℕ) : Type 0 where
  pub next : at ≡ first + words_before lists n
  pub found_are : found ≡ take n (starts first lists)
  pub fit : All (λ a. a ≤ greatest_offset) (take n (starts first lists))

pub starts_none : (lists : List (List ℕ)) (first : ℕ) → StartsSoFar lists first 0 first []
starts_none lists first =
    record { next = none lists; found_are = refl; fit = All-nil (λ a. a ≤ greatest_offset) }
  where
    none : (lists : List (List ℕ)) → first ≡ first + words_before lists 0
    none [] = omega arith
    none (list ∷ lists) = omega arith

pub starts_more :
    (lists : List (List ℕ)) (first n at : ℕ) (found list : List ℕ) → n < length lists → get_or lists n [] ≡ list → at ≤ greatest_offset → StartsSoFar lists first n at found
    → StartsSoFar lists first (n + 1) (at + (2 + length list)) (found ++ at ∷ [])
starts_more lists first n at found list h here small o =
    let s = start_at first lists n h in
    let is : get_or (starts first lists) n 0 ≡ at = s ∙ sym o.next in
    let long = length-starts first lists in
    let below : n < length (starts first lists) = omega (arith, long, h) in
    let w = words_more lists n h in
    let l = length-append (get_or lists n []) (list_end ∷ []) in
    let k : length (get_or lists n []) ≡ length list = ap length here in
    let e = o.next in
    let more = take_more (starts first lists) n 0 below in
    record {
      next = omega (arith, w, l, e, k);
      found_are = ap (λ (fs : List ℕ). fs ++ at ∷ []) o.found_are ∙ ap (λ (a : ℕ). take n (starts first lists) ++ a ∷ []) (sym is) ∙ sym more;
      fit = rw more (All-push (λ a. a ≤ greatest_offset) (take n (starts first lists)) (get_or (starts first lists) n 0) o.fit (omega (arith, is, small)));
    }

pub starts_large :
    (lists : List (List ℕ)) (first n at : ℕ) (found : List ℕ) → n < length lists → greatest_offset < at → StartsSoFar lists first n at found → All (λ a. a ≤ greatest_offset) (starts first lists) → ⊥
starts_large lists first n at found h large o a =
    let s = start_at first lists n h in
    let long = length-starts first lists in
    let e = o.next in
    let small : get_or (starts first lists) n 0 ≤ greatest_offset = All-get_or (λ a. a ≤ greatest_offset) (starts first lists) n 0 (omega (arith, long, h)) a in
    omega (arith, s, e, small, large)

-- all starts
pub starts_all :
    (lists : List (List ℕ)) (first n at : ℕ) (found : List ℕ) → length lists ≤ n → StartsSoFar lists first n at found
    → (found ≡ starts first lists) × All (λ a. a ≤ greatest_offset) (starts first lists)
starts_all lists first n at found h o =
    let long = length-starts first lists in
    let all : take n (starts first lists) ≡ starts first lists = take_all n (starts first lists) (omega (arith, long, h)) in
    (o.found_are ∙ all, subst (λ (ss : List ℕ). All (λ a. a ≤ greatest_offset) ss) all o.fit)
