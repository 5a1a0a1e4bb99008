-- One stretch of a run after another.
use Rattle.std.proofs.Common.{◌≡◌, ℕ, zero, suc, List, [], ◌∷◌, ◌++◌, false, refl, sym, ◌∙◌, ap, subst, arith, ◌+◌, ◌≤◌, ◌*◌, length, length-append, take, ◌<◌, append_assoc, append-nil}
use Rattle.std.specs.Prelude.{Option, Some, None, Result, Ok, Err, MatchResult, OnOk}
use Rattle.std.specs.List.{list_any}
use Rattle.std.specs.Io.KnownBytes.{Appends, Consumes, IsAtEnd, Keeps}
use Rattle.run_edit.specs.Runs.{AnswersLine, Answered, EndsTaking, Exchange, Feeds, Ran, TakesLines, lines_in, none_waits, output_of}
use Rattle.run_edit.specs.Lines.{IsBegun, whole_lines, unfinished, is_break, line_if_any, lines_of}
use Rattle.run_edit.specs.declared.error.EditorError.{EditorError}
use Rattle.run_edit.specs.declared.error.EditorError.TheVariants.{OutOfMemory, InputTooLong, ReaderFailed, WriterFailed}
use Rattle.run_edit.specs.Composing.{lines_in-append, output_of-append}
use Rattle.run_edit.proofs.Cutting.{whole-none, unfinished-none, whole-append, whole-end, whole-push, unfinished-end, unfinished-append, unfinished-push, any-push}

-- ---- Bytes read and written

pub Appends-append : (a b c : Option (List ℕ)) (xs ys : List ℕ) → Appends a b xs → Appends b c ys → Appends a c (xs ++ ys)
Appends-append None b c xs ys p q = tt
Appends-append (Some x) None c xs ys p q = absurd p
Appends-append (Some x) (Some y) None xs ys p q = absurd q
Appends-append (Some x) (Some y) (Some z) xs ys p q = q ∙ ap (λ w. w ++ ys) p ∙ append_assoc x xs ys

pub Appends-keeps : (a b c : Option (List ℕ)) (xs : List ℕ) → Appends a b xs → Keeps b c → Appends a c xs
Appends-keeps None b c xs p q = tt
Appends-keeps (Some x) None c xs p q = absurd p
Appends-keeps (Some x) (Some y) None xs p q = absurd q
Appends-keeps (Some x) (Some y) (Some z) xs p q = q ∙ p

-- one text, and then another that may fail
pub Appends-then : {U E : Type 0} (r : Result U E) (P : E → Type 0) (a b c : Option (List ℕ)) (xs ys : List ℕ) → Appends a b xs
    → MatchResult r (λ _. Appends b c ys) P → MatchResult r (λ _. Appends a c (xs ++ ys)) P
Appends-then (Ok u) P a b c xs ys p q = Appends-append a b c xs ys p q
Appends-then (Err e) P a b c xs ys p q = q

-- an answer, where nothing else was written before it
pub Appends-kept : {U E : Type 0} (r : Result U E) (P : E → Type 0) (a b c : Option (List ℕ)) (xs : List ℕ) → Keeps a b
    → MatchResult r (λ _. Appends b c xs) P → MatchResult r (λ _. Appends a c xs) P
Appends-kept (Ok u) P None b c xs p q = tt
Appends-kept (Ok u) P (Some x) None c xs p q = absurd p
Appends-kept (Ok u) P (Some x) (Some y) None xs p q = absurd q
Appends-kept (Ok u) P (Some x) (Some y) (Some z) xs p q = q ∙ ap (λ w. w ++ xs) p
Appends-kept (Err e) P a b c xs p q = q

pub Appends-none : (a : Option (List ℕ)) → Appends a a []
Appends-none None = tt
Appends-none (Some x) = sym (append-nil x)

pub Consumes-append : (a b c : Option (List ℕ)) (xs ys : List ℕ) → Consumes a b xs → Consumes b c ys → Consumes a c (xs ++ ys)
Consumes-append None b c xs ys p q = tt
Consumes-append (Some x) None c xs ys p q = absurd p
Consumes-append (Some x) (Some y) None xs ys p q = absurd q
Consumes-append (Some x) (Some y) (Some z) xs ys p q = p ∙ ap (λ w. xs ++ w) q ∙ sym (append_assoc xs ys z)

-- nothing more was read
pub Consumes-end : (a b c : Option (List ℕ)) (read buf : List ℕ) (n : ℕ) → n ≡ 0 → Consumes a b read → Consumes b c (take n buf) → Consumes a c read
Consumes-end a b c read buf n e p q = rw append-nil at (Consumes-append a b c read [] p (rw e at q))

-- ---- A line that hasn't ended

-- one more byte: the front of the longer line is that of the front
take-push : (n : ℕ) (xs ys : List ℕ) → take n (take n xs ++ ys) ≡ take n (xs ++ ys)
take-push zero xs ys = refl
take-push (suc n) [] ys = refl
take-push (suc n) (x ∷ xs) ys = ap (λ z. x ∷ z) (take-push n xs ys)

pub begun-none : IsBegun [] []
begun-none = record { front = refl; open_ended = refl }

pub begun-push : (kept part : List ℕ) (b : ℕ) (after : List ℕ) → IsBegun kept part → is_break b ≡ false → after ≡ take 257 (kept ++ b ∷ []) → IsBegun after (part ++ b ∷ [])
begun-push kept part b after begun other e = record {
  front = e ∙ ap (λ z. take 257 (z ++ b ∷ [])) begun.front ∙ take-push 257 part (b ∷ []);
  open_ended = any-push part b begun.open_ended other;
}

pub line-of-some : (kept part : List ℕ) → IsBegun kept part → 0 < length kept → line_if_any part ≡ part ∷ []
line-of-some kept [] begun some = let e : length kept ≡ 0 = ap length begun.front in absurd (omega arith)
line-of-some kept (b ∷ part) begun some = refl

pub line-of-none : (kept part : List ℕ) → IsBegun kept part → length kept ≡ 0 → line_if_any part ≡ []
line-of-none kept [] begun none = refl
line-of-none kept (b ∷ part) begun none = let e : length kept ≡ length (take 257 (b ∷ part)) = ap length begun.front in absurd (omega arith)

pub whole-at : (bs : List ℕ) (b : ℕ) → b ≡ 10 → list_any is_break bs ≡ false → whole_lines (bs ++ b ∷ []) ≡ bs ∷ []
whole-at bs b e f = rw e (whole-end bs f)

pub unfinished-at : (bs : List ℕ) (b : ℕ) → b ≡ 10 → unfinished (bs ++ b ∷ []) ≡ []
unfinished-at bs b e = rw e (unfinished-end bs)

-- ---- Lines that were taken, and more of them

-- the lines that were answered and those that are left, after two calls
joined_lines : (xs ys : List Exchange) (first left more rest : List (List ℕ)) → first ≡ lines_in xs ++ left → left ++ more ≡ lines_in ys ++ rest
    → first ++ more ≡ lines_in (xs ++ ys) ++ rest
joined_lines xs ys first left more rest is next =
    ap (λ (z : List (List ℕ)). z ++ more) is ∙ append_assoc (lines_in xs) left more
    ∙ ap (λ (z : List (List ℕ)). lines_in xs ++ z) next ∙ sym (append_assoc (lines_in xs) (lines_in ys) rest)
    ∙ ap (λ (z : List (List ℕ)). z ++ rest) (sym (lines_in-append xs ys))

ends_both : {U : Type 0} (waits : List (List ℕ) → Type 0) (r : Result U EditorError) (xs ys : List Exchange) (first left more : List (List ℕ)) (u v w : Option (List ℕ))
    → first ≡ lines_in xs ++ left → Appends u v (output_of xs) → EndsTaking waits r ys (left ++ more) v w → EndsTaking waits r (xs ++ ys) (first ++ more) u w
ends_both waits (Ok x) xs ys first left more u v w is wrote (rest, wait, next, then) =
    (rest, wait, joined_lines xs ys first left more rest is next, rw (output_of-append xs ys) (Appends-append u v w (output_of xs) (output_of ys) wrote then))
ends_both waits (Err WriterFailed) xs ys first left more u v w is wrote (back, next) = (back, joined_lines xs ys first left more back is next)
ends_both waits (Err OutOfMemory) xs ys first left more u v w is wrote never = absurd never
ends_both waits (Err InputTooLong) xs ys first left more u v w is wrote never = absurd never
ends_both waits (Err ReaderFailed) xs ys first left more u v w is wrote never = absurd never

-- one line that was answered at once, where none waited
pub taken_alone : {S U : Type 0} (answers : S → List ℕ → List ℕ → S → Type 0) (goes : S → List Exchange → S → Type 0)
    → ((old new : S) (line text : List ℕ) → answers old line text new → goes old (record { line = line; text = text } ∷ []) new)
    → (r : Result U EditorError) (old new : S) (lines : List (List ℕ)) (whole : List ℕ) (u w : Option (List ℕ)) → lines ≡ [] → AnswersLine answers r old new whole u w
    → TakesLines goes none_waits r old new (lines ++ whole ∷ []) u w
taken_alone answers goes one (Ok x) old new lines whole u w none (text, told, wrote) =
    (record { line = whole; text = text } ∷ [], one old new whole text told, ([], refl, ap (λ (z : List (List ℕ)). z ++ whole ∷ []) none, rw append-nil wrote))
taken_alone {U = U} answers goes one (Err e) old new lines whole u w none (text, told, failed) =
    subst (λ (x : EditorError). TakesLines {U = U} goes none_waits (Err x) old new (lines ++ whole ∷ []) u w) (sym failed)
    (record { line = whole; text = text } ∷ [], one old new whole text told, ([], ap (λ (z : List (List ℕ)). z ++ whole ∷ []) none))

module _ {S : Type 0} (goes : S → List Exchange → S → Type 0) (then_more : (old mid new : S) (xs ys : List Exchange) → goes old xs mid → goes mid ys new → goes old (xs ++ ys) new) where
  -- some lines, and then more behind those that wait
  pub both : {U V : Type 0} (between waits : List (List ℕ) → Type 0) (x : U) (r : Result V EditorError) (old mid new : S) (first more : List (List ℕ)) (u v w : Option (List ℕ))
      → TakesLines goes between (Ok x) old mid first u v → ((left : List (List ℕ)) → between left → TakesLines goes waits r mid new (left ++ more) v w) → TakesLines goes waits r old new (first ++ more) u w
  both between waits x r old mid new first more u v w (xs, went, (left, wait, is, wrote)) next =
      let behind = next left wait in
      (xs ++ behind.0, then_more old mid new xs behind.0 went behind.1, ends_both waits r xs behind.0 first left more u v w is wrote behind.2)

  -- the same where no more came
  pub both_same : {U V : Type 0} (between waits : List (List ℕ) → Type 0) (x : U) (r : Result V EditorError) (old mid new : S) (first : List (List ℕ)) (u v w : Option (List ℕ))
      → TakesLines goes between (Ok x) old mid first u v → ((left : List (List ℕ)) → between left → TakesLines goes waits r mid new left v w) → TakesLines goes waits r old new first u w
  both_same between waits x r old mid new first u v w taken next =
      rw append-nil at (both between waits x r old mid new first [] u v w taken (λ left wait. rw append-nil (next left wait)))

  -- no line was taken
  pub nothing : {U : Type 0} (waits : List (List ℕ) → Type 0) (x : U) (m : S) (lines : List (List ℕ)) (u : Option (List ℕ)) → goes m [] m → waits lines → TakesLines goes waits (Ok x) m m lines u u
  nothing waits x m lines u stays wait = ([], stays, (lines, wait, refl, Appends-none u))

  -- the lines that were not looked at
  pub further : (U : Type 0) (waits : List (List ℕ) → Type 0) (old new : S) (xs ys : List (List ℕ)) (e : EditorError) (u w : Option (List ℕ)) → TakesLines {U = U} goes waits (Err e) old new xs u w
      → TakesLines {U = U} goes waits (Err e) old new (xs ++ ys) u w
  further U waits old new xs ys WriterFailed u w (trace, went, (back, is)) =
      (trace, went, (back ++ ys, ap (λ (z : List (List ℕ)). z ++ ys) is ∙ append_assoc (lines_in trace) back ys))
  further U waits old new xs ys OutOfMemory u w (trace, went, never) = absurd never
  further U waits old new xs ys InputTooLong u w (trace, went, never) = absurd never
  further U waits old new xs ys ReaderFailed u w (trace, went, never) = absurd never

  -- the same where more may be said of the lines that wait
  pub weaker : {U : Type 0} (waits waits' : List (List ℕ) → Type 0) (r : Result U EditorError) (old new : S) (lines : List (List ℕ)) (u w : Option (List ℕ))
      → ((left : List (List ℕ)) → waits left → waits' left) → TakesLines goes waits r old new lines u w → TakesLines goes waits' r old new lines u w
  weaker waits waits' (Ok x) old new lines u w more (trace, went, (left, wait, is, wrote)) = (trace, went, (left, more left wait, is, wrote))
  weaker waits waits' (Err WriterFailed) old new lines u w more taken = taken
  weaker waits waits' (Err OutOfMemory) old new lines u w more (trace, went, never) = absurd never
  weaker waits waits' (Err InputTooLong) old new lines u w more (trace, went, never) = absurd never
  weaker waits waits' (Err ReaderFailed) old new lines u w more (trace, went, never) = absurd never

  -- the same where none waits
  pub none_left : {U : Type 0} (waits : List (List ℕ) → Type 0) (r : Result U EditorError) (old new : S) (lines : List (List ℕ)) (u w : Option (List ℕ))
      → OnOk r (waits []) → TakesLines goes none_waits r old new lines u w → TakesLines goes waits r old new lines u w
  none_left waits (Ok x) old new lines u w left (trace, went, (behind, none, is, wrote)) = (trace, went, (behind, subst waits (sym none) left, is, wrote))
  none_left waits (Err WriterFailed) old new lines u w left taken = taken
  none_left waits (Err OutOfMemory) old new lines u w left (trace, went, never) = absurd never
  none_left waits (Err InputTooLong) old new lines u w left (trace, went, never) = absurd never
  none_left waits (Err ReaderFailed) old new lines u w left (trace, went, never) = absurd never

  -- a call that failed so, whatever it would have returned
  pub lost : (U V : Type 0) (waits waits' : List (List ℕ) → Type 0) (old new : S) (lines : List (List ℕ)) (e : EditorError) (u w : Option (List ℕ)) → TakesLines {U = U} goes waits (Err e) old new lines u w
      → TakesLines {U = V} goes waits' (Err e) old new lines u w
  lost U V waits waits' old new lines WriterFailed u w taken = taken
  lost U V waits waits' old new lines OutOfMemory u w (trace, went, never) = absurd never
  lost U V waits waits' old new lines InputTooLong u w (trace, went, never) = absurd never
  lost U V waits waits' old new lines ReaderFailed u w (trace, went, never) = absurd never

  -- what was written is handed on, or it isn't
  pub kept : {U : Type 0} (V : Type 0) (waits : List (List ℕ) → Type 0) (old new : S) (lines : List (List ℕ)) (x : U) (y : V) (u v w : Option (List ℕ)) → TakesLines goes waits (Ok x) old new lines u v → Keeps v w
      → TakesLines goes waits (Ok y) old new lines u w
  kept V waits old new lines x y u v w (trace, went, (left, wait, is, wrote)) keeps = (trace, went, (left, wait, is, Appends-keeps u v w (output_of trace) wrote keeps))

  pub stopped : {U : Type 0} (V : Type 0) (waits : List (List ℕ) → Type 0) (old new : S) (lines : List (List ℕ)) (x : U) (e : EditorError) (u v w : Option (List ℕ)) → TakesLines goes waits (Ok x) old new lines u v
      → e ≡ WriterFailed → TakesLines {U = V} goes waits (Err e) old new lines u w
  stopped V waits old new lines x WriterFailed u v w (trace, went, (left, wait, lines_are, wrote)) is = (trace, went, (left, lines_are))
  stopped V waits old new lines x OutOfMemory u v w taken is = cc
  stopped V waits old new lines x InputTooLong u v w taken is = cc
  stopped V waits old new lines x ReaderFailed u v w taken is = cc

  -- ---- More bytes

  -- a byte that ends no line
  pub Feeds-byte : (waits : List (List ℕ) → Type 0) (m : S) (lines : List (List ℕ)) (before part : List ℕ) (b : ℕ) (after : List ℕ) (u : Option (List ℕ)) → goes m [] m → waits lines
      → IsBegun before part → is_break b ≡ false → after ≡ take 257 (before ++ b ∷ []) → Feeds goes waits (Ok 0) m m lines part (b ∷ []) after u u
  Feeds-byte waits m lines before part b after u stays wait begun other e =
      let no_line : whole_lines (part ++ b ∷ []) ≡ [] = whole-push part b begun.open_ended other in
      record {
        ends = subst (λ (z : List (List ℕ)). TakesLines {U = ℕ} goes waits (Ok 0) m m (lines ++ z) u u) (sym no_line) (nothing {U = ℕ} waits 0 m (lines ++ []) u stays (subst waits (sym (append-nil lines)) wait));
        count = sym (ap length no_line);
        begun = rw (unfinished-push part b begun.open_ended other) (begun-push before part b after begun other e);
      }

  -- a LF: the line was taken, or it wasn't
  pub Feeds-line : {U : Type 0} (waits : List (List ℕ) → Type 0) (x : U) (old new : S) (lines : List (List ℕ)) (before part : List ℕ) (b : ℕ) (after : List ℕ) (u w : Option (List ℕ)) → IsBegun before part
      → b ≡ 10 → after ≡ [] → TakesLines goes waits (Ok x) old new (lines ++ part ∷ []) u w → Feeds goes waits (Ok 1) old new lines part (b ∷ []) after u w
  Feeds-line waits x old new lines before part b after u w begun lf e taken =
      let one : whole_lines (part ++ b ∷ []) ≡ part ∷ [] = whole-at part b lf begun.open_ended in
      record {
        ends = subst (λ (z : List (List ℕ)). TakesLines {U = ℕ} goes waits (Ok 1) old new (lines ++ z) u w) (sym one) taken;
        count = sym (ap length one);
        begun = rw (e, unfinished-at part b lf) begun-none;
      }

  pub Feeds-lost : (U : Type 0) (waits : List (List ℕ) → Type 0) (e : EditorError) (old new : S) (lines : List (List ℕ)) (before part : List ℕ) (b : ℕ) (after : List ℕ) (u w : Option (List ℕ))
      → IsBegun before part → b ≡ 10 → TakesLines {U = U} goes waits (Err e) old new (lines ++ part ∷ []) u w → Feeds goes waits (Err e) old new lines part (b ∷ []) after u w
  Feeds-lost U waits e old new lines before part b after u w begun lf taken =
      let one : whole_lines (part ++ b ∷ []) ≡ part ∷ [] = whole-at part b lf begun.open_ended in
      record {
        ends = subst (λ (z : List (List ℕ)). TakesLines {U = ℕ} goes waits (Err e) old new (lines ++ z) u w) (sym one) (lost U ℕ waits waits old new (lines ++ part ∷ []) e u w taken);
        count = tt;
        begun = tt;
      }

  pub Feeds-none : (waits : List (List ℕ) → Type 0) (m : S) (lines : List (List ℕ)) (before part : List ℕ) (u : Option (List ℕ)) → goes m [] m → waits lines → IsBegun before part
      → Feeds goes waits (Ok 0) m m lines part [] before u u
  Feeds-none waits m lines before part u stays wait begun =
      let no_line : whole_lines (part ++ []) ≡ [] = rw append-nil (whole-none part begun.open_ended) in
      record {
        ends = subst (λ (z : List (List ℕ)). TakesLines {U = ℕ} goes waits (Ok 0) m m (lines ++ z) u u) (sym no_line) (nothing {U = ℕ} waits 0 m (lines ++ []) u stays (subst waits (sym (append-nil lines)) wait));
        count = sym (ap length no_line);
        begun = rw (append-nil, unfinished-none part begun.open_ended) begun;
      }

  -- the lines of more bytes, behind some that waited
  lines_then : (waiting : List (List ℕ)) (part xs ys : List ℕ)
      → waiting ++ whole_lines (part ++ (xs ++ ys)) ≡ (waiting ++ whole_lines (part ++ xs)) ++ whole_lines (unfinished (part ++ xs) ++ ys)
  lines_then waiting part xs ys =
      ap (λ (z : List ℕ). waiting ++ whole_lines z) (sym (append_assoc part xs ys)) ∙ ap (λ (z : List (List ℕ)). waiting ++ z) (whole-append (part ++ xs) ys)
      ∙ sym (append_assoc waiting (whole_lines (part ++ xs)) (whole_lines (unfinished (part ++ xs) ++ ys)))

  length_then : (part xs ys : List ℕ) → length (whole_lines (part ++ (xs ++ ys))) ≡ length (whole_lines (part ++ xs)) + length (whole_lines (unfinished (part ++ xs) ++ ys))
  length_then part xs ys =
      ap (λ (z : List ℕ). length (whole_lines z)) (sym (append_assoc part xs ys)) ∙ ap length (whole-append (part ++ xs) ys)
      ∙ length-append (whole_lines (part ++ xs)) (whole_lines (unfinished (part ++ xs) ++ ys))

  -- some bytes, and more
  pub Feeds-ok : (between waits : List (List ℕ) → Type 0) (old mid new : S) (waiting : List (List ℕ)) (part xs ys before after : List ℕ) (n m : ℕ) (u v w : Option (List ℕ))
      → Feeds goes between (Ok n) old mid waiting part xs before u v
      → ((left : List (List ℕ)) → between left → Feeds goes waits (Ok m) mid new left (unfinished (part ++ xs)) ys after v w)
      → Feeds goes waits (Ok (n + m)) old new waiting part (xs ++ ys) after u w
  Feeds-ok between waits old mid new waiting part xs ys before after n m u v w p next =
      let left = p.ends.2.0 in
      let then = next left p.ends.2.1 in
      record {
        ends = subst (λ (z : List (List ℕ)). TakesLines {U = ℕ} goes waits (Ok (n + m)) old new z u w) (sym (lines_then waiting part xs ys))
            (both between waits n (Ok m) old mid new (waiting ++ whole_lines (part ++ xs)) (whole_lines (unfinished (part ++ xs) ++ ys)) u v w p.ends (λ l wait. (next l wait).ends));
        count = (let a : n ≡ length (whole_lines (part ++ xs)) = p.count in let b : m ≡ length (whole_lines (unfinished (part ++ xs) ++ ys)) = then.count in omega (arith, length_then part xs ys));
        begun = rw (← append_assoc part xs ys, unfinished-append (part ++ xs) ys) then.begun;
      }

  pub Feeds-err : (between waits : List (List ℕ) → Type 0) (old mid new : S) (waiting : List (List ℕ)) (part xs ys before after : List ℕ) (n : ℕ) (e : EditorError) (u v w : Option (List ℕ))
      → Feeds goes between (Ok n) old mid waiting part xs before u v
      → ((left : List (List ℕ)) → between left → Feeds goes waits (Err e) mid new left (unfinished (part ++ xs)) ys after v w)
      → Feeds goes waits (Err e) old new waiting part (xs ++ ys) after u w
  Feeds-err between waits old mid new waiting part xs ys before after n e u v w p next = record {
    ends = subst (λ (z : List (List ℕ)). TakesLines {U = ℕ} goes waits (Err e) old new z u w) (sym (lines_then waiting part xs ys))
        (both {V = ℕ} between waits n (Err e) old mid new (waiting ++ whole_lines (part ++ xs)) (whole_lines (unfinished (part ++ xs) ++ ys)) u v w p.ends (λ l wait. (next l wait).ends));
    count = tt;
    begun = tt;
  }

  -- the bytes behind those
  pub Feeds-further : (waits : List (List ℕ) → Type 0) (old new : S) (waiting : List (List ℕ)) (part xs ys after : List ℕ) (e : EditorError) (u w : Option (List ℕ))
      → Feeds goes waits (Err e) old new waiting part xs after u w → Feeds goes waits (Err e) old new waiting part (xs ++ ys) after u w
  Feeds-further waits old new waiting part xs ys after e u w p = record {
    ends = subst (λ (z : List (List ℕ)). TakesLines {U = ℕ} goes waits (Err e) old new z u w) (sym (lines_then waiting part xs ys))
        (further ℕ waits old new (waiting ++ whole_lines (part ++ xs)) (whole_lines (unfinished (part ++ xs) ++ ys)) e u w p.ends);
    count = tt;
    begun = tt;
  }

  -- ---- The end of a run

  pub all_answered : (trace : List Exchange) (lines left : List (List ℕ)) (u w : Option (List ℕ)) → none_waits left → lines ≡ lines_in trace ++ left → Appends u w (output_of trace) → Answered trace lines u w
  all_answered trace lines left u w none is wrote = record {
    asked = sym (is ∙ ap (λ (z : List (List ℕ)). lines_in trace ++ z) none ∙ append-nil (lines_in trace));
    output = wrote;
  }

  pub Ran-ok : (n turns : ℕ) (first last : S) (read : List ℕ) (r s u w : Option (List ℕ)) → Consumes r s read → length read ≤ 4096 * turns → IsAtEnd s
      → n ≡ length (lines_of read) → TakesLines {U = ℕ} goes none_waits (Ok n) first last (lines_of read) u w
      → (trace : List Exchange) × Ran goes first last trace turns (Ok n) r s u w
  Ran-ok n turns first last read r s u w took few at_end count (trace, went, (left, none, is, wrote)) =
      (trace, record { read = read; took = took; few = few; whole = at_end; in_turn = went; ends = (count, all_answered trace (lines_of read) left u w none is wrote) })

  pub Ran-lost : (e : EditorError) (turns : ℕ) (first last : S) (read : List ℕ) (r s u w : Option (List ℕ)) → Consumes r s read
      → length read ≤ 4096 * turns → TakesLines {U = ℕ} goes none_waits (Err e) first last (lines_of read) u w
      → (trace : List Exchange) × Ran goes first last trace turns (Err e) r s u w
  Ran-lost WriterFailed turns first last read r s u w took few (trace, went, front) =
      (trace, record { read = read; took = took; few = few; whole = tt; in_turn = went; ends = front })
  Ran-lost OutOfMemory turns first last read r s u w took few (trace, went, never) = absurd never
  Ran-lost InputTooLong turns first last read r s u w took few (trace, went, never) = absurd never
  Ran-lost ReaderFailed turns first last read r s u w took few (trace, went, never) = absurd never
