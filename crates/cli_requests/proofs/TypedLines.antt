-- What a session with a person has read, and which of its lines were answered.
use Rattle.std.proofs.Common.{◌≡◌, ◌∙◌, ◌<◌, ◌≤◌, inl, inr, ℕ, Bool, true, false, cond, List, [], ◌∷◌, ◌++◌, length, take, refl, sym, ap, subst, arith, append-nil, append_assoc}
use Rattle.std.specs.Prelude.{◌&&◌, ◌||◌, not, nat_eq, nat_le, nat_lt, Option, None, Some, Result, Ok, Err, MatchOption, MatchResult, bytes_eq, codes}
use Rattle.std.specs.List.{list_any, starts_with}
use Rattle.std.specs.Io.KnownBytes.{Appends, Consumes, IsAtEnd, Keeps}
use Rattle.std.proofs.lemmas.Bool.Decides.{nat_tests}
use Rattle.std.proofs.lemmas.Bool.{ltb-false, ltb-true}
use Rattle.std.proofs.lemmas.List.{take_all, length-take-le}
use Rattle.std.proofs.lemmas.List.Folds.{list_any-append}
use Rattle.run_edit.specs.Composing.{IsTrace-append}
use Rattle.run_edit.specs.Lines.{is_break, line_if_any, lines_of, unfinished, whole_lines}
use Rattle.run_edit.specs.Runs.{Exchange, IsTrace, TakesLines, lines_in, none_waits}
use Rattle.run_edit.specs.declared.error.EditorError.{EditorError}
use Rattle.run_edit.specs.declared.error.EditorError.TheVariants.{OutOfMemory, InputTooLong, ReaderFailed, WriterFailed}
use Rattle.run_edit.proofs.Cutting.{whole-append}
use Rattle.run_edit.proofs.Going.{Appends-keeps, Consumes-append, all_answered, unfinished-at, whole-at}
use Rattle.run_edit.proofs.LongLines.{bytes-differ}
use Rattle.cli_requests.specs.Typing.{RepliesTyped, Typed, asks_help, quits, longest_input, but_help}

-- ---- A long line is told by its front

and_none : (s t : Bool) → s ≡ false → (s && t) ≡ false
and_none s t e = ap (λ (u : Bool). u && t) e

pub or_none : (s t : Bool) → s ≡ false → t ≡ false → (s || t) ≡ false
or_none s t e f = ap (λ (u : Bool). u || t) e ∙ f

pub or_left : (s t : Bool) → (s || t) ≡ false → s ≡ false
or_left true t e = e
or_left false t e = refl

quits_long : (line : List ℕ) → 256 < length line → quits line ≡ false
quits_long line long =
    let quit : length (codes "quit") ≡ 4 = refl in
    let exit : length (codes "exit") ≡ 4 = refl in
    or_none (bytes_eq line (codes "quit")) (bytes_eq line (codes "exit")) (bytes-differ line (codes "quit") (omega (arith, long, quit)))
    (bytes-differ line (codes "exit") (omega (arith, long, exit)))

help_long : (line : List ℕ) → 256 < length line → asks_help line ≡ false
help_long line long =
    let none : nat_le (length line) 256 ≡ false = grind (arith, nat_tests) in
    and_none (nat_le (length line) 256) (bytes_eq line (codes "help") || starts_with nat_eq line (codes "help ")) none

-- a test that no long line passes
front_tells : (test : List ℕ → Bool) → ((line : List ℕ) → 256 < length line → test line ≡ false) → (line : List ℕ) → test (take 257 line) ≡ test line
front_tells test none line = go (nat_lt 257 (length line)) refl
  where
    go : (t : Bool) → nat_lt 257 (length line) ≡ t → test (take 257 line) ≡ test line
    go false e = ap test (take_all 257 line (ltb-false 257 (length line) e))
    go true e =
        let long : 257 < length line = ltb-true 257 (length line) e in
        let front : length (take 257 line) ≡ 257 = length-take-le 257 line (omega arith) in
        none (take 257 line) (omega arith) ∙ sym (none line (omega arith))

pub quits-front : (line : List ℕ) → quits (take 257 line) ≡ quits line
quits-front line = front_tells quits quits_long line

pub help-front : (line : List ℕ) → asks_help (take 257 line) ≡ asks_help line
help-front line = front_tells asks_help help_long line

-- ---- What was written and read

pub consumes_none : (a : Option (List ℕ)) → Consumes a a []
consumes_none None = tt
consumes_none (Some x) = refl

-- nothing more was read
pub same_bytes : (a b c : Option (List ℕ)) (read : List ℕ) → Consumes a b read → Consumes b c [] → Consumes a c read
same_bytes a b c read p q = rw append-nil at (Consumes-append a b c read [] p q)

-- a text that was written is handed on, or it isn't
pub then_kept : {U E : Type 0} (r : Result U E) (P : E → Type 0) (a b c : Option (List ℕ)) (text : List ℕ) → Appends a b text → MatchResult r (λ _. Keeps b c) P
    → MatchResult r (λ _. Appends a c text) P
then_kept (Ok x) P a b c text wrote keeps = Appends-keeps a b c text wrote keeps
then_kept (Err e) P a b c text wrote failed = failed

-- what a read gave, if it gave a byte, and if it gave none
abbrev Gives : Option (List ℕ) → Option (List ℕ) → Option ℕ → Type 0
Gives r s o = MatchOption o (Consumes r s [] × IsAtEnd s) (λ b. Consumes r s (b ∷ []))

pub given_some : (o : Option ℕ) (b : ℕ) (r s : Option (List ℕ)) → o ≡ Some b → Gives r s o → Consumes r s (b ∷ [])
given_some o b r s is told = subst (Gives r s) is told

pub given_none : (o : Option ℕ) (r s : Option (List ℕ)) → o ≡ None → Gives r s o → Consumes r s [] × IsAtEnd s
given_none o r s is told = subst (Gives r s) is told

-- ---- The lines of some bytes

pub any_end : (part : List ℕ) → quits part ≡ false → list_any quits (line_if_any part) ≡ false
any_end [] is = refl
any_end (b ∷ bs) is = or_none (quits (b ∷ bs)) false is refl

pub last_some : (part : List ℕ) → quits part ≡ true → line_if_any part ≡ part ∷ []
last_some [] is = cc
last_some (b ∷ bs) is = refl

-- none of the lines up to the end of the input quits
pub none_quits : (read : List ℕ) → list_any quits (whole_lines read) ≡ false → quits (unfinished read) ≡ false → list_any quits (lines_of read) ≡ false
none_quits read on last =
    list_any-append quits (whole_lines read) (line_if_any (unfinished read))
    ∙ or_none (list_any quits (whole_lines read)) (list_any quits (line_if_any (unfinished read))) on (any_end (unfinished read) last)

-- one more byte
pub none_more : (read : List ℕ) (b : ℕ) → list_any quits (whole_lines read) ≡ false → list_any quits (whole_lines (unfinished read ++ b ∷ [])) ≡ false
    → list_any quits (whole_lines (read ++ b ∷ [])) ≡ false
none_more read b on more =
    ap (list_any quits) (whole-append read (b ∷ [])) ∙ list_any-append quits (whole_lines read) (whole_lines (unfinished read ++ b ∷ []))
    ∙ or_none (list_any quits (whole_lines read)) (list_any quits (whole_lines (unfinished read ++ b ∷ []))) on more

-- the lines of bytes that a LF ends
pub lines-at : (read : List ℕ) (b : ℕ) → b ≡ 10 → list_any is_break (unfinished read) ≡ false → lines_of (read ++ b ∷ []) ≡ whole_lines read ++ unfinished read ∷ []
lines-at read b lf alone =
    ap (λ (z : List ℕ). whole_lines (read ++ b ∷ []) ++ line_if_any z) (unfinished-at read b lf) ∙ append-nil (whole_lines (read ++ b ∷ []))
    ∙ whole-append read (b ∷ []) ∙ ap (λ (z : List (List ℕ)). whole_lines read ++ z) (whole-at (unfinished read) b lf alone)

module _ {S : Type 0} (answers : S → List ℕ → List ℕ → S → Type 0) where
  -- ---- The lines that were answered

  pub answered : (trace : List Exchange) (first last : S) → IsTrace (RepliesTyped answers) first trace last → IsTrace answers first (but_help trace) last
  answered [] first last same = same
  answered (e ∷ trace) first last (mid, told, rest) = go (asks_help e.line) refl (answered trace mid last rest)
    where
      go : (t : Bool) → asks_help e.line ≡ t → IsTrace answers mid (but_help trace) last
          → IsTrace answers first (cond (not (asks_help e.line)) (e ∷ but_help trace) (but_help trace)) last
      go true is after =
          subst (λ (t : Bool). IsTrace answers first (cond (not t) (e ∷ but_help trace) (but_help trace)) last) (sym is)
          (subst (λ (s : S). IsTrace answers s (but_help trace) last) (told.0 is) after)
      go false is after =
          subst (λ (t : Bool). IsTrace answers first (cond (not t) (e ∷ but_help trace) (but_help trace)) last) (sym is)
          (mid, told.1 is, after)

  -- ---- How a session ends

  -- at the end of the input
  pub ended : (x : Unit {0}) (first last : S) (read : List ℕ) (r s u w : Option (List ℕ)) → Consumes r s read → length read ≤ longest_input → IsAtEnd s → list_any quits (lines_of read) ≡ false
      → TakesLines {U = Unit {0}} (IsTrace (RepliesTyped answers)) none_waits (Ok x) first last (lines_of read) u w
      → (trace : List Exchange) × Typed answers first last trace (Ok x) r s u w
  ended x first last read r s u w took few at_end none (trace, went, (left, waits, is, wrote)) =
      let all = all_answered (IsTrace (RepliesTyped answers)) (IsTrace-append (RepliesTyped answers)) trace (lines_of read) left u w waits is wrote in (
        trace,
        record {
          read = read;
          took = took;
          few = few;
          in_turn = answered trace first last went;
          stays = ap (list_any quits) all.asked ∙ none;
          ends = inl (at_end, all);
        },
      )

  -- by its last line
  pub left_by : (first last : S) (read line : List ℕ) (before : List (List ℕ)) (n : ℕ) (r s u w : Option (List ℕ)) → Consumes r s read → length read ≤ longest_input → quits line ≡ true
      → lines_of read ≡ before ++ line ∷ [] → list_any quits before ≡ false
      → TakesLines (IsTrace (RepliesTyped answers)) none_waits (Ok n) first last before u w
      → (trace : List Exchange) × Typed answers first last trace (Ok (tt {0})) r s u w
  left_by first last read line before n r s u w took few leaving lines none (trace, went, (behind, waits, is, wrote)) =
      let all = all_answered (IsTrace (RepliesTyped answers)) (IsTrace-append (RepliesTyped answers)) trace before behind u w waits is wrote in (
        trace,
        record {
          read = read;
          took = took;
          few = few;
          in_turn = answered trace first last went;
          stays = ap (list_any quits) all.asked ∙ none;
          ends = inr (line, leaving, lines ∙ ap (λ (z : List (List ℕ)). z ++ line ∷ []) (sym all.asked), wrote);
        },
      )

  -- where the reader failed
  pub cut : (first last : S) (read : List ℕ) (n : ℕ) (r s u w : Option (List ℕ)) → Consumes r s read → length read ≤ longest_input → list_any quits (whole_lines read) ≡ false
      → TakesLines (IsTrace (RepliesTyped answers)) none_waits (Ok n) first last (whole_lines read) u w
      → (trace : List Exchange) × Typed answers first last trace (Err ReaderFailed) r s u w
  cut first last read n r s u w took few none (trace, went, (left, waits, is, wrote)) =
      let all = all_answered (IsTrace (RepliesTyped answers)) (IsTrace-append (RepliesTyped answers)) trace (whole_lines read) left u w waits is wrote in (
        trace,
        record {
          read = read;
          took = took;
          few = few;
          in_turn = answered trace first last went;
          stays = ap (list_any quits) all.asked ∙ none;
          ends = all;
        },
      )

  -- where the bytes were too many
  pub long : (first last : S) (read : List ℕ) (n : ℕ) (r s u w : Option (List ℕ)) → Consumes r s read → length read ≡ longest_input → list_any quits (whole_lines read) ≡ false
      → TakesLines (IsTrace (RepliesTyped answers)) none_waits (Ok n) first last (whole_lines read) u w
      → (trace : List Exchange) × Typed answers first last trace (Err InputTooLong) r s u w
  long first last read n r s u w took many none (trace, went, (left, waits, is, wrote)) =
      let all = all_answered (IsTrace (RepliesTyped answers)) (IsTrace-append (RepliesTyped answers)) trace (whole_lines read) left u w waits is wrote in (
        trace,
        record {
          read = read;
          took = took;
          few = omega (arith, many);
          in_turn = answered trace first last went;
          stays = ap (list_any quits) all.asked ∙ none;
          ends = (omega (arith, many), all);
        },
      )

  -- where the writer failed after some of these lines, with more behind them
  pub lost : (e : EditorError) (first last : S) (read : List ℕ) (lines more : List (List ℕ)) (r s u w : Option (List ℕ)) → Consumes r s read → length read ≤ longest_input
      → lines_of read ≡ lines ++ more → list_any quits lines ≡ false
      → TakesLines {U = Unit {0}} (IsTrace (RepliesTyped answers)) none_waits (Err e) first last lines u w
      → (trace : List Exchange) × Typed answers first last trace (Err e) r s u w
  lost WriterFailed first last read lines more r s u w took few all none (trace, went, (back, is)) = (
    trace,
    record {
      read = read;
      took = took;
      few = few;
      in_turn = answered trace first last went;
      stays =
          or_left (list_any quits (lines_in trace)) (list_any quits back)
          (sym (list_any-append quits (lines_in trace) back) ∙ ap (list_any quits) (sym is) ∙ none);
      ends = (back ++ more, all ∙ ap (λ (z : List (List ℕ)). z ++ more) is ∙ append_assoc (lines_in trace) back more);
    },
  )
  lost OutOfMemory first last read lines more r s u w took few all none (trace, went, never) = absurd never
  lost InputTooLong first last read lines more r s u w took few all none (trace, went, never) = absurd never
  lost ReaderFailed first last read lines more r s u w took few all none (trace, went, never) = absurd never

  -- at the end of the input, if the writer takes the last text
  pub finished : (result : Result (Unit {0}) EditorError) (first last : S) (read : List ℕ) (r s u w : Option (List ℕ)) → Consumes r s read → length read ≤ longest_input → IsAtEnd s
      → list_any quits (lines_of read) ≡ false → TakesLines (IsTrace (RepliesTyped answers)) none_waits result first last (lines_of read) u w
      → (trace : List Exchange) × Typed answers first last trace result r s u w
  finished (Ok x) first last read r s u w took few at_end none taken = ended x first last read r s u w took few at_end none taken
  finished (Err e) first last read r s u w took few at_end none taken =
      lost e first last read (lines_of read) [] r s u w took few (sym (append-nil (lines_of read))) none taken
