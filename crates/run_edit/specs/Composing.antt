-- What the laws of a session say: of no line, and of some lines with more behind them.
use Rattle.std.proofs.Common.{◌≡◌, ◌∙◌, inl, inr, true, false, ℕ, List, [], ◌∷◌, ◌++◌, refl, sym, ap, subst, append_assoc}
use Rattle.std.specs.Prelude.{All}
use Rattle.std.proofs.lemmas.Bool.{cases_Bool, true≢false}
use Rattle.std.proofs.lemmas.List.Elements.{All-nil, All-append}
use Rattle.store_disk.specs.Stops.{Each}
use Rattle.store_disk.specs.declared.disk.Disk.{Ghosts}
use Rattle.map_tables.specs.Projects.{project_of}
use Rattle.store_project.specs.Calls.{AllMade, ProjectCall}
use Rattle.store_project.specs.States.{State}
use Rattle.run_edit.specs.Editing.{told_of}
use Rattle.run_edit.specs.Runs.{Exchange, IsTrace, lines_in, output_of}
use Rattle.run_edit.specs.Sessions.{AllReopen, AreAmong, AreCalls, GoesOver, IsInDoubt, IsOutcomeOfAll, MakesNoCall}
use Rattle.run_edit.specs.Told.{RepliesTold}

-- ---- Traces

pub lines_in-append : (xs ys : List Exchange) → lines_in (xs ++ ys) ≡ lines_in xs ++ lines_in ys
lines_in-append [] ys = refl
lines_in-append (x ∷ xs) ys = ap (λ (z : List (List ℕ)). x.line ∷ z) (lines_in-append xs ys)

pub output_of-append : (xs ys : List Exchange) → output_of (xs ++ ys) ≡ output_of xs ++ output_of ys
output_of-append [] ys = refl
output_of-append (x ∷ xs) ys = ap (λ (z : List ℕ). x.text ++ z) (output_of-append xs ys)
    ∙ sym (append_assoc x.text (output_of xs) (output_of ys))

pub IsTrace-append : {S : Type 0} (answers : S → List ℕ → List ℕ → S
    → Type 0) (a b c : S) (xs ys : List Exchange) → IsTrace answers a xs b → IsTrace answers b ys c
    → IsTrace answers a (xs ++ ys) c
IsTrace-append {S = S} answers a b c [] ys e q = subst (λ (from : S). IsTrace answers from ys c) e q
IsTrace-append answers a b c (x ∷ xs) ys (mid, told, others) q =
    (mid, told, IsTrace-append answers mid b c xs ys others q)

-- ---- The calls

quiet_then : (quiet ys its rest : List Exchange) → ys ≡ quiet ++ (its ++ rest)
    → (xs : List Exchange) → xs ++ ys ≡ (xs ++ quiet) ++ (its ++ rest)
quiet_then quiet ys its rest is xs = ap (λ (z : List Exchange). xs ++ z) is
    ∙ sym (append_assoc xs quiet (its ++ rest))

call_then : (quiet its rest ys : List Exchange)
    → (quiet ++ (its ++ rest)) ++ ys ≡ quiet ++ (its ++ (rest ++ ys))
call_then quiet its rest ys = append_assoc quiet (its ++ rest) ys
    ∙ ap (λ (z : List Exchange). quiet ++ z) (append_assoc its rest ys)

pub are_behind : (xs ys : List Exchange) (calls more : List ProjectCall) → AreCalls xs calls
    → AreCalls ys more → AreCalls (xs ++ ys) (calls ++ more)
are_behind xs ys [] [] all more = All-append MakesNoCall xs ys all more
are_behind xs ys [] (call ∷ more) all (quiet, its, rest, is, none, made, others) = (
  xs ++ quiet,
  its,
  rest,
  quiet_then quiet ys its rest is xs,
  All-append MakesNoCall xs quiet all none,
  made,
  others,
)
are_behind xs ys (call ∷ calls) more (quiet, its, rest, is, none, made, others) behind = (
  quiet,
  its,
  rest ++ ys,
  ap (λ (z : List Exchange). z ++ ys) is
      ∙ call_then quiet its rest ys,
  none,
  made,
  are_behind rest ys calls more others behind,
)

-- ---- A project that must be opened again

reopen_behind : (xs ys : List Exchange) → AllReopen xs → AllReopen ys → AllReopen (xs ++ ys)
reopen_behind [] ys none more = more
reopen_behind (x ∷ xs) ys (is, all) more = (is, reopen_behind xs ys all more)

among_behind : (lines all others : List (List ℕ)) → AreAmong lines all
    → AreAmong lines (all ++ others)
among_behind [] all others is = tt
among_behind (line ∷ lines) [] others is = absurd is
among_behind (line ∷ lines) (other ∷ all) others (inl (same, rest)) = inl
    (same, among_behind lines all others rest)
among_behind (line ∷ lines) (other ∷ all) others (inr rest) = inr (among_behind
    (line ∷ lines) all others rest)

module _ {D : Type 0} (facts : Ghosts D) where
  pub go_behind : (xs ys : List ProjectCall) (old mid new : State D) → AllMade facts old xs mid
      → AllMade facts mid ys new → AllMade facts old (xs ++ ys) new
  go_behind [] ys old mid new same more = subst (λ (s : State D). AllMade facts s ys new) same more
  go_behind (x ∷ xs) ys old mid new (next, made, rest) more =
      (next, made, go_behind xs ys next mid new rest more)

  doubt_then : (xs ys : List Exchange) (mid new : State D) → new ≡ mid → IsInDoubt facts xs mid
      → AllReopen ys → IsInDoubt facts (xs ++ ys) new
  doubt_then xs ys mid new same doubt all = record {
    front = doubt.front;
    faulted = doubt.faulted;
    back = doubt.back ++ ys;
    split = ap (λ (z : List Exchange). z ++ ys) doubt.split
        ∙ append_assoc doubt.front (doubt.faulted ∷ doubt.back) ys;
    answered = doubt.answered;
    behind = reopen_behind doubt.back ys doubt.behind all;
    more = doubt.more;
    among = subst (λ (z : List (List ℕ)). AreAmong doubt.more z) (sym
        (lines_in-append doubt.back ys)) (among_behind doubt.more (lines_in doubt.back)
        (lines_in ys) doubt.among);
    images = subst (λ (s : State D). Each (facts.may_leave s.disk) (IsOutcomeOfAll s.cap
        (project_of s.maps) (doubt.faulted.line ∷ doubt.more))) (sym same) doubt.images;
  }

  doubt_behind : (xs ys : List Exchange) (new : State D) → IsInDoubt facts ys new
      → IsInDoubt facts (xs ++ ys) new
  doubt_behind xs ys new doubt = record {
    front = xs ++ doubt.front;
    faulted = doubt.faulted;
    back = doubt.back;
    split = ap (λ (z : List Exchange). xs ++ z) doubt.split
        ∙ sym (append_assoc xs doubt.front (doubt.faulted ∷ doubt.back));
    answered = doubt.answered;
    behind = doubt.behind;
    more = doubt.more;
    among = doubt.among;
    images = doubt.images;
  }

  pub goes_none : (s : State D) → GoesOver facts s [] s
  goes_none s = record {
    told = refl;
    calls = [];
    are = All-nil MakesNoCall;
    made = refl;
    kept = λ kept. kept;
    in_doubt = λ ready reopen. absurd (true≢false (sym reopen ∙ ready));
    reopen = λ reopen. (refl, tt);
  }

  pub goes_behind : (old mid new : State D) (xs ys : List Exchange) → GoesOver facts old xs mid
      → GoesOver facts mid ys new → GoesOver facts old (xs ++ ys) new
  goes_behind old mid new xs ys p q = record {
    told = IsTrace-append RepliesTold (told_of old) (told_of mid) (told_of new) xs ys p.told q.told;
    calls = p.calls ++ q.calls;
    are = are_behind xs ys p.calls q.calls p.are q.are;
    made = go_behind p.calls q.calls old mid new p.made q.made;
    kept = λ kept. q.kept (p.kept kept);
    in_doubt = λ ready reopen.
        elim (cases_Bool mid.must_reopen) [
          | inl at ↦ (let stays = q.reopen at in doubt_then xs ys mid new stays.0
              (p.in_doubt ready at) stays.1)
          | inr still ↦ doubt_behind xs ys new (q.in_doubt still reopen)
        ];
    reopen = λ reopen.
        let first = p.reopen reopen in
        let then = q.reopen (ap (λ (s : State D). s.must_reopen) first.0 ∙ reopen) in
        (then.0 ∙ first.0, reopen_behind xs ys first.1 then.1);
  }
