-- Proofs, which stand here since an impl cites them: of commands that wait to be put together, and
-- what becomes of them when a later one is lost.
use Rattle.std.proofs.Common.{◌≡◌, ◌∙◌, ◌⊎◌, inl, inr, ℕ, true, false, List, [], ◌∷◌, ◌++◌, Option, Some, None, Result, Ok, Err, refl, sym, ap, subst, append_assoc}
use Rattle.std.specs.Prelude.{MatchOption, is_some}
use Rattle.std.proofs.lemmas.Bool.{true≢false}
use Rattle.store_disk.specs.declared.disk.Disk.{Ghosts}
use Rattle.store_project.specs.Calls.{PutsGroup}
use Rattle.store_project.specs.Groups.{CanPut, GroupState, Staged}
use Rattle.store_project.specs.States.{State}
use Rattle.store_project.specs.declared.error.ProjectError.TheVariants.{Device}
use Rattle.run_canvas.specs.Waiting.{AreWaiting, ChangesProject, Drawing, IsLostWith, IsStaged, IsUnchanged, Loses}

pub none_or_some : {X : Type 0} (o : Option X) (x : X) → o ≡ None
    → ◌≡◌ {A = Option X} o (Some x) → ⊥
none_or_some o x none some = absurd (true≢false (sym (ap is_some some) ∙ ap is_some none))

module _ {D : Type 0} (facts : Ghosts D) where
  -- nothing waits, so nothing is lost
  pub none_lost : (d last : Drawing D) → d.group ≡ None → Loses facts d last → ⊥
  none_lost d last none lost = none_or_some d.group lost.some.0 none lost.some.1

  pub no_group : (d : Drawing D) → d.group ≡ None → AreWaiting d []
  no_group d none = subst (λ (o : Option GroupState). MatchOption o (◌≡◌ {A = List Staged} [] [])
      (λ g. CanPut d.project g [])) (sym none) refl

  put_from : (a b : State D) (last : Drawing D) (front more all : List Staged) → a ≡ b
      → all ≡ front ++ more
      → PutsGroup facts a all (Err Device) last.project
      → PutsGroup facts b (front ++ more) (Err Device) last.project
  put_from a b last front more all same is put =
      subst (λ (s : State D). PutsGroup facts s (front ++ more) (Err Device) last.project) same
      (subst (λ (xs : List Staged). PutsGroup facts a xs (Err Device) last.project) is put)

  -- a command that waits behind others is lost with them
  lost_behind : (old new last : Drawing D) (line : List ℕ) (n : ℕ) (g : GroupState)
      → old.group ≡ Some g → new.holds_earlier ≡ old.holds_earlier
      → IsStaged old line n new → Loses facts new last → Loses facts old last
  lost_behind old new last line n g some earlier staged lost = record {
    some = (g, some);
    had = staged.had;
    put = λ front waits.
        let (more, put) = lost.put (front ++ record { line = line; number = n } ∷ [])
        (staged.waits front waits) in (
          record { line = line; number = n } ∷ more,
          put_from new.project old.project last front
              (record { line = line; number = n } ∷ more) _ staged.project (append_assoc front
              (record { line = line; number = n } ∷ []) more) put,
        );
    none = lost.none;
    lost = lost.lost ∙ earlier;
  }

  -- one that waits alone is lost with those behind it
  lost_first : (old new last : Drawing D) (line : List ℕ) (n : ℕ) → old.group ≡ None
      → new.holds_earlier ≡ false
      → IsStaged old line n new → Loses facts new last → IsLostWith facts old line last
  lost_first old new last line n none earlier staged lost =
      let (more, put) = lost.put (record { line = line; number = n } ∷ []) (staged.waits []
      (no_group old none)) in record {
        first = none;
        number = n;
        more = more;
        put = put_from new.project old.project last
            (record { line = line; number = n } ∷ []) more _ staged.project refl put;
        none = lost.none;
        lost = lost.lost ∙ earlier;
      }

  some_back : (old new : Drawing D) (o : Option GroupState) (g : GroupState) → old.group ≡ o
      → is_some new.group ≡ is_some old.group → new.group ≡ Some g
      → (h : GroupState) × (old.group ≡ Some h)
  some_back old new None g is both some = absurd (true≢false (sym
      (ap is_some some) ∙ both ∙ ap is_some is))
  some_back old new (Some h) g is both some = (h, is)

  pub lost_unchanged : (old new last : Drawing D) → IsUnchanged old new → Loses facts new last
      → Loses facts old last
  lost_unchanged old new last same lost = record {
    some = some_back old new old.group lost.some.0 refl same.both lost.some.1;
    had = same.had;
    put = λ front waits.
        let (more, put) = lost.put front (same.waits front waits) in
        (more, put_from new.project old.project last front more _ same.project refl put);
    none = lost.none;
    lost = lost.lost ∙ same.earlier;
  }

  staged_since : (old new last : Drawing D) (line : List ℕ) (n : ℕ) (o : Option GroupState)
      → old.group ≡ o → IsStaged old line n new → Loses facts new last
      → ((new.holds_earlier ≡ old.holds_earlier) × Loses facts old last)
      ⊎ ((new.holds_earlier ≡ false) × (old.is_alone ≡ false)
      × ChangesProject facts old line (Err 30) last)
  staged_since old new last line n None is staged lost =
      let earlier : new.holds_earlier ≡ false =
      subst (λ (o : Option GroupState). MatchOption o (new.holds_earlier ≡ false)
      (λ g. new.holds_earlier ≡ old.holds_earlier)) is staged.earlier in
      inr (
        earlier,
        staged.together,
        inr (inr (refl, lost_first old new last line n is earlier staged lost)),
      )
  staged_since old new last line n (Some g) is staged lost =
      let earlier : new.holds_earlier ≡ old.holds_earlier =
      subst (λ (o : Option GroupState). MatchOption o (new.holds_earlier ≡ false)
      (λ g. new.holds_earlier ≡ old.holds_earlier)) is staged.earlier in
      inl (earlier, lost_behind old new last line n g is earlier staged lost)

  pub lost_since : (old new last : Drawing D) (line : List ℕ) (outcome : Result ℕ ℕ)
      → ChangesProject facts old line outcome new → Loses facts new last
      → ((new.holds_earlier ≡ old.holds_earlier) × Loses facts old last)
      ⊎ ((new.holds_earlier ≡ false) × (old.is_alone ≡ false)
      × ChangesProject facts old line (Err 30) last)
  lost_since old new last line (Ok n)
      (inl staged) lost = staged_since old new last line n old.group refl staged lost
  lost_since old new last line (Err code) (inl (same, refused)) lost = inl
      (same.earlier, lost_unchanged old new last same lost)
  lost_since old new last line outcome (inr (inl (why, inl applied))) lost = absurd
      (none_lost new last applied.none lost)
  lost_since old new last line outcome (inr (inl (why, inr (is, gone)))) lost = absurd
      (none_lost new last gone.none lost)
  lost_since old new last line outcome (inr (inr (is, gone))) lost = absurd
      (none_lost new last gone.none lost)
