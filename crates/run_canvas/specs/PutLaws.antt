-- Proofs, which stand here since an impl cites them: the laws of a project with commands that wait,
-- what is lost within a line, what a query leaves, and what is put.
use Rattle.std.proofs.Common.{◌≡◌, ◌∙◌, ◌⊎◌, inl, inr, ℕ, Bool, true, false, List, Option, Some, None, Result, Ok, Err, refl, sym, ap, subst}
use Rattle.std.specs.Prelude.{MatchOption, is_some}
use Rattle.std.specs.Io.KnownBytes.{Keeps}
use Rattle.std.proofs.lemmas.Bool.{true≢false}
use Rattle.store_disk.specs.declared.disk.Disk.{Ghosts}
use Rattle.store_project.specs.Calls.{PutsGroup}
use Rattle.store_project.specs.Groups.{CanPut, GroupState, Staged}
use Rattle.store_project.specs.States.{State}
use Rattle.run_canvas.specs.Canvases.{TellsBehind}
use Rattle.run_canvas.specs.LossLaws.{none_lost, none_or_some}
use Rattle.run_canvas.specs.Waiting.{BeginsLine, ChangesProject, Drawing, Loses, Settles, drawn_maps}

module _ {D : Type 0} (facts : Ghosts D) where
  err_is : (a b : ℕ) → ◌≡◌ {A = Result ℕ ℕ} (Err a) (Err b) → a ≡ b
  err_is a b is = cc

  not_ok : (n code : ℕ) → ◌≡◌ {A = Result ℕ ℕ} (Ok n) (Err code) → ⊥
  not_ok n code is = cc

  pub lost_within : (old new : Drawing D) (line : List ℕ) (code : ℕ)
      → ChangesProject facts old line (Err code) new → new.has_lost ≡ true
      → (old.has_lost ≡ true) ⊎ ((code ≡ 30) × (old.holds_earlier ≡ true) × Loses facts old new)
  lost_within old new line code (inl (same, refused)) is = inl (sym same.flags.lost ∙ is)
  lost_within old new line code (inr (inl (why, inl applied))) is = inl
      (sym applied.flags.lost ∙ is)
  lost_within old new line code (inr (inl (why, inr (err, gone)))) is = inr
      (err_is code 30 err, sym gone.lost ∙ is, gone)
  lost_within old new line code (inr (inr (err, gone))) is = absurd (true≢false
      (sym is ∙ gone.lost))

  pub alone_stays : (old new : Drawing D) (line : List ℕ) (n : ℕ)
      → ChangesProject facts old line (Ok n) new
      → (new.is_alone ≡ old.is_alone) × (new.has_lost ≡ old.has_lost)
  alone_stays old new line n (inl staged) = (staged.flags.alone, staged.flags.lost)
  alone_stays old new line n (inr (inl (why, inl applied))) =
      (applied.flags.alone, applied.flags.lost)
  alone_stays old new line n (inr (inl (why, inr (is, gone)))) = absurd (not_ok n 30 is)
  alone_stays old new line n (inr (inr (is, gone))) = absurd (not_ok n 30 is)

  pub nothing_told : (old new last : Drawing D) (line : List ℕ) (refusal : Option ℕ) (u w : Option
      (List ℕ)) → TellsBehind facts old line refusal new u w
      → ¬ Loses facts new last
  nothing_told old new last line refusal u w (inl
      (settled, same, told)) = λ lost. none_lost facts new last settled.none lost
  nothing_told old new last line refusal u w (inr
      (is, gone, kept)) = λ lost. none_lost facts new last gone.none lost

  some_is : (a b : ℕ) → ◌≡◌ {A = Option ℕ} (Some a) (Some b) → a ≡ b
  some_is a b is = cc

  pub lost_told : (old new : Drawing D) (line : List ℕ) (code : ℕ) (u w : Option (List ℕ))
      → TellsBehind facts old line (Some code) new u w → new.has_lost ≡ true
      → (old.has_lost ≡ true) ⊎ ((code ≡ 30) × (old.holds_earlier ≡ true) × Loses facts old new
      × Keeps u w)
  lost_told old new line code u w (inl (settled, same, told)) is = inl (sym same ∙ is)
  lost_told old new line code u w (inr (err, gone, kept)) is = inr
      (some_is code 30 err, sym gone.lost ∙ is, gone, kept)

  settle_again : (old mid new : Drawing D) (o : Option GroupState) → old.group ≡ o
      → new.project ≡ mid.project → Settles facts old mid
      → MatchOption o (new.project ≡ old.project) (λ g. (staged : List Staged)
      → CanPut old.project g staged → PutsGroup facts old.project staged (Ok tt) new.project)
  settle_again old mid new None is same settled =
      same ∙ subst (λ (o : Option GroupState). MatchOption o (mid.project ≡ old.project)
      (λ g. (staged : List Staged) → CanPut old.project g staged
      → PutsGroup facts old.project staged (Ok tt) mid.project)) is settled.put
  settle_again old mid new (Some g) is same settled =
      λ staged can. subst (λ (s : State D). PutsGroup facts old.project staged (Ok tt) s) (sym same)
      (subst (λ (o : Option GroupState). MatchOption o (mid.project ≡ old.project)
      (λ g. (staged : List Staged) → CanPut old.project g staged
      → PutsGroup facts old.project staged (Ok tt) mid.project)) is settled.put staged can)

  pub settled_same : (mid new : Drawing D) → mid.group ≡ None → Settles facts mid new
      → new.project ≡ mid.project
  settled_same mid new none settled =
      subst (λ (o : Option GroupState). MatchOption o (new.project ≡ mid.project)
      (λ g. (staged : List Staged) → CanPut mid.project g staged
      → PutsGroup facts mid.project staged (Ok tt) new.project)) none settled.put

  pub settled_again : (old mid new : Drawing D) → Settles facts old mid → Settles facts mid new
      → Settles facts old new
  settled_again old mid new first then = record {
    none = then.none;
    maps = then.maps ∙ first.maps;
    put = settle_again old mid new old.group refl (settled_same mid new first.none then) first;
  }

  -- nothing waits, so that all is put
  pub settled_none : (d last : Drawing D) → last.project ≡ d.project → last.group ≡ None
      → d.group ≡ None → drawn_maps last ≡ drawn_maps d → Settles facts d last
  settled_none d last same none before maps = record {
    none = none;
    maps = maps;
    put = subst (λ (o : Option GroupState). MatchOption o (last.project ≡ d.project)
        (λ g. (staged : List Staged) → CanPut d.project g staged
        → PutsGroup facts d.project staged (Ok tt) last.project)) (sym before) same;
  }

  pub lost_settled : (old new : Drawing D) → Loses facts old new → Settles facts new new
  lost_settled old new gone = settled_none new new refl gone.none gone.none refl

  -- a drawing as it is when a line is begun
  abbrev at_line : Drawing D → Bool → Drawing D
  at_line mid alone = record {
    project = mid.project;
    group = mid.group;
    has_spare = mid.has_spare;
    is_alone = alone;
    holds_earlier = is_some mid.group;
    has_lost = false;
  }

  abbrev WaitedBefore : Drawing D → Drawing D → Type 0
  WaitedBefore old new = (last : Drawing D) → Loses facts new last → (new.holds_earlier ≡ true)
      × ((other : Drawing D) × Loses facts old other × Settles facts other last)

  waited_same : (old : Drawing D) (alone : Bool) → WaitedBefore old (at_line old alone)
  waited_same old alone last lost =
      let other : Drawing D = record {
        project = last.project;
        group = last.group;
        has_spare = last.has_spare;
        is_alone =
            last.is_alone;
        holds_earlier = last.holds_earlier;
        has_lost = old.holds_earlier;
      } in
      let gone : Loses facts old other = record {
        some = lost.some;
        had = lost.had;
        put = lost.put;
        none = lost.none;
        lost = refl;
      } in
      (ap is_some lost.some.1, (other, gone, settled_none other last refl lost.none lost.none refl))

  waited_at : (old mid : Drawing D) (alone : Bool) → (mid ≡ old) ⊎ Settles facts old mid
      → WaitedBefore old (at_line mid alone)
  waited_at old mid alone (inl same) = subst (λ (d : Drawing D). WaitedBefore d
      (at_line mid alone)) same (waited_same mid alone)
  waited_at old mid alone (inr settled) = λ last lost. absurd
      (none_or_some mid.group lost.some.0 settled.none lost.some.1)

  pub waited_before : (old new : Drawing D) (alone : Bool) → BeginsLine facts old alone new
      → (new.has_lost ≡ false) × (new.is_alone ≡ false → alone ≡ false) × WaitedBefore old new
  waited_before old new alone begun = (
    ap (λ (d : Drawing D). d.has_lost) begun.is,
    λ together. sym (ap (λ (d : Drawing D). d.is_alone) begun.is) ∙ together,
    subst (λ (d : Drawing D). WaitedBefore old d) (sym begun.is)
        (waited_at old begun.mid alone begun.settled),
  )
