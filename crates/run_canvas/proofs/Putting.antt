-- How commands come to wait, and how they are put.
use Rattle.std.proofs.Common.{◌≡◌, ◌∙◌, ◌⊎◌, inl, inr, ℕ, true, false, List, [], ◌∷◌, ◌++◌, Option, Some, None, Result, Ok, Err, refl, sym, ap, subst, append-nil}
use Rattle.std.specs.Prelude.{MatchOption, is_some}
use Rattle.std.proofs.lemmas.Bool.{true≢false}
use Rattle.store_disk.specs.Moments.{LeavesOnly}
use Rattle.store_disk.specs.declared.disk.Disk.{Ghosts}
use Rattle.map_tables.specs.Projects.{ProjectMaps, project_of}
use Rattle.map_commands.specs.ProjectLines.{Accepts}
use Rattle.store_project.specs.Calls.{PutsGroup}
use Rattle.store_project.specs.Groups.{CanPut, EndsPut, EndsStage, GroupState, IsGroupFor, RefusesToPut, Staged}
use Rattle.store_project.specs.Stands.{StandsForEither}
use Rattle.store_project.specs.States.{IsProjectKept, State}
use Rattle.store_project.specs.declared.error.ProjectError.{ProjectError}
use Rattle.store_project.specs.declared.error.ProjectError.TheVariants.{Device, OutOfMemory, Reopen, GenerationsSpent, Refused, Damaged, Blank, NotAProject, NotEmpty, BadGeometry}
use Rattle.run_canvas.specs.Waiting.{AreFlagsKept, CannotWait, ChangesProject, Drawing, IsApplied, IsStaged, IsUnchanged, Loses, Settles, AreWaiting, drawn_maps, maps_behind}
use Rattle.run_canvas.specs.LossLaws.{lost_unchanged}
use Rattle.run_canvas.specs.Rooms.{BeginsGroup, ClearsJournal, MakesRoom, PutsBefore, TurnsFor}

module _ {D : Type 0} (facts : Ghosts D) where
  is_device : (e : ProjectError) (old new : State D) → RefusesToPut facts e old new → old.must_reopen ≡ false → e ≡ Device
  is_device Device old new refused ready = refl
  is_device Reopen old new (reopen, same) ready = absurd (true≢false (sym reopen ∙ ready))
  is_device OutOfMemory old new never ready = absurd never
  is_device GenerationsSpent old new never ready = absurd never
  is_device (Refused e) old new never ready = absurd never
  is_device (Damaged place) old new never ready = absurd never
  is_device Blank old new never ready = absurd never
  is_device NotAProject old new never ready = absurd never
  is_device NotEmpty old new never ready = absurd never
  is_device BadGeometry old new never ready = absurd never

  can_in : (d : Drawing D) (g : GroupState) (staged : List Staged) → d.group ≡ Some g → AreWaiting d staged → CanPut d.project g staged
  can_in d g staged some waits =
      subst (λ (o : Option GroupState). MatchOption o (staged ≡ []) (λ g. CanPut d.project g staged)) some waits

  waits_in : (d : Drawing D) (g : GroupState) (staged : List Staged) → d.group ≡ Some g → CanPut d.project g staged → AreWaiting d staged
  waits_in d g staged some can =
      subst (λ (o : Option GroupState). MatchOption o (staged ≡ []) (λ g. CanPut d.project g staged)) (sym some) can

  -- a group that was put in vain
  pub put_lost : (old new : Drawing D) (g : GroupState) (e : ProjectError) → old.group ≡ Some g → IsGroupFor old.project g × (old.project.must_reopen ≡ false)
      → EndsPut {T = Unit {0}} facts (Err e) old.project new.project (project_of g.maps)
      → (old.project.must_reopen ≡ false → LeavesOnly facts old.project.disk new.project.disk (StandsForEither old.project.cap (project_of old.project.maps) (project_of g.maps)))
      → IsProjectKept facts new.project → new.project.cap ≡ old.project.cap → new.group ≡ None → new.has_lost ≡ old.holds_earlier → Loses facts old new
  put_lost old new g e some ((staged, can), ready) (maps, refused) moment kept cap none lost =
      let device : e ≡ Device = is_device e old.project new.project refused ready in record {
        some = (g, some);
        had = (staged, waits_in old g staged some can);
        put = λ front waits.
            let all : PutsGroup facts old.project front (Err Device) new.project = record {
              after = project_of g.maps;
              accepted = (can_in old g front some waits).accepted;
              ends = (maps, subst (λ (x : ProjectError). RefusesToPut facts x old.project new.project) device refused);
              any_moment = moment;
              kept = kept;
              same_cap = cap;
            } in
            ([], subst (λ (xs : List Staged). PutsGroup facts old.project xs (Err Device) new.project) (sym (append-nil front)) all);
        none = none;
        lost = lost;
      }

  -- the first command of a group
  pub first_staged : (old new : Drawing D) (first : GroupState) (g : GroupState) (line : List ℕ) (n : ℕ) → old.is_alone ≡ false → old.project.must_reopen ≡ false → old.group ≡ None
      → CanPut old.project first [] → EndsStage old.project (Ok (Some n)) first g line → CanPut old.project g (record { line = line; number = n } ∷ [])
      → new.project ≡ old.project → new.group ≡ Some g → new.holds_earlier ≡ false → AreFlagsKept old new → IsStaged old line n new
  first_staged old new first g line n together ready none began (room, accepts) can project some earlier flags =
      let before : drawn_maps old ≡ project_of old.project.maps = ap (λ (o : Option GroupState). maps_behind old.project o) none in
      let after : drawn_maps new ≡ project_of g.maps = ap (λ (o : Option GroupState). maps_behind new.project o) some in record {
        together = together;
        ready = ready;
        project = project;
        accepts = subst (λ (p : ProjectMaps). Accepts old.project.cap p line (drawn_maps new) n) (began.accepted ∙ sym before)
            (subst (λ (p : ProjectMaps). Accepts old.project.cap (project_of first.maps) line p n) (sym after) accepts);
        had = ([], subst (λ (o : Option GroupState). MatchOption o (◌≡◌ {A = List Staged} [] []) (λ g. CanPut old.project g [])) (sym none) refl);
        waits = λ staged waits.
            let nothing : staged ≡ [] = subst (λ (o : Option GroupState). MatchOption o (staged ≡ []) (λ g. CanPut old.project g staged)) none waits in
            waits_in new g (staged ++ record { line = line; number = n } ∷ []) some
            (subst (λ (s : State D). CanPut s g (staged ++ record { line = line; number = n } ∷ [])) (sym project)
            (subst (λ (xs : List Staged). CanPut old.project g (xs ++ record { line = line; number = n } ∷ [])) (sym nothing) can));
        earlier = subst (λ (o : Option GroupState). MatchOption o (new.holds_earlier ≡ false) (λ g. new.holds_earlier ≡ old.holds_earlier)) (sym none) earlier;
        flags = flags;
      }

  -- ---- A line that is put by itself behind those that wait

  none_back : (a b : Option GroupState) → a ≡ None → is_some b ≡ is_some a → b ≡ None
  none_back a None none both = refl
  none_back a (Some g) none both = absurd (true≢false (both ∙ ap is_some none))

  some_on : (a b : Option GroupState) (g : GroupState) → a ≡ Some g → is_some b ≡ is_some a → (h : GroupState) × (b ≡ Some h)
  some_on a None g some both = absurd (true≢false (sym (ap is_some some) ∙ sym both))
  some_on a (Some h) g some both = (h, refl)

  put_on : (old mid new : Drawing D) (o : Option GroupState) → old.group ≡ o → IsUnchanged old mid → Settles facts mid new
      → MatchOption o (new.project ≡ old.project) (λ g. (staged : List Staged) → CanPut old.project g staged → PutsGroup facts old.project staged (Ok tt) new.project)
  put_on old mid new None is same settled =
      let none : mid.group ≡ None = none_back old.group mid.group is same.both in
      subst (λ (o : Option GroupState). MatchOption o (new.project ≡ mid.project)
      (λ g. (staged : List Staged) → CanPut mid.project g staged → PutsGroup facts mid.project staged (Ok tt) new.project)) none settled.put ∙ same.project
  put_on old mid new (Some g) is same settled = λ staged can.
      let (h, some) = some_on old.group mid.group g is same.both in
      let put = subst (λ (o : Option GroupState). MatchOption o (new.project ≡ mid.project)
      (λ g. (staged : List Staged) → CanPut mid.project g staged → PutsGroup facts mid.project staged (Ok tt) new.project)) some settled.put in
      subst (λ (s : State D). PutsGroup facts s staged (Ok tt) new.project) same.project
      (put staged (can_in mid h staged some (same.waits staged (waits_in old g staged is can))))

  unchanged_settled : (old mid new : Drawing D) → IsUnchanged old mid → Settles facts mid new → Settles facts old new
  unchanged_settled old mid new same settled = record {
    none = settled.none;
    maps = settled.maps ∙ same.maps;
    put = put_on old mid new old.group refl same settled;
  }

  pub alone_behind : (old mid new : Drawing D) (line : List ℕ) (outcome : Result ℕ ℕ) → CannotWait old line → IsUnchanged old mid
      → IsApplied facts mid line outcome new ⊎ ((outcome ≡ Err 30) × Loses facts mid new) → ChangesProject facts old line outcome new
  alone_behind old mid new line outcome why same (inl applied) = inr (inl (
    why,
    inl (record {
      mid = applied.mid;
      settled = unchanged_settled old mid applied.mid same applied.settled;
      answer = applied.answer;
      applied = applied.applied;
      is = applied.is;
      none = applied.none;
      flags = record { alone = applied.flags.alone ∙ same.flags.alone; lost = applied.flags.lost ∙ same.flags.lost };
    }),
  ))
  alone_behind old mid new line outcome why same (inr (is, gone)) = inr (inl (why, inr (is, lost_unchanged facts old mid new same gone)))

  -- ---- Room for lines that are to wait together

  pub turned_behind : (old mid new : Drawing D) (lines : List (List ℕ)) (refusal : Option ℕ) → PutsBefore facts old lines mid → TurnsFor facts mid lines refusal new
      → ClearsJournal facts old lines refusal new
  turned_behind old mid new lines None put turns = inr (mid, put, turns)
  turned_behind old mid new lines (Some code) put turns = inr (mid, put, turns)

  pub group_behind : (old mid new : Drawing D) (lines : List (List ℕ)) (refusal : Option ℕ) → old.is_alone ≡ false → ClearsJournal facts old lines None mid
      → BeginsGroup mid refusal new → MakesRoom facts old lines refusal new
  group_behind old mid new lines None together clears begins = inr (together, mid, clears, begins)
  group_behind old mid new lines (Some code) together clears begins = (together, inr (mid, clears, begins))
