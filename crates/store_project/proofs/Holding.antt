-- The moments of sessions: each image stands for what the commands of some first calls lead to, and these hold what was
-- acknowledged before.
use Rattle.std.proofs.Common.{◌≡◌, ◌⊎◌, inl, inr, ⊎_elim, ◌≤◌, ℕ, Bool, true, false, cond, List, [], ◌∷◌, ◌++◌, Ok, Err, Result, refl, sym, ◌∙◌, ap, subst}
use Rattle.std.proofs.lemmas.Bool.{cases_Bool, true≢false}
use Rattle.std.proofs.lemmas.Grind.{flat_map-append}
use Rattle.std.proofs.lemmas.List.{append_assoc, append-nil}
use Rattle.store_disk.specs.Moments.{LeavesOnly}
use Rattle.store_disk.specs.Stops.{Each}
use Rattle.store_disk.specs.declared.disk.Disk.{Ghosts}
use Rattle.store_disk.proofs.Moments.{started, weaker, and_then}
use Rattle.map_tables.specs.Projects.{empty_project, ProjectMaps, project_of}
use Rattle.store_project.specs.Stands.{IsOutcome, StandsFor, StandsForEither}
use Rattle.map_commands.specs.ProjectLines.{Leads}
use Rattle.store_project.specs.States.{State, IsProjectKept}
use Rattle.store_project.specs.Groups.{RefusesToPut, Staged, staged_lines}
use Rattle.store_project.specs.Outcomes.{RefusesApply, RefusesCheckpoint}
use Rattle.store_project.specs.declared.error.ProjectError.{ProjectError}
use Rattle.store_project.specs.declared.error.ProjectError.TheVariants.{Device, OutOfMemory, Reopen, GenerationsSpent, Refused, Damaged, Blank, NotAProject, NotEmpty, BadGeometry}
use Rattle.store_project.proofs.Grouping.{leads_all}
use Rattle.store_project.proofs.Recording.{leads_append, leads_one}
use Rattle.store_project.specs.Sessions.{HoldsEach, KeepEach, KeepsAcknowledged, Opens, Passes, PassInTurn, Session}
use Rattle.store_project.specs.Calls.{Applies, ProjectCall, PutsGroup, acknowledged, acknowledged_by, accepted, accepted_by, begins, AllMade, Made}
use Rattle.store_project.specs.Calls.ProjectCall.{Apply, Checkpoint, Put}

-- the file stands for the map, or for the one that the lines lead to
abbrev IsOutcomeOf : ℕ → ProjectMaps → List (List ℕ) → List ℕ → Type 0
IsOutcomeOf cap map lines file = StandsFor cap map file
    ⊎ ((next : ProjectMaps) × Leads cap map lines next × StandsFor cap next file)

-- only a device fault begins what it refuses
begun_device : (e : ProjectError) → begins {T = ℕ} (Err e) ≡ true → e ≡ Device
begun_device Device is = refl
begun_device OutOfMemory is = absurd (true≢false (sym is))
begun_device Reopen is = absurd (true≢false (sym is))
begun_device GenerationsSpent is = absurd (true≢false (sym is))
begun_device (Refused e) is = absurd (true≢false (sym is))
begun_device (Damaged place) is = absurd (true≢false (sym is))
begun_device Blank is = absurd (true≢false (sym is))
begun_device NotAProject is = absurd (true≢false (sym is))
begun_device NotEmpty is = absurd (true≢false (sym is))
begun_device BadGeometry is = absurd (true≢false (sym is))

module _ {D : Type 0} (facts : Ghosts D) (old new : State D) where
  -- a project that must be opened again stays
  no_apply : (line : List ℕ) (e : ProjectError) → old.must_reopen ≡ true → RefusesApply facts e old new line → new ≡ old
  no_apply line Device reopen (a, b, rose) = absurd (true≢false (sym reopen ∙ a))
  no_apply line OutOfMemory reopen (a, b, leads) = absurd (true≢false (sym reopen ∙ a))
  no_apply line Reopen reopen (a, same) = same
  no_apply line GenerationsSpent reopen (a, b, last, above, leads) = absurd (true≢false (sym reopen ∙ a))
  no_apply line (Refused e) reopen (a, b, is) = absurd (true≢false (sym reopen ∙ a))
  no_apply line (Damaged place) reopen is = absurd is
  no_apply line Blank reopen is = absurd is
  no_apply line NotAProject reopen is = absurd is
  no_apply line NotEmpty reopen is = absurd is
  no_apply line BadGeometry reopen is = absurd is

  no_checkpoint : (e : ProjectError) → old.must_reopen ≡ true → RefusesCheckpoint facts e old new → new ≡ old
  no_checkpoint Device reopen (a, b, rose) = absurd (true≢false (sym reopen ∙ a))
  no_checkpoint OutOfMemory reopen (a, same) = same
  no_checkpoint Reopen reopen (a, same) = same
  no_checkpoint GenerationsSpent reopen (a, same, last) = same
  no_checkpoint (Refused e) reopen is = absurd is
  no_checkpoint (Damaged place) reopen is = absurd is
  no_checkpoint Blank reopen is = absurd is
  no_checkpoint NotAProject reopen is = absurd is
  no_checkpoint NotEmpty reopen is = absurd is
  no_checkpoint BadGeometry reopen is = absurd is

  -- a `put` is refused by the device, or where the project must be opened again
  put_refused : (e : ProjectError) → RefusesToPut facts e old new → ((e ≡ Device) × (old.must_reopen ≡ false) × (new.must_reopen ≡ true)) ⊎ ((old.must_reopen ≡ true) × (new ≡ old))
  put_refused Device (a, b, rose) = inl (refl, a, b)
  put_refused Reopen (a, same) = inr (a, same)
  put_refused OutOfMemory is = absurd is
  put_refused GenerationsSpent is = absurd is
  put_refused (Refused e) is = absurd is
  put_refused (Damaged place) is = absurd is
  put_refused Blank is = absurd is
  put_refused NotAProject is = absurd is
  put_refused NotEmpty is = absurd is
  put_refused BadGeometry is = absurd is

  made_stuck : (call : ProjectCall) → old.must_reopen ≡ true → Made facts old call new → (new ≡ old) × (acknowledged_by call ≡ [])
  made_stuck (Apply line (Ok n)) reopen made = absurd (true≢false (sym reopen ∙ made.ends.0))
  made_stuck (Apply line (Err e)) reopen made = (no_apply line e reopen made.ends.1, refl)
  made_stuck (Checkpoint (Ok n)) reopen made = absurd (true≢false (sym reopen ∙ made.ends.0))
  made_stuck (Checkpoint (Err e)) reopen made = (no_checkpoint e reopen made.ends, refl)
  made_stuck (Put staged (Ok done)) reopen made = absurd (true≢false (sym reopen ∙ made.ends.0))
  made_stuck (Put staged (Err e)) reopen made =
      ⊎_elim (λ device. absurd (true≢false (sym reopen ∙ device.1))) (λ same. (same.1, refl)) (put_refused e made.ends.1)

  -- What a call that accepted some lines, and acknowledged some, makes of a project that needn't be opened again: it
  -- went on with all the lines, or must be opened again.
  record Goes (begun told : List (List ℕ)) : Type 0 where
    pub moments : LeavesOnly facts old.disk new.disk (IsOutcomeOf old.cap (project_of old.maps) begun)
    pub cap_is : new.cap ≡ old.cap
    pub kept : IsProjectKept facts new
    pub ends : ((new.must_reopen ≡ false) × (told ≡ begun) × Leads old.cap (project_of old.maps) begun (project_of new.maps))
        ⊎ ((new.must_reopen ≡ true) × (told ≡ []))

  module _ (ready : old.must_reopen ≡ false) where
    -- a call that keeps the map at every moment
    quietly : LeavesOnly facts old.disk new.disk (StandsFor old.cap (project_of old.maps)) → new.cap ≡ old.cap → IsProjectKept facts new
        → project_of new.maps ≡ project_of old.maps → Goes [] []
    quietly leaves cap_is kept same = record {
      moments = weaker facts old.disk new.disk (StandsFor old.cap (project_of old.maps)) (IsOutcomeOf old.cap (project_of old.maps) []) leaves (λ file stands. inl stands);
      cap_is = cap_is;
      kept = kept;
      ends = elim (cases_Bool new.must_reopen) [ inl reopen ↦ inr (reopen, refl) | inr still ↦ inl (still, refl, same) ];
    }

    line_moments : (line : List ℕ) (answer : Result ℕ ProjectError) → Applies facts old line answer new
        → LeavesOnly facts old.disk new.disk (IsOutcomeOf old.cap (project_of old.maps) (line ∷ []))
    line_moments line answer made =
        weaker facts old.disk new.disk (IsOutcome old.cap (project_of old.maps) line) (IsOutcomeOf old.cap (project_of old.maps) (line ∷ [])) (made.any_moment ready)
        (λ file stands. ⊎_elim (λ same. inl same) (λ led. inr (led.0, leads_one old.cap (project_of old.maps) line led.0 led.1, led.2)) stands)

    group_moments : (staged : List Staged) (answer : Result Unit ProjectError) → PutsGroup facts old staged answer new
        → LeavesOnly facts old.disk new.disk (IsOutcomeOf old.cap (project_of old.maps) (staged_lines staged))
    group_moments staged answer made =
        weaker facts old.disk new.disk (StandsForEither old.cap (project_of old.maps) made.after) (IsOutcomeOf old.cap (project_of old.maps) (staged_lines staged)) (made.any_moment ready)
        (λ file stands. ⊎_elim (λ same. inl same) (λ led. inr (made.after, leads_all old.cap (project_of old.maps) staged made.after made.accepted, led)) stands)

    goes : (call : ProjectCall) → Made facts old call new → Goes (accepted_by call) (acknowledged_by call)
    goes (Apply line (Ok n)) made = record {
      moments = line_moments line (Ok n) made;
      cap_is = made.same_cap;
      kept = made.kept;
      ends = inl (made.ends.1, refl, leads_one old.cap (project_of old.maps) line (project_of new.maps) (n, made.ends.2));
    }
    goes (Apply line (Err e)) made = at (begins {T = ℕ} (Err e)) refl
      where
        at : (t : Bool) → begins {T = ℕ} (Err e) ≡ t → Goes (cond t (line ∷ []) []) []
        at true is =
            let told = subst (λ (x : ProjectError). RefusesApply facts x old new line) (begun_device e is) made.ends.1 in
            record { moments = line_moments line (Err e) made; cap_is = made.same_cap; kept = made.kept; ends = inr (told.1, refl) }
        at false is = quietly
            (⊎_elim (λ device. absurd (true≢false (sym (ap (λ (x : ProjectError). begins {T = ℕ} (Err x)) device) ∙ is))) (λ leaves. leaves) (made.refused_moment ready))
            made.same_cap made.kept made.ends.0
    goes (Checkpoint answer) made = quietly (made.any_moment ready) made.same_cap made.kept (ap project_of made.maps)
    goes (Put staged (Ok done)) made = record {
      moments = group_moments staged (Ok done) made;
      cap_is = made.same_cap;
      kept = made.kept;
      ends = inl (
        made.ends.1,
        refl,
        subst (λ (m : ProjectMaps). Leads old.cap (project_of old.maps) (staged_lines staged) m) (sym made.ends.2)
            (leads_all old.cap (project_of old.maps) staged made.after made.accepted),
      );
    }
    goes (Put staged (Err e)) made =
        ⊎_elim
        (λ device. subst (λ (t : Bool). Goes (cond t (staged_lines staged) []) []) (sym (ap (λ (x : ProjectError). begins {T = Unit {0}} (Err x)) device.0))
        (record { moments = group_moments staged (Err e) made; cap_is = made.same_cap; kept = made.kept; ends = inr (device.2, refl) }))
        (λ stuck. absurd (true≢false (sym stuck.0 ∙ ready)))
        (put_refused e made.ends.1)

module _ {D : Type 0} (facts : Ghosts D)
    (only_now : (d : D) (file : List ℕ) → facts.left_since d (facts.moment d) file → facts.may_leave d file)
    (counts_now : (d : D) (t : ℕ) (file : List ℕ) → t ≤ facts.moment d → facts.may_leave d file → facts.left_since d t file) where
  stuck : (calls : List ProjectCall) (old new : State D) → old.must_reopen ≡ true → AllMade facts old calls new → (new ≡ old) × (acknowledged calls ≡ [])
  stuck [] old new reopen same = (same, refl)
  stuck (call ∷ calls) old new reopen (mid, made, more) =
      let first = made_stuck facts old mid call reopen made in
      let rest = stuck calls mid new (ap (λ (s : State D). s.must_reopen) first.0 ∙ reopen) more in
      (rest.0 ∙ first.0, ap (λ (l : List (List ℕ)). l ++ acknowledged calls) first.1 ∙ rest.1)

  module _ (limit : ℕ) (base : ProjectMaps) where
    -- The file stands for the map to which some first ones of the calls lead, behind these lines; and what they accepted
    -- begins with what was told.
    record Holds (done : List (List ℕ)) (calls : List ProjectCall) (told : List (List ℕ)) (file : List ℕ) : Type 0 where
      pub front : List ProjectCall
      pub back : List ProjectCall
      pub prefix : calls ≡ front ++ back
      pub more : List (List ℕ)
      pub holds : accepted front ≡ told ++ more
      pub map : ProjectMaps
      pub leads : Leads limit base (done ++ accepted front) map
      pub stands : StandsFor limit map file

    -- these lines lead to the project's map
    record Known (done : List (List ℕ)) (now : State D) : Type 0 where
      pub cap_is : now.cap ≡ limit
      pub leads : Leads limit base done (project_of now.maps)
      pub kept : IsProjectKept facts now

    -- before the calls
    here : (done : List (List ℕ)) (calls : List ProjectCall) (now : State D) → Known done now → (file : List ℕ) → StandsFor now.cap (project_of now.maps) file → Holds done calls [] file
    here done calls now known file stands = record {
      front = [];
      back = calls;
      prefix = refl;
      more = [];
      holds = refl;
      map = project_of now.maps;
      leads = subst (λ (l : List (List ℕ)). Leads limit base l (project_of now.maps)) (sym (append-nil done)) known.leads;
      stands = subst (λ (k : ℕ). StandsFor k (project_of now.maps) file) known.cap_is stands;
    }

    -- during the first
    within : (done : List (List ℕ)) (call : ProjectCall) (calls : List ProjectCall) (now : State D) → Known done now → (file : List ℕ)
        → IsOutcomeOf now.cap (project_of now.maps) (accepted_by call) file → Holds done (call ∷ calls) [] file
    within done call calls now known file stands =
        ⊎_elim (λ same. here done (call ∷ calls) now known file same)
        (λ led.
        let leads : Leads limit (project_of now.maps) (accepted_by call) led.0 = subst (λ (k : ℕ). Leads k (project_of now.maps) (accepted_by call) led.0) known.cap_is led.1 in
        record {
          front = call ∷ [];
          back = calls;
          prefix = refl;
          more = accepted (call ∷ []);
          holds = refl;
          map = led.0;
          leads = subst (λ (l : List (List ℕ)). Leads limit base (done ++ l) led.0) (sym (append-nil (accepted_by call)))
              (leads_append limit base done (accepted_by call) (project_of now.maps) led.0 known.leads leads);
          stands = subst (λ (k : ℕ). StandsFor k led.0 file) known.cap_is led.2;
        })
        stands

    -- behind the first
    behind : (done : List (List ℕ)) (call : ProjectCall) (calls : List ProjectCall) (told : List (List ℕ)) (file : List ℕ) → acknowledged_by call ≡ accepted_by call
        → Holds (done ++ accepted_by call) calls told file → Holds done (call ∷ calls) (acknowledged_by call ++ told) file
    behind done call calls told file same h = record {
      front = call ∷ h.front;
      back = h.back;
      prefix = ap (λ (cs : List ProjectCall). call ∷ cs) h.prefix;
      more = h.more;
      holds = ap (λ (l : List (List ℕ)). accepted_by call ++ l) h.holds ∙ sym (append_assoc (accepted_by call) told h.more)
          ∙ ap (λ (l : List (List ℕ)). (l ++ told) ++ h.more) (sym same);
      map = h.map;
      leads = subst (λ (l : List (List ℕ)). Leads limit base l h.map) (append_assoc done (accepted_by call) (accepted h.front)) h.leads;
      stands = h.stands;
    }

    -- whatever was told
    at_all : (done : List (List ℕ)) (calls : List ProjectCall) (told : List (List ℕ)) (file : List ℕ) → Holds done calls told file → Holds done calls [] file
    at_all done calls told file h = record {
      front = h.front;
      back = h.back;
      prefix = h.prefix;
      more = accepted h.front;
      holds = refl;
      map = h.map;
      leads = h.leads;
      stands = h.stands;
    }

    known_then : (done begun told : List (List ℕ)) (old mid : State D) → Known done old → Goes facts old mid begun told
        → Leads old.cap (project_of old.maps) begun (project_of mid.maps) → Known (done ++ begun) mid
    known_then done begun told old mid known go leads = record {
      cap_is = go.cap_is ∙ known.cap_is;
      leads = leads_append limit base done begun (project_of old.maps) (project_of mid.maps) known.leads
          (subst (λ (k : ℕ). Leads k (project_of old.maps) begun (project_of mid.maps)) known.cap_is leads);
      kept = go.kept;
    }

    first_moments : (done : List (List ℕ)) (call : ProjectCall) (calls : List ProjectCall) (old mid : State D) → Known done old
        → Goes facts old mid (accepted_by call) (acknowledged_by call) → LeavesOnly facts old.disk mid.disk (Holds done (call ∷ calls) [])
    first_moments done call calls old mid known go =
        weaker facts old.disk mid.disk (IsOutcomeOf old.cap (project_of old.maps) (accepted_by call)) (Holds done (call ∷ calls) []) go.moments (within done call calls old known)

    moves : (calls : List ProjectCall) (done : List (List ℕ)) (old new : State D) → Known done old → old.must_reopen ≡ false → AllMade facts old calls new
        → LeavesOnly facts old.disk new.disk (Holds done calls [])
    moves [] done old new known ready same =
        subst (λ (s : State D). LeavesOnly facts old.disk s.disk (Holds done [] [])) (sym same)
        (started facts old.disk (Holds done [] []) (λ file left. here done [] old known file (old.generation, known.kept ready file (only_now old.disk file left))))
    moves (call ∷ calls) done old new known ready (mid, made, more) =
        let go = goes facts old mid ready call made in
        let first = first_moments done call calls old mid known go in
        ⊎_elim
        (λ well. and_then facts old.disk mid.disk new.disk (Holds done (call ∷ calls) []) first
        (weaker facts mid.disk new.disk (Holds (done ++ accepted_by call) calls []) (Holds done (call ∷ calls) [])
        (moves calls (done ++ accepted_by call) mid new (known_then done (accepted_by call) (acknowledged_by call) old mid known go well.2) well.0 more)
        (λ file h. at_all done (call ∷ calls) (acknowledged_by call ++ []) file (behind done call calls [] file well.1 h))))
        (λ bad. subst (λ (s : State D). LeavesOnly facts old.disk s.disk (Holds done (call ∷ calls) [])) (sym (stuck calls mid new bad.0 more).0) first)
        go.ends

    -- after some calls: all that they accepted is acknowledged, and leads to the map; or the project must be opened again
    abbrev AfterOf : List (List ℕ) → List ProjectCall → State D → Type 0
    AfterOf done calls new = ((new.must_reopen ≡ false) × (acknowledged calls ≡ accepted calls) × Known (done ++ accepted calls) new)
        ⊎ ((new.must_reopen ≡ true) × Each (facts.may_leave new.disk) (Holds done calls (acknowledged calls)))

    fronts : (calls : List ProjectCall) (done : List (List ℕ)) (old new : State D) → Known done old → old.must_reopen ≡ false → AllMade facts old calls new → AfterOf done calls new
    fronts [] done old new known ready same =
        inl (
          ap (λ (s : State D). s.must_reopen) same ∙ ready,
          refl,
          subst (λ (s : State D). Known (done ++ []) s) (sym same) (subst (λ (l : List (List ℕ)). Known l old) (sym (append-nil done)) known),
        )
    fronts (call ∷ calls) done old new known ready (mid, made, more) =
        let go = goes facts old mid ready call made in
        ⊎_elim
        (λ well. ⊎_elim
        (λ on. inl (
          on.0,
          ap (λ (l : List (List ℕ)). l ++ acknowledged calls) well.1 ∙ ap (λ (l : List (List ℕ)). accepted_by call ++ l) on.1,
          subst (λ (l : List (List ℕ)). Known l new) (append_assoc done (accepted_by call) (accepted calls)) on.2,
        ))
        (λ bad. inr (bad.0, λ file left. behind done call calls (acknowledged calls) file well.1 (bad.1 file left)))
        (fronts calls (done ++ accepted_by call) mid new (known_then done (accepted_by call) (acknowledged_by call) old mid known go well.2) well.0 more))
        (λ bad.
        let first = first_moments done call calls old mid known go in
        let end = stuck calls mid new bad.0 more in
        inr (
          ap (λ (s : State D). s.must_reopen) end.0 ∙ bad.0,
          λ file left.
              subst (λ (l : List (List ℕ)). Holds done (call ∷ calls) l file) (sym (ap (λ (l : List (List ℕ)). l ++ acknowledged calls) bad.1 ∙ end.1))
              (first.each file (counts_now mid.disk (facts.moment old.disk) file first.later (subst (λ (s : State D). facts.may_leave s.disk file) end.0 left))),
        ))
        go.ends

  -- ---- a session

  -- a file stands for what the session leads to from a map
  abbrev StandsAfter : ℕ → ProjectMaps → Session → List ℕ → Type 0
  StandsAfter cap base s file = (map : ProjectMaps) × KeepsAcknowledged cap base s map × StandsFor cap map file

  pub session_moments : (cap : ℕ) (s : Session) (first mid last : State D) → first.cap ≡ cap → first.must_reopen ≡ false → IsProjectKept facts first
      → AllMade facts first s.front mid → AllMade facts mid s.back last
      → LeavesOnly facts mid.disk last.disk (StandsAfter cap (project_of first.maps) s)
  session_moments cap s first mid last cap_is ready kept front back =
      ⊎_elim
      (λ well. weaker facts mid.disk last.disk (Holds cap (project_of first.maps) (accepted s.front) s.back []) (StandsAfter cap (project_of first.maps) s)
      (moves cap (project_of first.maps) s.back (accepted s.front) mid last well.2 well.0 back)
      (λ file h.
      let both : accepted (s.front ++ h.front) ≡ accepted s.front ++ accepted h.front = flat_map-append accepted_by s.front h.front in (
        h.map,
        record {
          calls = s.front ++ h.front;
          rest = h.back;
          prefix = ap (λ (cs : List ProjectCall). s.front ++ cs) h.prefix ∙ sym (append_assoc s.front h.front h.back);
          holds = (accepted h.front, both ∙ ap (λ (l : List (List ℕ)). l ++ accepted h.front) (sym well.1));
          leads = subst (λ (l : List (List ℕ)). Leads cap (project_of first.maps) l h.map) (sym both) h.leads;
        },
        h.stands,
      )))
      (λ bad. subst (λ (t : State D). LeavesOnly facts mid.disk t.disk (StandsAfter cap (project_of first.maps) s)) (sym (stuck s.back mid last bad.0 back).0)
      (started facts mid.disk (StandsAfter cap (project_of first.maps) s) (λ file left.
      let h = bad.1 file (only_now mid.disk file left) in (
        h.map,
        record {
          calls = h.front;
          rest = h.back ++ s.back;
          prefix = ap (λ (cs : List ProjectCall). cs ++ s.back) h.prefix ∙ append_assoc h.front h.back s.back;
          holds = (h.more, h.holds);
          leads = h.leads;
        },
        h.stands,
      ))))
      (fronts cap (project_of first.maps) s.front [] first mid (record { cap_is = cap_is; leads = refl; kept = kept }) ready front)

  -- one session more
  keep_push : (cap : ℕ) (base : ProjectMaps) (done : List Session) (mid : ProjectMaps) (s : Session) (map : ProjectMaps)
      → KeepEach cap base done mid → KeepsAcknowledged cap mid s map → KeepEach cap base (done ++ s ∷ []) map
  keep_push cap base [] mid s map held more = (map, subst (λ (t : ProjectMaps). KeepsAcknowledged cap t s map) held more, refl)
  keep_push cap base (q ∷ done) mid s map (next, first, held) more = (next, first, keep_push cap next done mid s map held more)

  -- a state to which the sessions before lead
  pub record Reaches (cap : ℕ) (done : List Session) (f : State D) : Type 0 where
    pub ready : f.must_reopen ≡ false
    pub kept : IsProjectKept facts f
    pub cap_is : f.cap ≡ cap
    pub held : KeepEach cap empty_project done (project_of f.maps)

  -- a session that begins so begins at such a state
  abbrev Good : ℕ → List Session → (State D → Type 0) → Type 0
  Good cap done begun = (f : State D) → begun f → Reaches cap done f

  passes_moments : (cap : ℕ) (done : List Session) (begun : State D → Type 0) → Good cap done begun → (s : Session) (mid last : State D) → Passes facts begun s mid last
      → LeavesOnly facts mid.disk last.disk (HoldsEach cap (done ++ s ∷ []))
  passes_moments cap done begun good s mid last p =
      let from = good p.first p.begun in
      weaker facts mid.disk last.disk (StandsAfter cap (project_of p.first.maps) s) (HoldsEach cap (done ++ s ∷ []))
      (session_moments cap s p.first mid last from.cap_is from.ready from.kept p.front p.back)
      (λ file h. (h.0, keep_push cap empty_project done (project_of p.first.maps) s h.0 from.held h.1, h.2))

  module _ (reads_an_image : (d : D) (file : List ℕ) → facts.reads d file → facts.may_leave d file) where
    -- what the next session opens to
    pub opens_well : (cap : ℕ) (done : List Session) (m l : State D) (next : D)
        → LeavesOnly facts m.disk l.disk (HoldsEach cap done)
        → Each (facts.may_leave next) (facts.left_since l.disk (facts.moment m.disk))
        → Good cap done (Opens facts next)
    opens_well cap done m l next leaves images f o =
        let file = o.told.0 in
        let image = o.any_moment.each file (counts_now f.disk (facts.moment next) file o.any_moment.later (reads_an_image f.disk file o.told.1)) in
        let held = leaves.each file (images file image) in
        let same = (o.opened file o.told.1).only cap held.0 held.2.0 held.2.1 in
        record {
          ready = o.reopen;
          kept = o.kept;
          cap_is = sym same.0;
          held = subst (λ (t : ProjectMaps). KeepEach cap empty_project done t) same.1 held.1;
        }

    pub all_moments : (cap : ℕ) (done before : List Session) (begun : State D → Type 0) → Good cap done begun → (s : Session) (mid last : State D) → PassInTurn facts begun before s mid last
        → LeavesOnly facts mid.disk last.disk (HoldsEach cap (done ++ (before ++ s ∷ [])))
    all_moments cap done [] begun good s mid last p =
        let one : s ∷ [] ≡ [] ++ s ∷ [] = refl in
        subst (λ (ss : List Session). LeavesOnly facts mid.disk last.disk (HoldsEach cap (done ++ ss))) one (passes_moments cap done begun good s mid last p)
    all_moments cap done (q ∷ qs) begun good s mid last (m, l, next, passes, images, more) =
        subst (λ (ss : List Session). LeavesOnly facts mid.disk last.disk (HoldsEach cap ss)) (append_assoc done (q ∷ []) (qs ++ s ∷ []))
        (all_moments cap (done ++ q ∷ []) qs (Opens facts next)
        (opens_well cap (done ++ q ∷ []) m l next (passes_moments cap done begun good q m l passes) images) s mid last more)
