-- The lines of a group, and what one more makes of it.
use Rattle.std.proofs.Common.{◌≡◌, ◌≤◌, ◌+◌, ◌-◌, ℕ, false, List, [], ◌∷◌, ◌++◌, length, length-append, refl, sym, ap, subst, arith}
use Rattle.std.proofs.lemmas.List.{map-append}
use Rattle.store_disk.specs.Moments.{LeavesOnly}
use Rattle.store_disk.specs.Stops.{From, Follows}
use Rattle.store_disk.specs.declared.disk.Disk.{Ghosts}
use Rattle.store_journal.specs.Append.{Appends, MayAppend}
use Rattle.store_journal.specs.Groups.{IsGroupOf}
use Rattle.store_journal.specs.Records.{record_bytes, records_bytes}
use Rattle.store_journal.specs.State.{IsAbove, IsReadyIn, JournalState}
use Rattle.store_journal.proofs.Groups.{length-group}
use Rattle.store_journal.proofs.Lengths.{length-push, length-record}
use Rattle.map_tables.specs.Projects.{MapsView, ProjectMaps, body_len, project_of}
use Rattle.map_commands.specs.ProjectLines.{Accepts, Leads}
use Rattle.store_project.specs.Fields.{IsProjectFramed, IsProjectSound, IsReady, project_state}
use Rattle.store_project.specs.Groups.{AcceptsAll, CanPut, GroupState, IsFullFor, IsGroupFor, Staged, staged_lines}
use Rattle.store_project.specs.Places.{cap_of}
use Rattle.store_project.specs.Stands.{StandsForEither}
use Rattle.store_project.specs.States.{State}
use Rattle.store_project.specs.declared.project.Project.TheInside.{Inside}
use Rattle.store_project.proofs.Sound.{append_moments, sound_recorded, step_fits}

pub leads_all : (cap : ℕ) (old : ProjectMaps) (staged : List Staged) (new : ProjectMaps) → AcceptsAll cap old staged new → Leads cap old (staged_lines staged) new
leads_all cap old [] new same = same
leads_all cap old (s ∷ staged) new (mid, accepts, more) = (mid, (s.number, accepts), leads_all cap mid staged new more)

accepts_push : (cap : ℕ) (old : ProjectMaps) (staged : List Staged) (mid : ProjectMaps) (s : Staged) (new : ProjectMaps)
    → AcceptsAll cap old staged mid → Accepts cap mid s.line new s.number → AcceptsAll cap old (staged ++ s ∷ []) new
accepts_push cap old [] mid s new same accepts = (new, subst (λ (m : ProjectMaps). Accepts cap m s.line new s.number) same accepts, refl)
accepts_push cap old (t ∷ staged) mid s new (next, first, more) accepts = (next, first, accepts_push cap next staged mid s new more accepts)

-- the maps after the lines fit
pub all_fit : (cap : ℕ) (old : ProjectMaps) (staged : List Staged) (new : ProjectMaps) → body_len old ≤ cap → AcceptsAll cap old staged new → body_len new ≤ cap
all_fit cap old [] new short same = subst (λ (m : ProjectMaps). body_len m ≤ cap) (sym same) short
all_fit cap old (s ∷ staged) new short (mid, accepts, more) =
    all_fit cap mid staged new (step_fits old accepts.command cap mid s.number accepts.stepped) more

-- a group of no bytes but the last gate's holds no lines
pub none_staged : (cap : ℕ) (old : ProjectMaps) (staged : List Staged) (new : ProjectMaps) (bytes : List ℕ) → IsGroupOf (staged_lines staged) bytes → IsGroupOf [] bytes
    → AcceptsAll cap old staged new → new ≡ old
none_staged cap old [] new bytes is none same = same
none_staged cap old (s ∷ staged) new bytes is none accepts =
    absurd (omega (
      arith,
      length-group (staged_lines (s ∷ staged)) bytes is,
      length-group [] bytes none,
      length-append (record_bytes s.line) (records_bytes (staged_lines staged)),
      length-record s.line,
    ))

-- how long a group is with one line more
group_len : (lines : List (List ℕ)) (line old new : List ℕ) → IsGroupOf lines old → IsGroupOf (lines ++ line ∷ []) new
    → length new - 6 ≡ length old - 1 + length line
group_len lines line old new before after =
    omega (arith, length-group lines old before, length-group (lines ++ line ∷ []) new after, length-push lines line)

module _ {D : Type 0} (project : State D) (old new : GroupState) (staged : List Staged) where
  -- one line more
  pub can_push : (s : Staged) → CanPut project old staged → (IsFullFor project old s.line → ⊥)
      → ((lines : List (List ℕ)) → IsGroupOf lines old.bytes → IsGroupOf (lines ++ s.line ∷ []) new.bytes)
      → Accepts project.cap (project_of old.maps) s.line (project_of new.maps) s.number → CanPut project new (staged ++ s ∷ [])
  can_push s can room pushed accepts =
      let lines = staged_lines staged in
      let pushes : IsGroupOf (lines ++ s.line ∷ []) new.bytes = pushed lines can.lines in
      record {
        lines = subst (λ (ls : List (List ℕ)). IsGroupOf ls new.bytes) (sym (map-append (λ (t : Staged). t.line) staged (s ∷ []))) pushes;
        accepted = accepts_push project.cap (project_of project.maps) staged (project_of old.maps) s (project_of new.maps) can.accepted accepts;
        room = λ some above. room (subst (λ (n : ℕ). IsAbove project.room n) (group_len lines s.line old.bytes new.bytes can.lines pushes) above);
      }

-- ---- What a `put` makes of a project

module _ {D : Type 0} (facts : Ghosts D) (p : Inside D) (framed : IsProjectFramed p) (ready : IsReady facts p) (group : GroupState) (can : IsGroupFor (project_state p) group) where
  abbrev lines : List (List ℕ)
  lines = staged_lines can.0

  leads : Leads (cap_of p.geometry) (project_of p.maps) lines (project_of group.maps)
  leads = leads_all (cap_of p.geometry) (project_of p.maps) can.0 (project_of group.maps) can.1.accepted

  pub sound_put : (new : D) (j : JournalState) (end : ℕ) (maps : MapsView) → maps ≡ group.maps
      → ((more : List (List ℕ)) → IsGroupOf more group.bytes → Follows (Appends p.journal.area more) (facts.may_leave p.disk) (facts.may_leave new))
      → j ≡ record p.journal { next = end; must_reopen = false } → IsReadyIn j (facts.may_leave new)
      → IsProjectSound facts (record p { disk = new; journal = j; maps = maps })
  sound_put new j end maps maps_are appends journal_is ends =
      sound_recorded facts p framed ready new j end maps lines (project_of group.maps) leads (ap (λ (m : MapsView). project_of m) maps_are)
      (all_fit (cap_of p.geometry) (project_of p.maps) can.0 (project_of group.maps) framed.fits can.1.accepted)
      (appends lines can.1.lines) journal_is ends

  pub put_moments : (new : D)
      → ((more : List (List ℕ)) → IsGroupOf more group.bytes → LeavesOnly facts p.disk new (From (facts.may_leave p.disk) (MayAppend p.journal.area more)))
      → LeavesOnly facts p.disk new (StandsForEither (cap_of p.geometry) (project_of p.maps) (project_of group.maps))
  put_moments new leaves = append_moments facts p framed ready new lines (project_of group.maps) leads (leaves lines can.1.lines)
