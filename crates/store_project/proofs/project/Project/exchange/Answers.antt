use Rattle.std.proofs.Common.{rules, ◌≡◌, ◌∙◌, ◌<◌, ◌≤◌, ◌-◌, [], Err, inl, ⊎_elim, false, length, refl, sym, ap, subst}
use Rattle.std.proofs.lemmas.Bool.{true≢false}
use Rattle.store_disk.specs.Moments.{LeavesOnly}
use Rattle.store_disk.proofs.Moments.{weaker}
use Rattle.store_journal.specs.Groups.{IsGroupOf}
use Rattle.store_journal.specs.State.{IsAbove, JournalState, room_of}
use Rattle.map_tables.specs.Projects.{body_len, project_of}
use Rattle.store_project.specs.Fields.{project_state}
use Rattle.store_project.specs.Groups.{GroupState, IsGroupFor}
use Rattle.store_project.specs.Places.{cap_of}
use Rattle.store_project.specs.Stands.{StandsFor, StandsForEither}
use Rattle.store_project.specs.States.{State}
use Rattle.store_project.proofs.Grouping.{none_staged, put_moments, sound_put}
use Rattle.store_project.proofs.Sound.{is_kept, kept_view, no_moment}
use Rattle.store_project.proofs.project.Project.exchange.Goals as goal

-- the group, as the fields tell of it
told : {D : Type 0} (p now : State D) (inside group : GroupState) → p ≡ now → inside ≡ group → IsGroupFor now group → IsGroupFor p inside
told {D = D} p now inside group view group_view can =
    subst (λ (v : State D). IsGroupFor v inside) (sym view) (subst (λ (w : GroupState). IsGroupFor now w) (sym group_view) can)

pub returns-then-is_empty-clause-ends : goal.returns-then-is_empty-clause-ends
returns-then-is_empty-clause-ends g c =
    let now = c.args.self.now in
    let ready : now.must_reopen ≡ false = sym (ap (λ (v : _). v.must_reopen) c.self.view_is) ∙ c.if-self.false in (
      ready,
      ready,
      sym (none_staged now.cap (project_of now.maps) c.requires.0 (project_of c.args.group.now.maps) c.args.group.now.bytes c.requires.1.lines
          (subst (λ (v : GroupState). IsGroupOf [] v.bytes) c.group.view_is (c.is_empty.ensures.none c.if-is_empty.true)) c.requires.1.accepted),
      refl,
    )

pub returns-then-is_empty-clause-any_moment : goal.returns-then-is_empty-clause-any_moment
returns-then-is_empty-clause-any_moment g c go =
    let now = c.args.self.now in
    weaker g.D.Disk now.disk now.disk (StandsFor now.cap (project_of now.maps)) (StandsForEither now.cap (project_of now.maps) (project_of c.args.group.now.maps))
    (no_moment g.D.Disk c.self.inside c.self.invariant.framed now c.self.view_is c.self.invariant.ready (λ file left. g.met.D.Disk.only_now now.disk file left) go)
    (λ file stands. inl stands)

pub returns-then-is_empty-clause-kept : goal.returns-then-is_empty-clause-kept
returns-then-is_empty-clause-kept g c = kept_view g.D.Disk c.self.inside c.self.invariant.framed c.args.self.now c.self.view_is c.self.invariant.ready

pub append_all-requires-clause-ready : goal.append_all-requires-clause-ready
append_all-requires-clause-ready g c _ = (c.self.invariant.ready c.if-self.false).ends

pub invariant_of-self : goal.invariant_of-self
invariant_of-self g c =
    sound_put g.D.Disk c.self.inside c.self.invariant.framed (c.self.invariant.ready c.if-self.false) _
    (told (project_state c.self.inside) c.args.self.now _ c.args.group.now c.self.view_is c.group.view_is c.requires)
    c.append_all.new.disk c.append_all.new.self _ c.swap.new.x c.swap.ensures.x_after c.in-Ok.ensures.appended c.in-Ok.ensures.next c.in-Ok.ensures.ready

pub invariant_of-self-in-Err-Device : goal.invariant_of-self-in-Err-Device
invariant_of-self-in-Err-Device g c =
    let framed = c.self.invariant.framed in
    record {
      framed = record {
        allowed = framed.allowed;
        laid_out = framed.laid_out;
        first = framed.first;
        second = framed.second;
        which = framed.which;
        journal = ap (λ (j : JournalState). j.area) (c.in-Err-Device.ensures.device (ap Err c.in-Err-Device.field-0-is)) ∙ framed.journal;
        fits = framed.fits;
      };
      ready = λ go. absurd (true≢false go);
    }

pub unreachable-requires : goal.unreachable-requires
unreachable-requires g c =
    let now = c.args.self.now in
    let ready = c.self.invariant.ready c.if-self.false in
    let some : 1 < length c.args.group.now.bytes = subst (λ (v : GroupState). 1 < length v.bytes) c.group.view_is (c.is_empty.ensures.some c.if-is_empty.false) in
    let no_room : IsAbove (room_of c.self.inside.journal) (length c.group.inside.lines - 6) → ⊥ = λ above. c.requires.1.room some
    (subst (λ (v : GroupState). IsAbove now.room (length v.bytes - 6)) c.group.view_is (subst (λ (v : _). IsAbove v.room (length c.group.inside.lines - 6)) c.self.view_is above)) in
    ⊎_elim
    (λ device. search (rules, device))
    (λ rest. ⊎_elim
    (λ reopen. true≢false (sym (c.in-Err.ensures.reopen.0 (ap Err reopen)) ∙ ready.journal))
    (λ full. no_room (c.in-Err.ensures.full.0 (ap Err full)).1)
    rest)
    c.in-Err.ensures.no_other

pub returns-in-Ok-clause-any_moment : goal.returns-in-Ok-clause-any_moment
returns-in-Ok-clause-any_moment g c go =
    subst (λ (v : _). LeavesOnly g.D.Disk v.disk c.append_all.new.disk (StandsForEither v.cap (project_of v.maps) (project_of c.args.group.now.maps))) c.self.view_is
    (subst (λ (w : GroupState). LeavesOnly g.D.Disk c.self.inside.disk c.append_all.new.disk (StandsForEither (cap_of c.self.inside.geometry) (project_of c.self.inside.maps) (project_of w.maps)))
    c.group.view_is
    (put_moments g.D.Disk c.self.inside c.self.invariant.framed (c.self.invariant.ready c.if-self.false) _
    (told (project_state c.self.inside) c.args.self.now _ c.args.group.now c.self.view_is c.group.view_is c.requires) c.append_all.new.disk c.append_all.ensures.any_moment))

pub returns-in-Ok-clause-kept : goal.returns-in-Ok-clause-kept
returns-in-Ok-clause-kept g c =
    let sound = invariant_of-self g c in
    is_kept g.D.Disk _ sound.framed sound.ready

pub returns-in-Err-Device-clause-any_moment : goal.returns-in-Err-Device-clause-any_moment
returns-in-Err-Device-clause-any_moment g c go =
    subst (λ (v : _). LeavesOnly g.D.Disk v.disk c.append_all.new.disk (StandsForEither v.cap (project_of v.maps) (project_of c.args.group.now.maps))) c.self.view_is
    (subst (λ (w : GroupState). LeavesOnly g.D.Disk c.self.inside.disk c.append_all.new.disk (StandsForEither (cap_of c.self.inside.geometry) (project_of c.self.inside.maps) (project_of w.maps)))
    c.group.view_is
    (put_moments g.D.Disk c.self.inside c.self.invariant.framed (c.self.invariant.ready c.if-self.false) _
    (told (project_state c.self.inside) c.args.self.now _ c.args.group.now c.self.view_is c.group.view_is c.requires) c.append_all.new.disk c.append_all.ensures.any_moment))

pub returns-then-is_empty-clause-fits : goal.returns-then-is_empty-clause-fits
returns-then-is_empty-clause-fits g c = subst (λ (v : _). body_len (project_of v.maps) ≤ v.cap) c.self.view_is c.self.invariant.framed.fits

pub returns-in-Ok-clause-fits : goal.returns-in-Ok-clause-fits
returns-in-Ok-clause-fits g c = subst (λ (v : _). body_len (project_of v.maps) ≤ v.cap) c.self.view_is c.self.invariant.framed.fits
