use Rattle.std.proofs.Common.{[], ◌∷◌, ◌∙◌, ap, sym, subst}
use Rattle.map_tables.specs.Projects.{project_of}
use Rattle.store_disk.specs.Moments.{LeavesOnly}
use Rattle.map_commands.specs.ProjectStep.{project_after, project_number_of}
use Rattle.store_project.specs.Places.{cap_of}
use Rattle.store_project.specs.Stands.{IsOutcome}
use Rattle.map_commands.specs.ProjectLines.{LeadsTo}
use Rattle.store_project.proofs.Recording.{leads_one}
use Rattle.store_project.proofs.Sound.{step_fits, is_kept, line_moments, sound_recorded}
use Rattle.store_project.proofs.project.Project.record.Goals as goal

pub invariant_of-self : goal.invariant_of-self
invariant_of-self g c =
    let p = c.self.inside in
    let ready = c.self.invariant.ready (ap (λ (v : _). v.must_reopen) c.self.view_is ∙ c.requires.reopen) in
    let leads = subst (λ (v : _). LeadsTo v.cap (project_of v.maps) c.args.line.now (project_after (project_of v.maps) c.args.ready.command)) (sym c.self.view_is) (
      project_number_of (project_of c.args.self.now.maps) c.args.ready.command,
      record {
        command = c.args.ready.command;
        range = c.requires.ready.range;
        line_is = c.requires.line;
        stepped =
            c.requires.accepted;
      },
    ) in
    let short = step_fits (project_of p.maps) leads.1.command (cap_of p.geometry) (project_after (project_of p.maps) c.args.ready.command) leads.0 leads.1.stepped in
    sound_recorded g.D.Disk p c.self.invariant.framed ready c.append.new.disk c.append.new.self _ c.commit.new.maps (c.args.line.now ∷ [])
    (project_after (project_of p.maps) c.args.ready.command) (leads_one (cap_of p.geometry) (project_of p.maps) c.args.line.now (project_after (project_of p.maps) c.args.ready.command) leads) c.commit.ensures.project short c.in-Ok.ensures.appended c.in-Ok.ensures.next c.in-Ok.ensures.ready

pub returns-in-Ok-clause-kept : goal.returns-in-Ok-clause-kept
returns-in-Ok-clause-kept g c =
    let sound = invariant_of-self g c in
    is_kept g.D.Disk _ sound.framed sound.ready

pub returns-in-Ok-clause-any_moment : goal.returns-in-Ok-clause-any_moment
returns-in-Ok-clause-any_moment g c =
    let p = c.self.inside in
    let ready = c.self.invariant.ready (ap (λ (v : _). v.must_reopen) c.self.view_is ∙ c.requires.reopen) in
    let leads = subst (λ (v : _). LeadsTo v.cap (project_of v.maps) c.args.line.now (project_after (project_of v.maps) c.args.ready.command)) (sym c.self.view_is) (
      project_number_of (project_of c.args.self.now.maps) c.args.ready.command,
      record {
        command = c.args.ready.command;
        range = c.requires.ready.range;
        line_is = c.requires.line;
        stepped =
            c.requires.accepted;
      },
    ) in
    subst (λ (v : _). LeavesOnly g.D.Disk v.disk c.append.new.disk (IsOutcome v.cap (project_of v.maps) c.args.line.now)) c.self.view_is
    (line_moments g.D.Disk p c.self.invariant.framed ready c.append.new.disk c.args.line.now (project_after (project_of p.maps) c.args.ready.command) leads c.append.ensures.any_moment)

pub returns-in-Err-Device-clause-any_moment : goal.returns-in-Err-Device-clause-any_moment
returns-in-Err-Device-clause-any_moment g c =
    let p = c.self.inside in
    let ready = c.self.invariant.ready (ap (λ (v : _). v.must_reopen) c.self.view_is ∙ c.requires.reopen) in
    let leads = subst (λ (v : _). LeadsTo v.cap (project_of v.maps) c.args.line.now (project_after (project_of v.maps) c.args.ready.command)) (sym c.self.view_is) (
      project_number_of (project_of c.args.self.now.maps) c.args.ready.command,
      record {
        command = c.args.ready.command;
        range = c.requires.ready.range;
        line_is = c.requires.line;
        stepped =
            c.requires.accepted;
      },
    ) in
    subst (λ (v : _). LeavesOnly g.D.Disk v.disk c.append.new.disk (IsOutcome v.cap (project_of v.maps) c.args.line.now)) c.self.view_is
    (line_moments g.D.Disk p c.self.invariant.framed ready c.append.new.disk c.args.line.now (project_after (project_of p.maps) c.args.ready.command) leads c.append.ensures.any_moment)
