use Rattle.std.proofs.Common.{subst, sym}
use Rattle.std.proofs.lemmas.Result.{MatchResult-weaker}
use Rattle.map_tables.specs.Projects.{MapsView, empty_project, project_of}
use Rattle.store_project.specs.Sessions.{KeepEach}
use Rattle.store_project.specs.Stands.{StandsFor}
use Rattle.run_edit.proofs.Recovering.{no_fault, refused_kept, stands_for}
use Rattle.run_edit.proofs.recovery.build_after_any_stop.Goals as goal

pub returns-in-Err-clause-built : goal.returns-in-Err-clause-built
returns-in-Err-clause-built g c cap sessions file reads left =
    let is = c.in-Err.ensures in
    (c.hold_each_acknowledged.ensures.refused cap sessions c.args.disk c.in-Err.field-0.disk c.in-Err.field-0.error left
    (record { refused = is.refused; told = (file, is.reads.1 file reads); any_moment = is.any_moment })).0

pub returns-in-Err-clause-only_read : goal.returns-in-Err-clause-only_read
returns-in-Err-clause-only_read g c =
    let is = c.in-Err.ensures in
    record { no_other = is.reads.0; still = is.reads.1; any_moment = is.any_moment }

pub returns-in-Ok-clause-built : goal.returns-in-Ok-clause-built
returns-in-Ok-clause-built g c cap sessions file reads left =
    let is = c.in-Ok.ensures in
    let first = c.in-Ok.project in
    let here = is.reads.1 file reads in
    let opened = c.hold_each_acknowledged.ensures.opened cap sessions c.args.disk first left
    (record { reopen = is.opened.0; opened = is.opened.1; told = (file, here); kept = is.kept; any_moment = is.any_moment }) in
    let keep = subst (λ (v : MapsView). KeepEach cap empty_project sessions (project_of v)) (sym c.maps.ensures) opened.1 in
    let stand = subst (λ (v : MapsView). StandsFor cap (project_of v) file) (sym c.maps.ensures)
    (stands_for first.cap first.generation cap (project_of first.maps) file (is.opened.1 file here) opened.0) in
    MatchResult-weaker c.build_maps.result c.build_maps.ensures (λ wad build. (project_of c.maps.result.now, keep, stand, build))
    (λ e why. refused_kept cap sessions file (project_of c.maps.result.now) e keep stand why)

pub returns-in-Ok-clause-only_read : goal.returns-in-Ok-clause-only_read
returns-in-Ok-clause-only_read g c =
    let is = c.in-Ok.ensures in
    rw c.into_disk.ensures.disk (record { no_other = is.reads.0; still = is.reads.1; any_moment = is.any_moment })

pub returns-in-Ok-clause-count : goal.returns-in-Ok-clause-count
returns-in-Ok-clause-count g c = λ is. absurd (no_fault _ _ _ c.build_maps.ensures is)
