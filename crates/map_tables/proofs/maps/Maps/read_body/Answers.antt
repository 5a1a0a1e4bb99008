-- Bytes that don't begin with version 2 are a project's if they are a map's.
use Rattle.std.proofs.Common.{sym, subst}
use Rattle.std.proofs.lemmas.Bool.{both_ways}
use Rattle.map_tables.specs.ProjectBody.{IsProjectOf}
use Rattle.map_tables.proofs.FramedLemmas.{refused_by}
use Rattle.map_tables.proofs.ProjectBodyLemmas.{no_old_project, old_project}
use Rattle.map_tables.proofs.maps.Maps.read_body.Goals as goal

pub returns-in_err-map-clause-refused : goal.returns-in_err-map-clause-refused
returns-in_err-map-clause-refused c =
    let bs = c.args.bytes.now in
    refused_by (no_old_project bs (λ is. both_ways c.has_version_2.result c.if-has_version_2.false
    (c.has_version_2.ensures.1 is))) c.from_residual.result c.in_err-map.field-0.0 c.from_residual.ensures.1 c.in_err-map.ensures.refused

pub returns-clause-project : goal.returns-clause-project
returns-clause-project c =
    let bs = c.args.bytes.now in
    subst (IsProjectOf bs) (sym c.keep_only.ensures.project)
    (old_project bs (λ is. both_ways c.has_version_2.result c.if-has_version_2.false (c.has_version_2.ensures.1 is)) c.in_ok-map.map.tables c.in_ok-map.ensures.map)
