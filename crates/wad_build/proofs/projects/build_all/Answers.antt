use Rattle.map_tables.specs.Projects.{project_of}
use Rattle.wad_build.proofs.ProjectLemmas.{error_too, of_all}
use Rattle.wad_build.proofs.projects.build_all.Goals as goal

pub returns-in-Ok-clause-nothing : goal.returns-in-Ok-clause-nothing
returns-in-Ok-clause-nothing c = λ m at empty.
    let e = c.in-Ok.ensures.nothing m at empty in
    cc

pub returns-in-Err-clause-refused : goal.returns-in-Err-clause-refused
returns-in-Err-clause-refused c = of_all (project_of c.args.maps.now).maps c.in-Err.unbuilt.error c.in-Err.unbuilt.map c.in-Err.ensures.refused

pub returns-in-Err-clause-nothing : goal.returns-in-Err-clause-nothing
returns-in-Err-clause-nothing c = λ m at empty. error_too c.in-Err.unbuilt m.name (c.in-Err.ensures.nothing m at empty)
