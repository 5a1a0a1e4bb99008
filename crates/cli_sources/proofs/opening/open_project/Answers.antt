use Rattle.cli_sources.proofs.Opened.{opened_from, refused_from}
use Rattle.cli_sources.proofs.opening.open_project.Goals as goal

pub returns-clause-opened : goal.returns-clause-opened
returns-clause-opened g c = opened_from g.D.Disk c.args.disk c.open.result c.open.ensures.opened c.open.ensures.reads c.open.ensures.any_moment

pub returns-clause-refused : goal.returns-clause-refused
returns-clause-refused g c = refused_from g.D.Disk c.args.disk c.open.result c.open.ensures.refused c.open.ensures.reads c.open.ensures.any_moment
    c.open.ensures.count
