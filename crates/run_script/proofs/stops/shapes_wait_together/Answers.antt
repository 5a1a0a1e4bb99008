use Rattle.run_script.proofs.Wholeness.{drawn_whole, refused_whole}
use Rattle.run_script.proofs.stops.shapes_wait_together.Goals as goal

pub returns-clause-drawn : goal.returns-clause-drawn
returns-clause-drawn g c old new line answer together drawn = drawn_whole g.D.Disk old new line answer together drawn

pub returns-clause-refused : goal.returns-clause-refused
returns-clause-refused g c old new line code together drawn = refused_whole g.D.Disk old new line code together drawn
