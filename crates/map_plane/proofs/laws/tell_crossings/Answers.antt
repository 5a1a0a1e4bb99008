use Rattle.map_plane.proofs.Crossings.{tests_tell_crossings}
use Rattle.map_plane.proofs.laws.tell_crossings.Goals as goal

pub returns : goal.returns
returns c = tests_tell_crossings
