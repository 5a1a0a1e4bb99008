-- After their first two bytes both bodies are the map's part.
use Rattle.map_tables.proofs.BodyLaws.{one_length}
use Rattle.map_tables.proofs.laws.keep_the_length_of_one_map.Goals as goal

pub returns : goal.returns
returns c = one_length
