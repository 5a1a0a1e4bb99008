use Rattle.std.proofs.Common.{◌≡◌, List, ◌++◌, None, ℕ, length}
use Rattle.std.specs.Prelude.{All}
use Rattle.lump_records.specs.declared.records.Vertex.{Vertex}
use Rattle.map_commands.specs.Reading.{Reading, fault_with}
use Rattle.map_commands.specs.Views.{reading}
use Rattle.map_tables.specs.Ranges.{IsVertex}
use Rattle.map_shapes.specs.Shapes.{corner_places, corner_words}
use Rattle.map_shapes.proofs.reading.corners.Given as goal

-- the corners so far are those of the words so far
pub record AreRead (first now : Reading) (corners : List Vertex) : Type 0 where
  pub fault : fault_with first (corner_places first.words) ≡ fault_with now (corner_places now.words)
  pub text : now.fault ≡ None → (first.fault ≡ None) × (first.words ≡ corner_words corners ++ now.words)
  pub range : All IsVertex corners

abbrev pub invariant-loop-words : goal.invariant-loop-words
invariant-loop-words l = AreRead (reading l.fn.words) (reading l.words) l.corners.items

abbrev pub decreases-loop-words : goal.decreases-loop-words
decreases-loop-words l = length (reading l.words).words
