-- The names as contracts see them.
use Rattle.std.specs.Prelude.{length, []}
use Rattle.map_script.specs.Frames.{known_in, layers_in_front}
use Rattle.map_script.specs.Scopes.{Scope}
use Rattle.map_script.specs.declared.names.Names.{Names}

-- the names that hold, with where lines are placed, whether a block is open, and the last answer
abbrev pub scope_of : Names → Scope
scope_of names = record {
  names = known_in names.own;
  held = length names.own.held;
  outer = layers_in_front names.outer.items [];
  placing = names.placing;
  is_within = names.is_within;
  answered = names.answered;
}
