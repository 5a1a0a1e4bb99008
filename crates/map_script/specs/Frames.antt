-- The names of a frame as contracts see them.
use Rattle.std.specs.Prelude.{ℕ, ◌++◌, List, [], ◌∷◌, map, Vec, length}
use Rattle.std.specs.Global.{Global}
use Rattle.map_script.specs.Layers.{Layer}
use Rattle.map_script.specs.Meant.{Meant, meant}
use Rattle.map_script.specs.declared.frame.Frame.{Frame}
use Rattle.map_script.specs.declared.meaning.Meaning.{Meaning}

-- a name and what it stands for
abbrev pub known_entry : Vec ℕ Global × Meaning → List ℕ × Meant
known_entry entry = (entry.0.items, meant entry.1)

-- the names of a frame, those that blocks hold in front, each with what it stands for
abbrev pub known_in : Frame → List (List ℕ × Meant)
known_in frame = frame.held ++ map known_entry frame.table.entries

-- the same, with how many of them blocks hold
abbrev pub layer_of : Frame → Layer
layer_of frame = record { names = known_in frame; held = length frame.held }

-- the layers of frames in front of others, the newest first
abbrev pub layers_in_front : List Frame → List Layer → List Layer
layers_in_front [] others = others
layers_in_front (f ∷ fs) others = layers_in_front fs (layer_of f ∷ others)
