-- The names of a script itself or of a shape that is being drawn, those that its open blocks hold in
-- front.
use Rattle.std.specs.Prelude.{ℕ, ◌+◌, ◌-◌, ◌++◌, List, [], ◌∷◌, drop}
use Rattle.map_script.specs.Meant.{Meant, with_meaning}

-- the names with what they stand for, and how many of them, the first ones, blocks hold
pub record Layer : Type 0 where
  pub names : List (List ℕ × Meant)
  pub held : ℕ

-- no name
abbrev pub first_layer : Layer
first_layer = record { names = []; held = 0 }

-- a name now stands for this, where it is, or else behind the others
abbrev pub layer_given : Layer → List ℕ → Meant → Layer
layer_given l name now = record { names = with_meaning l.names name now; held = l.held }

-- the open block holds a name, which stands for this
abbrev pub layer_held : Layer → List ℕ → Meant → Layer
layer_held l name now = record { names = (name, now) ∷ l.names; held = l.held + 1 }

-- so many names are held, or all if there were fewer: the newest are gone
abbrev pub layer_less : Layer → ℕ → Layer
layer_less l held = record {
  names = drop (l.held - held) l.names;
  held = l.held - (l.held - held);
}

-- the names of all layers, each in front of those behind it
abbrev pub layered : List Layer → List (List ℕ × Meant)
layered [] = []
layered (l ∷ ls) = l.names ++ layered ls
