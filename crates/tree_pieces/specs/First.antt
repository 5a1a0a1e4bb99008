-- The lines of a map as edges, and the first list of pieces.
use Rattle.std.specs.Prelude.{ℕ, ◌+◌, if◌then◌else◌, List, [], ◌∷◌, ◌++◌}
use Rattle.tree_pieces.specs.declared.edge.Edge.{Edge}
use Rattle.tree_pieces.specs.declared.edge.Facing.{Facing}
use Rattle.tree_pieces.specs.declared.edge.Facing.TheVariants.{Along, Against}
use Rattle.tree_pieces.specs.declared.piece.Piece.{Piece}
use Rattle.tree_pieces.specs.Fractions.{fraction}
use Rattle.std.specs.Prelude.{pos}

-- the whole of a side of the line n
abbrev pub whole : ℕ → Facing → Piece
whole n facing =
    record {
      line = n;
      side = facing;
      from = fraction (pos 0) (pos 1);
      to =
          fraction (pos 1) (pos 1);
    }

-- the sides of the line n: the right one, and then the left one where there is one
abbrev pub sides_of : ℕ → Edge → List Piece
sides_of n e = (if e.has_left then (whole n Along ∷ whole n Against ∷ []) else (whole n Along ∷ []))

-- the sides of lines that begin with the number n
abbrev pub pieces_from : ℕ → List Edge → List Piece
pieces_from n [] = []
pieces_from n (e ∷ es) = sides_of n e ++ pieces_from (n + 1) es

-- the first list: for each line by number its right side's piece, then its left side's
abbrev pub first_pieces : List Edge → List Piece
first_pieces lines = pieces_from 0 lines
