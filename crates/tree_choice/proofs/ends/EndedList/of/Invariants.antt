use Rattle.std.proofs.Common.{◌≡◌, ◌++◌, drop}
use Rattle.std.specs.Prelude.{map}
use Rattle.tree_pieces.specs.Pieces.{first_end, last_end}
use Rattle.tree_choice.proofs.ends.EndedList.of.Given as goal

-- the ends so far, and those of the pieces from here on
abbrev pub invariant-loop-piece : goal.invariant-loop-piece
invariant-loop-piece l = record {
  firsts : l.firsts.items ++ map (first_end l.lines) (drop l.piece-index l.piece-items) ≡ map (first_end l.lines) l.piece-items;
  lasts : l.lasts.items ++ map (last_end l.lines) (drop l.piece-index l.piece-items) ≡ map (last_end l.lines) l.piece-items;
}
