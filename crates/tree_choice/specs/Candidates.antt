-- A candidate, and the lists that it is tried on, with what stands beside their pieces.
use Rattle.std.specs.Prelude.{◌≡◌, ◌<◌, ◌^◌, List, length, All}
use Rattle.tree_pieces.specs.declared.edge.Edge.{Edge}
use Rattle.tree_pieces.specs.declared.piece.Piece.{Piece}
use Rattle.tree_pieces.specs.Pieces.{IsPiece, ray_of}
use Rattle.tree_choice.specs.declared.candidate.Candidate.{Candidate}
use Rattle.tree_choice.specs.declared.candidate.NotedPieces.{NotedPieces}
use Rattle.tree_choice.specs.declared.counts.Counts.{Counts}
use Rattle.tree_choice.specs.declared.ends.EndedPieces.{EndedPieces}
use Rattle.tree_choice.specs.declared.sorting.Blocks.{Blocks}
use Rattle.tree_choice.specs.Counts.{AreCounts}
use Rattle.tree_choice.specs.Sights.{AreMargins}
use Rattle.tree_choice.specs.Columns.{AreEnds, HoldsBoxes, AreCorners}
use Rattle.tree_choice.specs.Blocks.{AreBlocks, AreGroups, AreNotedEnds}

-- the candidate is a piece of the lines, and its margins are those of its ray
pub record IsSighted (by : Candidate) : Type 0 where
  pub piece : IsPiece by.lines.now by.piece.now
  pub ray : by.margins.ray ≡ ray_of by.lines.now by.piece.now
  pub margins : AreMargins by.margins

-- the counts are those that the candidate makes of the list
abbrev pub AreCountsBy : Candidate → List Piece → Counts → Type 0
AreCountsBy by ps c = AreCounts by.lines.now by.piece.now ps c

-- pieces of the lines, with the rounded ends of each
pub record AreEnded (lines : List Edge) (list : EndedPieces) : Type 0 where
  pub each : All (IsPiece lines) list.pieces.now
  pub ends : AreEnds lines list.pieces.now list.firsts.now list.lasts.now

-- pieces of the lines, with a box for each block and its two corners by the candidate's ray
pub record AreBoxed (by : Candidate) (blocks : Blocks) : Type 0 where
  pub each : All (IsPiece by.lines.now) blocks.pieces.now
  pub few : length blocks.pieces.now < 2 ^ 32
  pub boxes : AreBlocks by.lines.now blocks.pieces.now blocks.boxes.now
  pub corners : AreCorners by.margins.ray blocks.boxes.now blocks.lows.now blocks.highs.now

-- pieces of the lines, with all that is noted of them for every candidate
pub record AreNoted (lines : List Edge) (list : NotedPieces) : Type 0 where
  pub each : All (IsPiece lines) list.pieces.now
  pub few : length list.pieces.now < 2 ^ 32
  pub ends : AreEnds lines list.pieces.now list.firsts.now list.lasts.now
  pub blocks : AreBlocks lines list.pieces.now list.blocks.now
  pub corners : HoldsBoxes list.blocks.now list.corners.now
  pub groups : AreGroups lines list.pieces.now list.groups.now
  pub boxes : AreNotedEnds lines list.pieces.now list.ends.now
