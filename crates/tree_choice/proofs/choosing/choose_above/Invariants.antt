use Rattle.std.proofs.Common.{◌≤◌, length}
use Rattle.tree_choice.specs.Blocks.{AreGroups, AreNotedEnds}
use Rattle.tree_choice.specs.Floors.{AreKnown}
use Rattle.tree_choice.specs.SoFar.{SoFar}
use Rattle.tree_choice.specs.Columns.{HoldsBoxes}
use Rattle.tree_choice.proofs.choosing.choose_above.Given as goal

abbrev pub invariant-loop-at : goal.invariant-loop-at
invariant-loop-at l = record {
  so_far : SoFar l.lines l.pieces l.used l.bound l.at l.best;
  floors : AreKnown l.lines l.pieces l.floors;
  sides : HoldsBoxes l.blocks l.straight.sides;
  groups : AreGroups l.lines l.ordered.pieces.now l.straight.groups.items;
  boxes : AreNotedEnds l.lines l.ordered.pieces.now l.straight.ends;
  room : length l.blocks ≤ length l.straight.noted.items;
}
