use Rattle.std.proofs.Common.{refl, inl}
use Rattle.tree_pieces.specs.Edges.{edges_of}
use Rattle.tree_choice.specs.SoFar.{no_bound}
use Rattle.tree_choice.proofs.Best.{stands_at, finished}
use Rattle.tree_choice.proofs.BoxLemmas.{no_piece}
use Rattle.tree_choice.proofs.map_choice.choose.Goals as goal

pub consider-best-requires-clause-stands : goal.consider-best-requires-clause-stands
consider-best-requires-clause-stands c = stands_at c.args.pieces.now c.loop-at.at no_piece c.loop-at-test.true

pub returns : goal.returns
returns c = finished (edges_of c.args.map.now.tables) c.args.pieces.now c.args.used.now no_bound c.loop-at.at c.loop-at.best c.requires.few (inl refl) c.loop-at-test.false c.loop-at.invariant
