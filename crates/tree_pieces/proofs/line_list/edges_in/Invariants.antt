use Rattle.std.proofs.Common.{◌≡◌, map, take, All}
use Rattle.tree_pieces.specs.Edges.{edge_between, IsBuildable}
use Rattle.tree_pieces.proofs.line_list.edges_in.Given as goal

-- the lines so far, which may be built
abbrev pub invariant-loop-n : goal.invariant-loop-n
invariant-loop-n l = record {
  edges : l.edges.items ≡ map (edge_between l.vertices) (take l.n l.lines);
  each : All (IsBuildable l.vertices l.sides) (take l.n l.lines);
}
