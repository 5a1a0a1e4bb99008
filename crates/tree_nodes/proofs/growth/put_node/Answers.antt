use Rattle.std.proofs.Common.{refl, ◌∙◌, arith}
use Rattle.tree_nodes.proofs.growth.put_node.Goals as goal

pub returns-in-Ok-clause-ok : goal.returns-in-Ok-clause-ok
returns-in-Ok-clause-ok c = record {
  segs = refl;
  sizes = refl;
  node = c.node_of-node.result;
  nodes = c.in-Ok.ensures.items;
  along = c.node_of-node.ensures.along ∙ c.ray_of-ray.ensures.ray;
  right_is = c.node_of-node.ensures.right;
  left_is = c.node_of-node.ensures.left;
  right_box = c.node_of-node.ensures.right_box;
  left_box = c.node_of-node.ensures.left_box;
  number = omega (arith, c.len-number.ensures, c.args.grown.now.nodes.ok.0);
  bounds = c.joined.ensures;
}
