use Rattle.std.proofs.Common.{◌∙◌, ◌++◌, ◌∷◌, [], ap, List}
use Rattle.tree_nodes.specs.Placed.{Waiting}
use Rattle.tree_nodes.proofs.step.put_lists.Goals as goal

pub returns : goal.returns
returns c = λ lines p ps r l listed also. record {
  right = c.args.right;
  left = c.args.left;
  lists = c.in_ok-push-2.ensures.items ∙ ap (λ (x : List Waiting). x ++ c.args.right ∷ []) c.in_ok-push.ensures.items;
  right_is = r;
  left_is = l;
  right_listed = listed;
  left_listed = also;
}
