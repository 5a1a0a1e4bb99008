use Rattle.std.proofs.Common.{rules}
use Rattle.tree_nodes.proofs.CornerLemmas.{up_side, down_side}
use Rattle.tree_nodes.proofs.corners.joined.Goals as goal

pub returns : goal.returns
returns c =
    let a = c.args.a in
    let b = c.args.b in
    let t = up_side a.top b.top c.greater.result (search rules) (search rules) (search rules) c.greater.ensures.first c.greater.ensures.second c.greater.ensures.one in
    let u = down_side a.bottom b.bottom c.lesser.result (search rules) (search rules) (search rules) c.lesser.ensures.first c.lesser.ensures.second c.lesser.ensures.one in
    let v = down_side a.left b.left c.lesser-2.result (search rules) (search rules) (search rules) c.lesser-2.ensures.first c.lesser-2.ensures.second c.lesser-2.ensures.one in
    let w = up_side a.right b.right c.greater-2.result (search rules) (search rules) (search rules) c.greater-2.ensures.first c.greater-2.ensures.second c.greater-2.ensures.one in
    record {
      top_first = t.0;
      top_second = t.1;
      top = t.2;
      bottom_first = u.0;
      bottom_second = u.1;
      bottom = u.2;
      left_first = v.0;
      left_second = v.1;
      left = v.2;
      right_first = w.0;
      right_second = w.1;
      right = w.2;
    }
