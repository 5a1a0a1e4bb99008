use Rattle.std.proofs.Common.{rules}
use Rattle.std.specs.Prelude.{FitsSigned}
use Rattle.std.specs.Int.{w16}
use Rattle.tree_choice.proofs.Casts.{up_16, down_16}
use Rattle.tree_choice.proofs.block_boxes.joined.Goals as goal
use Rattle.tree_choice.proofs.block_boxes.joined.Goals.{After-max-2}

record Fits (c : After-max-2) : Type 0 where
  top : FitsSigned w16 c.max.result
  bottom : FitsSigned w16 c.min.result
  left : FitsSigned w16 c.min-2.result
  right : FitsSigned w16 c.max-2.result

fits : (c : After-max-2) → Fits c
fits c = record { top = search rules; bottom = search rules; left = search rules; right = search rules }

pub returns-clause-first : goal.returns-clause-first
returns-clause-first c =
    let f = fits (goal.at.returns-clause-first c).After-max-2 in
    let a = c.args.a in
    record {
      top = up_16 a.top c.max.result (search rules) f.top c.max.ensures.self_bound;
      bottom = down_16 a.bottom c.min.result (search rules) f.bottom c.min.ensures.self_bound;
      left = down_16 a.left c.min-2.result (search rules) f.left c.min-2.ensures.self_bound;
      right = up_16 a.right c.max-2.result (search rules) f.right c.max-2.ensures.self_bound;
    }

pub returns-clause-second : goal.returns-clause-second
returns-clause-second c =
    let f = fits (goal.at.returns-clause-second c).After-max-2 in
    let b = c.args.b in
    record {
      top = up_16 b.top c.max.result (search rules) f.top c.max.ensures.other_bound;
      bottom = down_16 b.bottom c.min.result (search rules) f.bottom c.min.ensures.other_bound;
      left = down_16 b.left c.min-2.result (search rules) f.left c.min-2.ensures.other_bound;
      right = up_16 b.right c.max-2.result (search rules) f.right c.max-2.ensures.other_bound;
    }
