use Rattle.std.proofs.Common.{sym, ◌∙◌, arith}
use Rattle.std.proofs.lemmas.Int.{ints}
use Rattle.tree_pieces.proofs.EdgeLemmas.{apart_is}
use Rattle.tree_pieces.proofs.Known.{unequal}
use Rattle.tree_pieces.proofs.line_list.fault_between.Goals as goal

pub returns : goal.returns
returns c =
    let e = c.args.edge in
    let p = c.squared_distance.ensures.products in
    let q = c.if-squared_distance-gt-LONGEST_SQUARED.false in
    record {
      start = c.is_drawable.ensures.0 c.if-not-is_drawable.false;
      end = c.is_drawable-else-not-is_drawable.ensures.0 c.if-not-is_drawable-2.false;
      apart = apart_is e.v1 e.v2 (unequal e.v1 e.v2 (sym c.eq.ensures ∙ c.if-eq.false));
      short = omega (arith, ints);
    }
