use Rattle.std.proofs.Common.{sym, ap, subst, [], length, arith, Bool, Vec, Global}
use Rattle.tree_pieces.specs.Tree.{IsReached}
use Rattle.tree_nodes.specs.declared.growth.Grown.{Grown}
use Rattle.tree_nodes.specs.Growth.{lists_of, IsRefused}
use Rattle.tree_nodes.specs.OpenTree.{HasGrownTree}
use Rattle.tree_nodes.proofs.open_tree.grow.Goals as goal

pub grow_next-requires : goal.grow_next-requires
grow_next-requires c =
    let made = c.in-Ok.ensures in
    record {
      rest = [];
      list = c.args.list;
      lists = made.lists;
      divisible = record {
        reached = subst (λ (u : Vec Bool Global). IsReached c.args.lines.now u.items c.args.list.value.ended.pieces.items) (sym made.used) c.requires.reached;
        listed = c.requires.placed;
        some = c.requires.some;
        few = c.requires.few;
        fewer = let n = ap (λ (g : Grown). length g.nodes.items) made.grown in let s = ap (λ (g : Grown). length g.counts.items) made.grown in omega (arith, n, s, c.requires.fewer);
      };
    }

pub returns-in-Err-grow_next-clause-refused : goal.returns-in-Err-grow_next-clause-refused
returns-in-Err-grow_next-clause-refused c =
    let made = c.in-Ok.ensures in
    let r = c.in-Err-grow_next.ensures.refused [] c.args.list made.lists in
    subst (λ (g : Grown). IsRefused c.args.lines.now c.args.list.value.ended.pieces.items c.args.used.items c.args.room (lists_of g) c.in-Err-grow_next.error) made.grown
    (subst (λ (u : Vec Bool Global). IsRefused c.args.lines.now c.args.list.value.ended.pieces.items u.items c.args.room (lists_of c.in-Ok.tree.grown) c.in-Err-grow_next.error) made.used r)

pub returns-in-Ok-grow_next-clause-ok : goal.returns-in-Ok-grow_next-clause-ok
returns-in-Ok-grow_next-clause-ok c =
    let made = c.in-Ok.ensures in
    let r = c.in-Ok-grow_next.ensures.ok [] c.args.list made.lists in
    subst (λ (g : Grown). HasGrownTree c.args.lines.now c.args.list.value.ended.pieces.items c.args.used.items c.args.room (lists_of g) (lists_of c.grow_next.new.tree.grown)) made.grown
    (subst (λ (u : Vec Bool Global). HasGrownTree c.args.lines.now c.args.list.value.ended.pieces.items u.items c.args.room (lists_of c.in-Ok.tree.grown) (lists_of c.grow_next.new.tree.grown)) made.used (r.child, r.grown))
