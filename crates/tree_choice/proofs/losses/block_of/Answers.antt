use Rattle.std.proofs.Common.{◌≡◌, ◌∙◌, ◌+◌, ◌≤◌, sym, ap, subst, length, take, get_or, List, [], ◌∷◌, ◌++◌, All, Some, None, arith}
use Rattle.std.proofs.lemmas.List.{take_all, take_more, length-take, append-nil}
use Rattle.std.proofs.lemmas.List.Elements.{All-get_or}
use Rattle.tree_pieces.specs.declared.piece.Piece.{Piece}
use Rattle.tree_pieces.specs.Pieces.{IsPiece}
use Rattle.tree_choice.specs.declared.losses.Loss.{Loss}
use Rattle.tree_choice.specs.Losses.{IsLoss, HoldsGone, wholes, rests}
use Rattle.tree_choice.specs.Blocks.{HoldsPlace}
use Rattle.tree_pieces.specs.Boxes.{IsWellIn}
use Rattle.tree_choice.proofs.LossLemmas.{no_loss, one_more_held, all_held_well, wholes_more, rests_more, rests_counted, each_whole, each_rest}
use Rattle.tree_choice.proofs.losses.block_of.Goals as goal
use Rattle.tree_choice.proofs.losses.block_of.Goals.{Joined-loss, in-None, in-Some+in_ok-push-in-Some}

pub with_loss-bounds-requires-clause-loss : goal.with_loss-bounds-requires-clause-loss
with_loss-bounds-requires-clause-loss c = All-get_or (IsLoss c.args.lines.now) c.args.losses.now c.loop-loss.loss-index no_loss c.loop-loss-test.true c.requires.each

-- the rests of the losses so far, and how many have none
record Next (c : Joined-loss) : Type 0 where
  gained : c.match-loss.gained.items ≡ rests (take (c.loop-loss.loss-index + 1) c.args.losses.now)
  gone : c.match-loss.gone + length (rests (take (c.loop-loss.loss-index + 1) c.args.losses.now)) ≡ length (take (c.loop-loss.loss-index + 1) c.args.losses.now)

next : (c : Joined-loss) → Next c
next c =
    let ls = c.args.losses.now in
    let n = c.loop-loss.loss-index in
    let t = c.loop-loss-test.true in
    let i = c.loop-loss.invariant in
    let before = length-take n ls in
    let after = length-take (n + 1) ls in
    elim c.match-loss.branch [
      | in-None w ↦
          (let m = rests_more ls n no_loss None t w.in-None.is ∙ append-nil (rests (take n ls)) in
          let k = ap length m in
          record { gained = ap (λ v. v.items) w.gained-is ∙ i.gained ∙ sym m; gone = omega (arith, w.gone-is, i.gone) })
      | in-Some+in_ok-push-in-Some w ↦
          (let m = rests_more ls n no_loss (Some w.in-Some.rest) t w.in-Some.is in
          let k = rests_counted (rests (take n ls)) w.in-Some.rest (rests (take (n + 1) ls)) m in
          record {
            gained = ap (λ v. v.items) w.gained-is ∙ w.in_ok-push-in-Some.ensures.items ∙ ap (λ (ps : List Piece). ps ++ w.in-Some.rest ∷ []) i.gained ∙ sym m;
            gone = omega (arith, w.gone-is, i.gone);
          })
    ]

pub loop-loss-preserved : goal.loop-loss-preserved
loop-loss-preserved c =
    let ls = c.args.losses.now in
    let n = c.loop-loss.loss-index in
    let t = c.loop-loss-test.true in
    let i = c.loop-loss.invariant in
    let w = c.with_loss-bounds in
    record {
      list = c.in_ok-push.ensures.items ∙ ap (λ (xs : List Loss). xs ++ get_or ls n no_loss ∷ []) i.list ∙ sym (take_more ls n no_loss t);
      inner = w.ensures.inner;
      held = one_more_held c.args.lines.now c.loop-loss.bounds w.result ls n no_loss w.ensures.wider t i.held w.ensures.holds;
      lost = c.in_ok-push-2.ensures.items ∙ ap (λ (ps : List Piece). ps ++ (get_or ls n no_loss).piece ∷ []) i.lost ∙ sym (wholes_more ls n no_loss t);
      gained = (next c).gained;
      gone = (next c).gone;
    }

pub of-requires : goal.of-requires
of-requires c =
    let all = take_all c.loop-loss.loss-index c.args.losses.now (let t = c.loop-loss-test.false in omega arith) in
    subst (All (IsPiece c.args.lines.now)) (sym (c.loop-loss.invariant.lost ∙ ap wholes all)) (each_whole c.args.lines.now c.args.losses.now c.requires.each)

pub of-requires-2 : goal.of-requires-2
of-requires-2 c =
    let all = take_all c.loop-loss.loss-index c.args.losses.now (let t = c.loop-loss-test.false in omega arith) in
    subst (All (IsPiece c.args.lines.now)) (sym (c.loop-loss.invariant.gained ∙ ap rests all)) (each_rest c.args.lines.now c.args.losses.now c.requires.each)

pub returns-clause-block : goal.returns-clause-block
returns-clause-block c =
    let ls = c.args.losses.now in
    let i = c.loop-loss.invariant in
    let all = take_all c.loop-loss.loss-index ls (let t = c.loop-loss-test.false in omega arith) in
    let list = i.list ∙ all in
    let e = list in
    record {
      each = subst (All (IsLoss c.args.lines.now)) (sym e) c.requires.each;
      few = subst (λ (xs : List Loss). length xs ≤ 16) (sym e) c.requires.few;
      held = subst (λ (xs : List Loss). All (λ l. HoldsGone (IsWellIn c.widened.result) c.args.lines.now l.piece l.rest) xs) (sym e)
          (all_held_well c.args.lines.now c.loop-loss.bounds c.widened.result c.widened.ensures ls
          (subst (All (λ l. HoldsGone (HoldsPlace c.loop-loss.bounds) c.args.lines.now l.piece l.rest)) all i.held));
      gone = subst (λ (xs : List Loss). c.loop-loss.gone + length (rests xs) ≡ length xs) (all ∙ sym e) i.gone;
      lost = c.in_ok-of.ensures.pieces ∙ i.lost ∙ ap wholes (all ∙ sym e);
      gained = c.in_ok-of-2.ensures.pieces ∙ i.gained ∙ ap rests (all ∙ sym e);
      lost_ends = c.in_ok-of.ensures.ends;
      gained_ends = c.in_ok-of-2.ensures.ends;
    }

pub returns-clause-losses : goal.returns-clause-losses
returns-clause-losses c = c.loop-loss.invariant.list ∙ take_all c.loop-loss.loss-index c.args.losses.now (let t = c.loop-loss-test.false in omega arith)
