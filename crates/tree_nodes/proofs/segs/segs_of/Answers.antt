use Rattle.std.proofs.Common.{◌≡◌, ◌∙◌, sym, ap, subst, length, ◌++◌, [], ◌∷◌, List, slice_get, arith}
use Rattle.std.proofs.lemmas.Option.{slice_get-get_or}
use Rattle.std.proofs.lemmas.List.{length-append}
use Rattle.lump_records.specs.declared.records.Seg.{Seg}
use Rattle.tree_nodes.specs.Numbers.{AreNumbered}
use Rattle.tree_nodes.proofs.Numbering.{none_numbered, segs_refused, next_numbered}
use Rattle.tree_nodes.proofs.segs.segs_of.Goals as goal

pub loop-piece-init : goal.loop-piece-init
loop-piece-init c =
    let e = c.in_ok-segs.ensures.items in
    record {
      numbered =
          subst (λ (xs : List Seg).
          AreNumbered c.args.lines.now c.args.points.now c.args.points.now c.args.pieces.now xs) (sym e)
          (none_numbered c.args.lines.now c.args.points.now c.args.pieces.now c.requires.few);
      many = ap length e;
    }

pub returns-in-Err-clause-refused : goal.returns-in-Err-clause-refused
returns-in-Err-clause-refused c =
    segs_refused c.args.lines.now c.args.points.now c.args.pieces.now c.loop-piece.points c.loop-piece.points c.loop-piece.segs.items c.loop-piece.invariant.numbered c.loop-piece.piece-index _ c.in-Err.error
    (omega (arith, c.loop-piece.invariant.many, c.loop-piece-test.true))
    (slice_get-get_or c.args.pieces.now c.loop-piece.piece-index _ (omega (arith, c.loop-piece-test.true)))
    c.in-Err.ensures.refused

pub loop-piece-preserved : goal.loop-piece-preserved
loop-piece-preserved c =
    let segs = c.loop-piece.segs.items in
    let h = next_numbered c.args.lines.now c.args.points.now c.args.pieces.now c.loop-piece.points c.seg_of.new.points segs c.loop-piece.invariant.numbered _ c.in-Ok.seg
    (ap (slice_get c.args.pieces.now) c.loop-piece.invariant.many ∙ slice_get-get_or c.args.pieces.now c.loop-piece.piece-index _ (omega (arith, c.loop-piece-test.true)))
    c.in-Ok.ensures.seg c.in-Ok.ensures.numbers in
    let e : c.push.new.self.items ≡ segs ++ c.in-Ok.seg ∷ [] = c.in-Ok-push.ensures.items in
    let l = length-append segs (c.in-Ok.seg ∷ []) in
    let m = c.loop-piece.invariant.many in
    record {
      numbered = subst (λ (xs : List Seg). AreNumbered c.args.lines.now c.args.points.now c.seg_of.new.points c.args.pieces.now xs) (sym e) h;
      many = ap length e ∙ omega arith;
    }
