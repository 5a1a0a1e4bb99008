use Rattle.std.proofs.Common.{◌+◌, ◌∙◌, ap, subst, ◌++◌, ◌∷◌, [], drop, List}
use Rattle.std.specs.Prelude.{map}
use Rattle.lump_records.specs.declared.records.Vertex.{Vertex}
use Rattle.tree_pieces.specs.declared.piece.Ends.{Ends}
use Rattle.tree_pieces.specs.declared.piece.Piece.{Piece}
use Rattle.tree_pieces.specs.Pieces.{first_end, last_end}
use Rattle.tree_pieces.proofs.ItemReads.{map_more, map_all}
use Rattle.tree_choice.specs.Columns.{AreEnds}
use Rattle.tree_choice.proofs.BoxLemmas.{no_piece}
use Rattle.tree_choice.proofs.ends.EndedList.of.Goals as goal

pub loop-piece-preserved : goal.loop-piece-preserved
loop-piece-preserved c =
    let lines = c.args.lines.now in
    let ps = c.deref-piece-items.result.now in
    let n = c.loop-piece.piece-index in
    let own = c.ends_of-ends.ensures in
    let i = c.loop-piece.invariant in
    record {
      firsts = ap (λ (xs : List Vertex). xs ++ map (first_end lines) (drop (n + 1) ps))
          (c.in_ok-push.ensures.items ∙ ap (λ (e : Ends). c.loop-piece.firsts.items ++ e.first ∷ []) own)
          ∙ map_more (first_end lines) ps c.loop-piece.firsts.items n no_piece c.loop-piece-test.true i.firsts;
      lasts = ap (λ (xs : List Vertex). xs ++ map (last_end lines) (drop (n + 1) ps))
          (c.in_ok-push-2.ensures.items ∙ ap (λ (e : Ends). c.loop-piece.lasts.items ++ e.last ∷ []) own)
          ∙ map_more (last_end lines) ps c.loop-piece.lasts.items n no_piece c.loop-piece-test.true i.lasts;
    }

pub returns-clause-ends : goal.returns-clause-ends
returns-clause-ends c =
    let lines = c.args.lines.now in
    let ps = c.deref-piece-items.result.now in
    let i = c.loop-piece.invariant in
    subst (λ (qs : List Piece). AreEnds lines qs c.loop-piece.firsts.items c.loop-piece.lasts.items) c.deref-piece-items.ensures.value
    (record {
      firsts_are = map_all (first_end lines) ps c.loop-piece.firsts.items c.loop-piece.piece-index c.loop-piece-test.false i.firsts;
      lasts_are = map_all (last_end lines) ps c.loop-piece.lasts.items c.loop-piece.piece-index c.loop-piece-test.false i.lasts;
    })
