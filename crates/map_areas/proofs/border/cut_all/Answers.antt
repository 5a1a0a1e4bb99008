use Rattle.std.proofs.Common.{◌≡◌, ℕ, ◌<◌, ◌∙◌, [], ◌∷◌, ◌++◌, List, Some, ap, sym, get_or, length, ◌+◌, take, subst, below_more}
use Rattle.std.specs.List.{slice_get}
use Rattle.std.specs.Prelude.{All}
use Rattle.std.proofs.lemmas.List.Elements.{All-push}
use Rattle.std.proofs.lemmas.List.{map-append, take_all, take_more}
use Rattle.std.proofs.lemmas.Option.{get_or_from_slice_get, slice_get-get_or}
use Rattle.map_plane.specs.Places.{placed_lines}
use Rattle.map_plane.specs.declared.places.PlacedLine.{PlacedLine}
use Rattle.map_areas.specs.Cuts.{IsCutWhole, uncut}
use Rattle.map_areas.specs.Refusals.{CrossesBetween}
use Rattle.map_areas.specs.declared.border.CutEdge.{CutEdge}
use Rattle.map_areas.proofs.Crossings.{edge_refused, whole_all}
use Rattle.map_areas.proofs.border.cut_all.Goals as goal

-- one more edge
more : (old new : List CutEdge) (cut : CutEdge) (es : List PlacedLine) (i : ℕ) (d : PlacedLine) → i < length es → new ≡ old ++ cut ∷ [] → uncut old ≡ take i es
    → cut.edge ≡ get_or es i d → uncut new ≡ take (i + 1) es
more old new cut es i d lt is so edge =
    ap uncut is ∙ map-append (λ (c : CutEdge). c.edge) old (cut ∷ []) ∙ (λ t. so t ++ edge t ∷ []) ∙ sym (take_more es i d lt)

pub loop-edge-preserved : goal.loop-edge-preserved
loop-edge-preserved c = record {
  cut =
      subst (λ (cs : List CutEdge). All (IsCutWhole c.args.map.now.tables) cs) (sym c.in_ok-push-in-Ok.ensures.items)
      (All-push (IsCutWhole c.args.map.now.tables) c.loop-edge.all.items c.in-Ok.cut c.loop-edge.invariant.cut c.in-Ok.ensures.cut);
  edges =
      more c.loop-edge.all.items _ c.in-Ok.cut c.args.edges.now c.loop-edge.edge-index _ c.loop-edge-test.true c.in_ok-push-in-Ok.ensures.items c.loop-edge.invariant.edges
      c.in-Ok.ensures.edge;
  whole =
      below_more
      (λ k. (e : PlacedLine) → slice_get c.args.edges.now k ≡ Some e → (n : ℕ) → CrossesBetween (placed_lines c.args.map.now.tables) e n → ⊥)
      c.loop-edge.edge-index c.loop-edge.invariant.whole
      (λ e is. subst (λ (l : PlacedLine). (n : ℕ) → CrossesBetween (placed_lines c.args.map.now.tables) l n → ⊥)
      (get_or_from_slice_get c.args.edges.now c.loop-edge.edge-index e _ is) c.in-Ok.ensures.whole);
}

pub returns-clause-edges : goal.returns-clause-edges
returns-clause-edges c = c.loop-edge.invariant.edges ∙ take_all c.loop-edge.edge-index c.args.edges.now c.loop-edge-test.false

pub returns-clause-whole : goal.returns-clause-whole
returns-clause-whole c =
    whole_all (placed_lines c.args.map.now.tables) c.args.edges.now c.loop-edge.edge-index c.loop-edge-test.false c.loop-edge.invariant.whole

pub returns-in-Err-clause-refused : goal.returns-in-Err-clause-refused
returns-in-Err-clause-refused c =
    edge_refused (placed_lines c.args.map.now.tables) c.args.edges.now c.loop-edge.edge-index _
    (slice_get-get_or c.args.edges.now c.loop-edge.edge-index _ c.loop-edge-test.true) c.in-Err.error c.in-Err.ensures.refused
