use Rattle.std.proofs.Common.{◌≡◌, List, length, sym, ap, ◌∙◌, subst, ℕ, ◌+◌, ◌<◌, [], ◌∷◌, ◌++◌, get_or, below_more, arith}
use Rattle.std.proofs.Math.ListN.{get_or-append}
use Rattle.std.proofs.Math.Seq.{get_or-append_seam}
use Rattle.std.proofs.lemmas.List.{length-append}
use Rattle.std.proofs.lemmas.List.Elements.{All-get_or}
use Rattle.tree_pieces.specs.declared.edge.Edge.{Edge}
use Rattle.tree_pieces.specs.declared.edge.Facing.TheVariants.{Along}
use Rattle.tree_pieces.specs.Plane.{ray, IsEdge}
use Rattle.tree_pieces.specs.Pieces.{no_edge, edge_at}
use Rattle.tree_pieces.specs.LineAngles.{IsRayAngle}
use Rattle.tree_pieces.proofs.line_angles.angles_in.Goals as goal

pub line_angle-requires : goal.line_angle-requires
line_angle-requires c = All-get_or IsEdge c.as_slice-edges.result.now c.loop-edge.edge-index no_edge c.loop-edge-test.true c.as_slice-edges.ensures.drawn

pub loop-edge-preserved : goal.loop-edge-preserved
loop-edge-preserved c =
    let i = c.loop-edge.invariant in
    let xs = c.loop-edge.angles.items in
    let n = c.loop-edge.edge-index in
    let a = c.line_angle.result in
    let lines = c.args.lines.now in
    let pushed = c.in_ok-push.ensures.items in
    let earlier : (line : ℕ) → line < n → IsRayAngle (ray (edge_at lines line) Along) (get_or (xs ++ a ∷ []) line 0) =
    λ line l. subst (IsRayAngle (ray (edge_at lines line) Along))
    (sym (get_or-append xs (a ∷ []) 0 line (omega (arith, i.as_many)))) (i.each line l) in
    let there : get_or (xs ++ a ∷ []) n 0 ≡ a = ap (λ (k : ℕ). get_or (xs ++ a ∷ []) k 0) (sym i.as_many) ∙ get_or-append_seam xs a [] 0 in
    let newest = subst (IsRayAngle (ray (edge_at lines n) Along)) (sym there) (subst (λ (es : List Edge). IsRayAngle (ray (edge_at es n) Along) a) c.as_slice-edges.ensures.lines c.line_angle.ensures) in
    record {
      as_many = rw pushed (length-append xs (a ∷ []) ∙ ap (λ (k : ℕ). k + 1) i.as_many);
      each = rw pushed (below_more (λ line. IsRayAngle (ray (edge_at lines line) Along) (get_or (xs ++ a ∷ []) line 0)) n earlier newest);
    }

pub returns : goal.returns
returns c =
    let i = c.loop-edge.invariant in
    let many = i.as_many in
    let end = c.loop-edge.auto.edge-index-end in
    let last = c.loop-edge-test.false in
    let same = ap length c.as_slice-edges.ensures.lines in
    record { as_many = omega arith; each = λ line l. i.each line (omega arith) }
