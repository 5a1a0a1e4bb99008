use Rattle.std.proofs.Common.{◌≡◌, sym, ap, ◌∙◌, rules}
use Rattle.std.proofs.lemmas.Bool.{eqb-true}
use Rattle.std.specs.Prelude.{FitsSigned}
use Rattle.std.specs.Int.{w64}
use mir.Val.{of_z}
use Rattle.lump_records.specs.declared.plane.Ray.{Ray}
use Rattle.tree_pieces.specs.declared.edge.Edge.{Edge}
use Rattle.tree_pieces.specs.Plane.{vertex_value}
use Rattle.tree_pieces.specs.Pieces.{edge_of, ray_of}
use Rattle.tree_pieces.proofs.Zeros.{zero_is, zero_if, zero_then}
use Rattle.tree_pieces.proofs.dividing.lies_along.Goals as goal
use Rattle.tree_pieces.proofs.dividing.lies_along.Goals.{After-value_at-end}

record Facts (c : After-value_at-end) : Type 0 where
  start : c.value_at-start.result ≡ vertex_value (ray_of c.args.lines.now c.args.first.now) (edge_of c.args.lines.now c.args.second.now).v1
  end : c.value_at-end.result ≡ vertex_value (ray_of c.args.lines.now c.args.first.now) (edge_of c.args.lines.now c.args.second.now).v2
  fits_start : FitsSigned w64 c.value_at-start.result
  fits_end : FitsSigned w64 c.value_at-end.result

facts : (c : After-value_at-end) → Facts c
facts c =
    let r = ray_of c.args.lines.now c.args.first.now in
    record {
      start = c.value_at-start.ensures.value ∙ ap (λ (r : Ray). vertex_value r c.line_of-edge.result.v1) c.ray_of-ray.ensures.ray ∙ ap (λ (e : Edge). vertex_value r e.v1) c.line_of-edge.ensures.line;
      end = c.value_at-end.ensures.value ∙ ap (λ (r : Ray). vertex_value r c.line_of-edge.result.v2) c.ray_of-ray.ensures.ray ∙ ap (λ (e : Edge). vertex_value r e.v2) c.line_of-edge.ensures.line;
      fits_start = search rules;
      fits_end = search rules;
    }

pub returns-then-start-eq0-clause-yes : goal.returns-then-start-eq0-clause-yes
returns-then-start-eq0-clause-yes c =
    let f = facts (goal.at.returns-then-start-eq0-clause-yes c).After-value_at-end in
    λ t. (sym f.start ∙ zero_is c.value_at-start.result f.fits_start c.if-start-eq0.true, sym f.end ∙ zero_if c.value_at-end.result f.fits_end t)

pub returns-then-start-eq0-clause-no : goal.returns-then-start-eq0-clause-no
returns-then-start-eq0-clause-no c =
    let f = facts (goal.at.returns-then-start-eq0-clause-no c).After-value_at-end in
    λ on. zero_then c.value_at-end.result (f.end ∙ on.1)

pub returns-else-start-eq0-clause-yes : goal.returns-else-start-eq0-clause-yes
returns-else-start-eq0-clause-yes c = λ t. absurd (c.if-start-eq0.false (eqb-true (of_z w64 c.value_at-start.result) 0 t))
