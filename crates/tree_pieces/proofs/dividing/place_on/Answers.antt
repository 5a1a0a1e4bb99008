use Rattle.std.proofs.Common.{◌≡◌, ap, ◌∙◌, rules}
use Rattle.std.proofs.lemmas.Int.{to_z-of_z}
use Rattle.std.specs.Prelude.{ℤ, FitsSigned}
use Rattle.std.specs.Int.{w64}
use Rattle.tree_pieces.specs.Plane.{ray, dot, vertex_value}
use Rattle.tree_pieces.specs.Fractions.{between, exact_value}
use Rattle.tree_pieces.specs.Division.{place_by}
use Rattle.tree_pieces.proofs.Shares.{side_value_back}
use Rattle.tree_pieces.proofs.dividing.place_on.Goals as goal

pub value_between-from-requires-clause-first : goal.value_between-from-requires-clause-first
value_between-from-requires-clause-first c = let v = c.value_at-first.ensures in side_value_back c.value_at-first.result v.low v.high

pub value_between-from-requires-clause-last : goal.value_between-from-requires-clause-last
value_between-from-requires-clause-last c = let v = c.value_at-last.ensures in side_value_back c.value_at-last.result v.low v.high

pub value_between-to-requires-clause-first : goal.value_between-to-requires-clause-first
value_between-to-requires-clause-first c = let v = c.value_at-first.ensures in side_value_back c.value_at-first.result v.low v.high

pub value_between-to-requires-clause-last : goal.value_between-to-requires-clause-last
value_between-to-requires-clause-last c = let v = c.value_at-last.ensures in side_value_back c.value_at-last.result v.low v.high

pub returns : goal.returns
returns c =
    let r = c.args.ray in
    let e = c.args.edge in
    let p = c.args.piece.now in
    let ff : FitsSigned w64 c.value_at-first.result = search rules in
    let fl : FitsSigned w64 c.value_at-last.result = search rules in
    let fu : FitsSigned w64 c.value_between-from.result = search rules in
    let fw : FitsSigned w64 c.value_between-to.result = search rules in
    let fd : FitsSigned w64 c.dot_of-direction.result = search rules in
    let first : c.value_at-first.result ≡ vertex_value r e.v1 = c.value_at-first.ensures.value in
    let last : c.value_at-last.result ≡ vertex_value r e.v2 = c.value_at-last.ensures.value in
    let u : c.value_between-from.result ≡ between c.value_at-first.result c.value_at-last.result p.from =
    simp (
      to_z-of_z w64 c.value_at-first.result ff,
      to_z-of_z w64 c.value_at-last.result fl,
    ) at c.value_between-from.ensures in
    let w : c.value_between-to.result ≡ between c.value_at-first.result c.value_at-last.result p.to =
    simp (
      to_z-of_z w64 c.value_at-first.result ff,
      to_z-of_z w64 c.value_at-last.result fl,
    ) at c.value_between-to.ensures in
    let d : c.dot_of-direction.result ≡ dot r (ray e p.side) = c.dot_of-direction.ensures ∙ ap (dot r) c.ray_of-own.ensures.ray in
    let u' : c.value_between-from.result ≡ exact_value r e p.from = u ∙ ap (λ (x : ℤ). between x c.value_at-last.result p.from) first ∙ ap (λ (x : ℤ). between (vertex_value r e.v1) x p.from) last in
    let w' : c.value_between-to.result ≡ exact_value r e p.to = w ∙ ap (λ (x : ℤ). between x c.value_at-last.result p.to) first ∙ ap (λ (x : ℤ). between (vertex_value r e.v1) x p.to) last in
    let s = simp (to_z-of_z w64 c.value_between-from.result fu, to_z-of_z w64 c.value_between-to.result fw, to_z-of_z w64 c.dot_of-direction.result fd) at c.place_by_signs.ensures in
    s ∙ ap (λ (x : ℤ). place_by x c.value_between-to.result c.dot_of-direction.result) u'
    ∙ ap (λ (x : ℤ). place_by (exact_value r e p.from) x c.dot_of-direction.result) w'
    ∙ ap (λ (x : ℤ). place_by (exact_value r e p.from) (exact_value r e p.to) x) d
