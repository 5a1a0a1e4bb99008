use Rattle.std.proofs.Common.{◌≡◌, sym, ap, ◌∙◌, subst, rules}
use Rattle.std.proofs.lemmas.Int.{to_z-of_z}
use Rattle.std.specs.Prelude.{ℤ, pos, int_lt, FitsSigned}
use Rattle.std.specs.Int.{w64}
use mir.Val.{to_z, of_z}
use Rattle.tree_pieces.specs.declared.frac.Frac.{Frac}
use Rattle.tree_pieces.specs.declared.piece.Place.TheVariants.{Across}
use Rattle.tree_pieces.specs.Plane.{vertex_value}
use Rattle.tree_pieces.specs.Fractions.{between, exact_value, crossing, zero_between, IsFraction}
use Rattle.tree_pieces.specs.Local.{place_on, cut_on, parts_at}
use Rattle.tree_pieces.proofs.LocalLemmas.{crossing_fraction}
use Rattle.tree_pieces.proofs.Shares.{side_value_back}
use Rattle.tree_pieces.proofs.dividing.divide_on.Goals as goal
use Rattle.tree_pieces.proofs.dividing.divide_on.Goals.{After-zero_of-at}

pub value_between-from-requires-clause-first : goal.value_between-from-requires-clause-first
value_between-from-requires-clause-first c = let v = c.value_at-first.ensures in side_value_back c.value_at-first.result v.low v.high

pub value_between-from-requires-clause-last : goal.value_between-from-requires-clause-last
value_between-from-requires-clause-last c = let v = c.value_at-last.ensures in side_value_back c.value_at-last.result v.low v.high

pub zero_of-at-requires-clause-first : goal.zero_of-at-requires-clause-first
zero_of-at-requires-clause-first c = let v = c.value_at-first.ensures in side_value_back c.value_at-first.result v.low v.high

pub zero_of-at-requires-clause-last : goal.zero_of-at-requires-clause-last
zero_of-at-requires-clause-last c = let v = c.value_at-last.ensures in side_value_back c.value_at-last.result v.low v.high

-- a piece that lies across is cut at a fraction
pub zero_of-at-requires-clause-fraction : goal.zero_of-at-requires-clause-fraction
zero_of-at-requires-clause-fraction c =
    let r = c.args.ray in
    let e = c.args.edge in
    let ff : FitsSigned w64 c.value_at-first.result = search rules in
    let fl : FitsSigned w64 c.value_at-last.result = search rules in
    let first = to_z-of_z w64 c.value_at-first.result ff ∙ c.value_at-first.ensures.value in
    let last = to_z-of_z w64 c.value_at-last.result fl ∙ c.value_at-last.ensures.value in
    let f = crossing_fraction r e c.args.piece.now c.requires.ray c.requires.line c.requires.fractions (sym c.place_on-place.ensures ∙ c.in-Across.is) in
    subst (λ (x : ℤ). IsFraction (zero_between x (to_z w64 (of_z w64 c.value_at-last.result)))) (sym first)
    (subst (λ (x : ℤ). IsFraction (zero_between (vertex_value r e.v1) x)) (sym last) f)

record Facts (c : After-zero_of-at) : Type 0 where
  place : place_on c.args.ray c.args.edge c.args.piece.now ≡ Across
  at : c.zero_of-at.result ≡ crossing c.args.ray c.args.edge
  from : c.value_between-from.result ≡ exact_value c.args.ray c.args.edge c.args.piece.now.from

facts : (c : After-zero_of-at) → Facts c
facts c =
    let r = c.args.ray in
    let e = c.args.edge in
    let p = c.args.piece.now in
    let ff : FitsSigned w64 c.value_at-first.result = search rules in
    let fl : FitsSigned w64 c.value_at-last.result = search rules in
    let ef = to_z-of_z w64 c.value_at-first.result ff in
    let el = to_z-of_z w64 c.value_at-last.result fl in
    let first : c.value_at-first.result ≡ vertex_value r e.v1 = c.value_at-first.ensures.value in
    let last : c.value_at-last.result ≡ vertex_value r e.v2 = c.value_at-last.ensures.value in
    let u : c.value_between-from.result ≡ between c.value_at-first.result c.value_at-last.result p.from = simp (ef, el) at c.value_between-from.ensures in
    let z : c.zero_of-at.result ≡ zero_between c.value_at-first.result c.value_at-last.result = simp (ef, el) at c.zero_of-at.ensures in
    record {
      place = sym c.place_on-place.ensures ∙ c.in-Across.is;
      at = z ∙ ap (λ (x : ℤ). zero_between x c.value_at-last.result) first ∙ ap (λ (x : ℤ). zero_between (vertex_value r e.v1) x) last;
      from = u ∙ ap (λ (x : ℤ). between x c.value_at-last.result p.from) first ∙ ap (λ (x : ℤ). between (vertex_value r e.v1) x p.from) last;
    }

pub cut-requires-clause-at : goal.cut-requires-clause-at
cut-requires-clause-at c =
    let f = facts (goal.at.cut-requires-clause-at c).After-zero_of-at in
    subst IsFraction (sym f.at) (crossing_fraction c.args.ray c.args.edge c.args.piece.now c.requires.ray c.requires.line c.requires.fractions f.place)

pub returns-in-Across : goal.returns-in-Across
returns-in-Across c =
    let f = facts (goal.at.returns-in-Across c).After-zero_of-at in
    let r = c.args.ray in
    let e = c.args.edge in
    let p = c.args.piece.now in
    let fu : FitsSigned w64 c.value_between-from.result = search rules in
    let s = simp (to_z-of_z w64 c.value_between-from.result fu) at c.cut.ensures in
    s ∙ ap (λ (x : Frac). cut_on e p x (int_lt (pos 0) c.value_between-from.result)) f.at
    ∙ ap (λ (x : ℤ). cut_on e p (crossing r e) (int_lt (pos 0) x)) f.from
    ∙ ap (parts_at r e p) (sym f.place)
