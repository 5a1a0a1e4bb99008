use Rattle.std.proofs.Common.{◌≡◌, sym, ap, ◌∙◌, subst}
use Rattle.lump_records.specs.Plane.{side_value}
use Rattle.tree_pieces.specs.Plane.{vertex_value}
use Rattle.tree_pieces.specs.Local.{IsSideValue}
use Rattle.tree_pieces.proofs.Bounds.{ray_step, value_within}
use Rattle.tree_pieces.proofs.Shares.{side_back}
use Rattle.tree_pieces.proofs.values.value_at.Goals as goal
use Rattle.tree_pieces.proofs.values.value_at.Goals.{After-side_value}

pub side_value-requires : goal.side_value-requires
side_value-requires c = ray_step c.args.ray c.requires.ray

value_is : (c : After-side_value) → c.side_value.result ≡ vertex_value c.args.ray c.args.place
value_is c = c.side_value.ensures.value ∙ ap (side_value c.args.ray) c.from.ensures

is_side : (c : After-side_value) → IsSideValue c.side_value.result
is_side c =
    let w = value_within c.args.ray c.args.place c.requires.ray c.requires.place in
    subst IsSideValue (sym (value_is c)) (record { low = w.low; high = w.high })

pub returns-clause-value : goal.returns-clause-value
returns-clause-value c = let a = (goal.at.returns-clause-value c).After-side_value in side_back c.side_value.result (is_side a) ∙ value_is a

pub returns-clause-low : goal.returns-clause-low
returns-clause-low c = let s = is_side (goal.at.returns-clause-low c).After-side_value in rw (side_back c.side_value.result s) s.low

pub returns-clause-high : goal.returns-clause-high
returns-clause-high c = let s = is_side (goal.at.returns-clause-high c).After-side_value in rw (side_back c.side_value.result s) s.high
