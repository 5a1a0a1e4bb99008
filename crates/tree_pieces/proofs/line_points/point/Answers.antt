use Rattle.std.proofs.Common.{◌≡◌, sym, arith}
use Rattle.std.proofs.lemmas.Int.{ints}
use Rattle.std.specs.Prelude.{pos}
use Rattle.tree_pieces.specs.Fractions.{rounded}
use Rattle.tree_pieces.proofs.Rounding.{rounded_start, rounded_end}
use Rattle.tree_pieces.proofs.Coordinates.{IsDrawn, drawn_by}
use Rattle.tree_pieces.proofs.line_points.point.Goals as goal
use Rattle.tree_pieces.proofs.line_points.point.Goals.{Then-at-eq0, Else-at-eq0, Then-at-eq1, After-coordinate-2}

-- a fraction with the denominator 1
over_one : (c : Then-at-eq1) → c.args.at.d ≡ pos 1
over_one c =
    let f = c.requires.fraction in
    let p = f.positive in
    let s = f.small in
    let d = c.if-at-eq1.true in
    omega (arith, ints)

-- is 0
zero_of_one : (c : Then-at-eq0) → c.args.at.n ≡ pos 0
zero_of_one c =
    let f = c.requires.fraction in
    let l = f.at_least_zero in
    let h = f.at_most_one in
    let s = f.small in
    let n = c.if-at-eq0.true in
    omega (arith, ints)

-- or 1
one_of_one : (c : Else-at-eq0) → c.args.at.n ≡ pos 1
one_of_one c =
    let f = c.requires.fraction in
    let l = f.at_least_zero in
    let h = f.at_most_one in
    let d = c.if-at-eq1.true in
    let n = c.if-at-eq0.false in
    omega (arith, ints)

pub returns-then-at-eq0-clause-x : goal.returns-then-at-eq0-clause-x
returns-then-at-eq0-clause-x c =
    let g = goal.at.returns-then-at-eq0-clause-x c in
    sym (rounded_start c.args.a.x c.args.b.x c.args.at (zero_of_one g.Then-at-eq0) (over_one g.Then-at-eq1))

pub returns-then-at-eq0-clause-y : goal.returns-then-at-eq0-clause-y
returns-then-at-eq0-clause-y c =
    let g = goal.at.returns-then-at-eq0-clause-y c in
    sym (rounded_start c.args.a.y c.args.b.y c.args.at (zero_of_one g.Then-at-eq0) (over_one g.Then-at-eq1))

pub returns-else-at-eq0-clause-x : goal.returns-else-at-eq0-clause-x
returns-else-at-eq0-clause-x c =
    let g = goal.at.returns-else-at-eq0-clause-x c in
    sym (rounded_end c.args.a.x c.args.b.x c.args.at (one_of_one g.Else-at-eq0) (over_one g.Then-at-eq1))

pub returns-else-at-eq0-clause-y : goal.returns-else-at-eq0-clause-y
returns-else-at-eq0-clause-y c =
    let g = goal.at.returns-else-at-eq0-clause-y c in
    sym (rounded_end c.args.a.y c.args.b.y c.args.at (one_of_one g.Else-at-eq0) (over_one g.Then-at-eq1))

x_is : (c : After-coordinate-2) → IsDrawn c.coordinate.result (rounded c.args.a.x c.args.b.x c.args.at)
x_is c =
    let a = c.requires.start in
    let b = c.requires.end in
    drawn_by c.coordinate.result c.args.a.x c.args.b.x c.args.at c.requires.fraction a.x_low a.x_high b.x_low b.x_high c.coordinate.ensures

y_is : (c : After-coordinate-2) → IsDrawn c.coordinate-2.result (rounded c.args.a.y c.args.b.y c.args.at)
y_is c =
    let a = c.requires.start in
    let b = c.requires.end in
    drawn_by c.coordinate-2.result c.args.a.y c.args.b.y c.args.at c.requires.fraction a.y_low a.y_high b.y_low b.y_high c.coordinate-2.ensures

pub returns-clause-x : goal.returns-clause-x
returns-clause-x c = (x_is c).is

pub returns-clause-y : goal.returns-clause-y
returns-clause-y c = (y_is c).is

pub returns-clause-inside : goal.returns-clause-inside
returns-clause-inside c =
    let x = x_is c in
    let y = y_is c in
    record { x_low = x.low; x_high = x.high; y_low = y.low; y_high = y.high }
