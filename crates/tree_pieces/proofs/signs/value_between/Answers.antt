use Rattle.std.proofs.Common.{◌≡◌, ap, ◌∙◌}
use Rattle.std.specs.Prelude.{ℤ, ◌+ℤ◌, ◌-ℤ◌, ◌*ℤ◌}
use Rattle.tree_pieces.proofs.Wide.{n_within, lengthened}
use Rattle.tree_pieces.proofs.Shares.{side_back, side_value_back, n_share, rest_of, IsSum, sum_by}
use Rattle.tree_pieces.proofs.signs.value_between.Goals as goal
use Rattle.tree_pieces.proofs.signs.value_between.Goals.{After-scaled-far}

pub overflow_sub-rest : goal.overflow_sub-rest
overflow_sub-rest c = (rest_of c.args.at c.requires.fraction).fits

pub scaled-near-requires-clause-share : goal.scaled-near-requires-clause-share
scaled-near-requires-clause-share c = (rest_of c.args.at c.requires.fraction).share

pub scaled-near-requires-clause-value : goal.scaled-near-requires-clause-value
scaled-near-requires-clause-value c = side_value_back c.args.first c.requires.first.low c.requires.first.high

pub scaled-far-requires-clause-share : goal.scaled-far-requires-clause-share
scaled-far-requires-clause-share c = n_share c.args.at c.requires.fraction

pub scaled-far-requires-clause-value : goal.scaled-far-requires-clause-value
scaled-far-requires-clause-value c = side_value_back c.args.last c.requires.last.low c.requires.last.high

sum : (c : After-scaled-far) → IsSum c.scaled-near.result c.scaled-far.result
sum c =
    let p = c.scaled-near.ensures in
    let q = c.scaled-far.ensures in
    sum_by c.scaled-near.result c.scaled-far.result (record { low = p.low; high = p.high }) (record { low = q.low; high = q.high })

pub overflow_add-result : goal.overflow_add-result
overflow_add-result c = (sum (goal.at.overflow_add-result c).After-scaled-far).fits

pub returns : goal.returns
returns c =
    let t = c.args.at in
    let f = c.requires.fraction in
    let near : c.scaled-near.result ≡ (t.d -ℤ t.n) *ℤ c.args.first = rw ((rest_of t f).is, side_back c.args.first c.requires.first) at c.scaled-near.ensures.value in
    let far : c.scaled-far.result ≡ t.n *ℤ c.args.last = rw (lengthened t.n (n_within t f), side_back c.args.last c.requires.last) at c.scaled-far.ensures.value in
    (sum (goal.at.returns c).After-scaled-far).is ∙ ap (λ (x : ℤ). x +ℤ c.scaled-far.result) near ∙ ap (λ (x : ℤ). (t.d -ℤ t.n) *ℤ c.args.first +ℤ x) far
