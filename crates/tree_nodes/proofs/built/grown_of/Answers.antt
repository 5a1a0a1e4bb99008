use Rattle.std.proofs.Common.{◌≡◌, ◌∙◌, ap, length, arith}
use Rattle.std.specs.Prelude.{ℕ, false, replicate}
use Rattle.tree_pieces.specs.First.{first_pieces}
use Rattle.tree_nodes.specs.Growth.{lists_of}
use Rattle.tree_nodes.proofs.Building.{first_some, first_few, reached_at, lists_at, refused_at, no_lists_yet}
use Rattle.tree_nodes.proofs.Growing.{ok_by, err_by}
use Rattle.tree_nodes.proofs.built.grown_of.Goals as goal
use Rattle.tree_nodes.proofs.built.grown_of.Goals.{In-Ok-of}

-- the pieces of the first list
firsts : (c : In-Ok-of) → c.in-Ok-of.list.value.ended.pieces.items ≡ first_pieces c.args.lines.now
firsts c = c.in-Ok-of.ensures.pieces ∙ c.in-Ok.ensures.list

pub grow-requires-clause-reached : goal.grow-requires-clause-reached
grow-requires-clause-reached c =
    reached_at c.args.lines.now c.are_drawn.ensures c.in-Ok-of.list.value.ended.pieces.items c.in-Ok-no_flags.used.items
    (firsts (goal.at.grow-requires-clause-reached c).In-Ok-of) (c.in-Ok-no_flags.ensures ∙ ap (λ (n : ℕ). replicate n false) c.len.ensures)

pub grow-requires-clause-some : goal.grow-requires-clause-some
grow-requires-clause-some c =
    let s = first_some c.args.lines.now c.requires.some in
    let e = ap length (firsts (goal.at.grow-requires-clause-some c).In-Ok-of) in
    omega (arith, s, e)

pub grow-requires-clause-few : goal.grow-requires-clause-few
grow-requires-clause-few c =
    let f = first_few 0 c.args.lines.now in
    let e = ap length (firsts (goal.at.grow-requires-clause-few c).In-Ok-of) in
    omega (arith, f, e, c.in-Ok-of.list.value.ended.pieces.ok.0, c.requires.few)

pub returns-clause-refused : goal.returns-clause-refused
returns-clause-refused c =
    err_by c.grow.result _ _ (λ error h. refused_at c.args.lines.now c.are_drawn.ensures c.in-Ok-of.list.value.ended.pieces.items c.in-Ok-no_flags.used.items (lists_of c.in-Ok-nothing_grown.grown) error (firsts (goal.at.returns-clause-refused c).In-Ok-of)
    (c.in-Ok-no_flags.ensures ∙ ap (λ (n : ℕ). replicate n false) c.len.ensures)
    (no_lists_yet c.in-Ok-nothing_grown.grown.pieces.items c.in-Ok-nothing_grown.grown.counts.items c.in-Ok-nothing_grown.grown.nodes.items c.in-Ok-nothing_grown.ensures.pieces c.in-Ok-nothing_grown.ensures.counts c.in-Ok-nothing_grown.ensures.nodes) h)
    c.grow.ensures.refused

pub returns-clause-lists : goal.returns-clause-lists
returns-clause-lists c =
    ok_by c.grow.result _ _ (λ new h. lists_at c.args.lines.now c.are_drawn.ensures c.in-Ok-of.list.value.ended.pieces.items c.in-Ok-no_flags.used.items (lists_of c.in-Ok-nothing_grown.grown)
    (lists_of new) h.0 (firsts (goal.at.returns-clause-lists c).In-Ok-of)
    (c.in-Ok-no_flags.ensures ∙ ap (λ (n : ℕ). replicate n false) c.len.ensures)
    (no_lists_yet c.in-Ok-nothing_grown.grown.pieces.items c.in-Ok-nothing_grown.grown.counts.items c.in-Ok-nothing_grown.grown.nodes.items c.in-Ok-nothing_grown.ensures.pieces c.in-Ok-nothing_grown.ensures.counts c.in-Ok-nothing_grown.ensures.nodes) h.1)
    c.grow.ensures.ok
