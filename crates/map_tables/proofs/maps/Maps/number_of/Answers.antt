-- The first map with the name is found, or none has it.
use Rattle.std.proofs.Common.{sym, ◌∙◌, ap, arith}
use Rattle.std.proofs.lemmas.List.Sums.{position_or_len_is}
use Rattle.map_tables.specs.Tables.{empty_tables}
use Rattle.map_tables.specs.Projects.{project_of, is_named}
use Rattle.map_tables.proofs.maps.Maps.number_of.Goals as goal

pub returns-then-has_name-clause-value : goal.returns-then-has_name-clause-value
returns-then-has_name-clause-value c =
    let name = c.args.name in
    sym (position_or_len_is (is_named name) (project_of c.args.self.now).maps c.loop-n.n empty_tables (omega (arith, c.len-len.ensures.value))
    (λ k below. c.loop-n.invariant k empty_tables below) (λ within. ap (is_named name) (c.nth.ensures empty_tables) ∙ sym c.has_name.ensures ∙ c.if-has_name.true))

pub returns-clause-value : goal.returns-clause-value
returns-clause-value c =
    let name = c.args.name in
    sym (position_or_len_is (is_named name) (project_of c.args.self.now).maps c.len-len.result empty_tables (omega (arith, c.len-len.ensures.value))
    (λ k below. c.loop-n.invariant k empty_tables (omega arith)) (λ within. absurd (omega (arith, c.len-len.ensures.value))))
