-- A map's part is framed and holds that map, so what framed bytes hold is the only map with whose part they can
-- begin.
use Rattle.std.proofs.Common.{refl, rules}
use Rattle.std.proofs.lemmas.Bool.{false≢true, both_ways}
use Rattle.map_tables.specs.WellFormed.{WellFormed}
use Rattle.map_tables.specs.Parts.{tables_in}
use Rattle.map_tables.proofs.FramedLemmas.{not_framed, not_well_formed, map_of}
use Rattle.map_tables.proofs.map.part.first_map.Goals as goal

pub returns-then-not-is_framed-clause-refused : goal.returns-then-not-is_framed-clause-refused
returns-then-not-is_framed-clause-refused c =
    (refl, not_framed c.args.bytes.now (λ framed. false≢true (c.if-not-is_framed.ensures.1 framed)))

pub returns-then-not-branch-clause-refused : goal.returns-then-not-branch-clause-refused
returns-then-not-branch-clause-refused c =
    let held = c.in_ok-draft.ensures.tables in (
      refl,
      not_well_formed c.args.bytes.now (λ fine.
          both_ways c.in_ok-is_well_formed.field-0 c.if-not-branch.true (c.in_ok-is_well_formed.ensures.answer.1 (rw held fine))),
    )

pub returns-clause-map : goal.returns-clause-map
returns-clause-map c =
    let held = c.in_ok-draft.ensures.tables in
    let framed = c.is_framed.ensures.0 c.if-not-is_framed.false in
    let fine : WellFormed (tables_in c.args.bytes.now) = rw held at (c.in_ok-is_well_formed.ensures.answer.0 c.if-not-branch.false) in
    rw (c.in_ok-map.ensures.tables, held) (map_of c.args.bytes.now (λ k. search (rules, c.type_inv.bytes k)) framed fine)

pub to_map-requires : goal.to_map-requires
to_map-requires c = c.in_ok-is_well_formed.ensures.answer.0 c.if-not-branch.false
