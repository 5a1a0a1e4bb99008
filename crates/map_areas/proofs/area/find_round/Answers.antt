use Rattle.std.proofs.Common.{◌∙◌}
use Rattle.map_areas.proofs.InOrder.{inside_after, inside_of_round, inside_void, passed_on, sectors_after, sectors_of_round}
use Rattle.map_areas.proofs.Led.{has_part, not_several, void_round}
use Rattle.map_areas.specs.Order.{ComesAfterSectors, IsOfRound}
use Rattle.map_areas.specs.Refusals.{IsAreaRefusal}
use Rattle.map_areas.proofs.area.find_round.Goals as goal

pub returns-clause-empty : goal.returns-clause-empty
returns-clause-empty c = λ n h.
    c.in_ok-find_empty.ensures.empty
    (void_round c.args.map.now.tables c.in_ok-round.round c.args.border.now.cut_edges.items c.args.border.now.edges.items c.requires.edges c.in_ok-round.ensures.led h.0 h.1 h.2)
    n h.3

pub returns-in_err-round-clause-refused : goal.returns-in_err-round-clause-refused
returns-in_err-round-clause-refused c =
    passed_on IsOfRound c.from_residual.result c.in_err-round.field-0.0 c.from_residual.ensures.1
    (sectors_of_round c.in_err-round.field-0.0 c.in_err-round.ensures.refused)

pub returns-in_err-round-clause-order : goal.returns-in_err-round-clause-order
returns-in_err-round-clause-order c =
    let m = c.args.map.now.tables in
    let es = c.args.border.now.edges.items in
    passed_on (ComesAfterSectors m es) c.from_residual.result c.in_err-round.field-0.0 c.from_residual.ensures.1
    (sectors_after m es c.in_err-round.field-0.0 c.in_err-round.ensures.refused)

pub returns-in_err-find_empty-clause-refused : goal.returns-in_err-find_empty-clause-refused
returns-in_err-find_empty-clause-refused c =
    let e = c.in_err-find_empty.field-0.0 in
    passed_on IsOfRound c.from_residual-in_err-find_empty.result e c.from_residual-in_err-find_empty.ensures.1
    (inside_of_round c.args.map.now.tables c.args.border.now.edges.items c.args.border.now.doubled.items e c.in_err-find_empty.ensures.reason)

pub returns-in_err-find_empty-clause-order : goal.returns-in_err-find_empty-clause-order
returns-in_err-find_empty-clause-order c =
    let m = c.args.map.now.tables in
    let es = c.args.border.now.edges.items in
    let e = c.in_err-find_empty.field-0.0 in
    passed_on (ComesAfterSectors m es) c.from_residual-in_err-find_empty.result e c.from_residual-in_err-find_empty.ensures.1
    (inside_after m es e (inside_of_round m es c.args.border.now.doubled.items e c.in_err-find_empty.ensures.reason)
    (not_several m c.in_ok-round.round c.args.border.now.cut_edges.items es c.requires.edges c.in_ok-round.ensures.led))

pub returns-in_err-find_empty-clause-reason : goal.returns-in_err-find_empty-clause-reason
returns-in_err-find_empty-clause-reason c =
    let m = c.args.map.now.tables in
    let es = c.args.border.now.edges.items in
    let ds = c.args.border.now.doubled.items in
    let e = c.in_err-find_empty.field-0.0 in
    let part = has_part m c.in_ok-round.round c.args.border.now.cut_edges.items es c.requires.edges c.requires.some c.in_ok-round.ensures.led in
    passed_on (IsAreaRefusal m es ds) c.from_residual-in_err-find_empty.result e c.from_residual-in_err-find_empty.ensures.1
    (inside_void m es ds e c.in_err-find_empty.ensures.reason part.0 part.1 (part.2 ∙ c.in_err-find_empty.ensures.void))
