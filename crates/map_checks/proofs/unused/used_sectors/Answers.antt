use Rattle.std.proofs.Common.{eqb, sym, ap, ◌∙◌, arith}
use Rattle.map_tables.specs.Faults.{in_sector}
use Rattle.map_tables.specs.WellFormed.{HasSector}
use Rattle.map_checks.proofs.ItemReads.{at_some, is_there}
use Rattle.map_checks.proofs.MarkSteps.{marks_one}
use Rattle.map_checks.proofs.unused.used_sectors.Goals as goal

pub unwrap-side-requires : goal.unwrap-side-requires
unwrap-side-requires c = is_there c.args.map.now.tables.sides c.loop-n.n _ c.side.ensures.item (omega arith)

pub loop-n-preserved : goal.loop-n-preserved
loop-n-preserved c =
    let m = c.args.map.now.tables in
    let within = at_some (HasSector m.sectors) c.unwrap-side.result c.unwrap-side.ensures c.side.ensures.sector in
    marks_one in_sector m.sectors m.sides c.loop-n.n c.unwrap-side.result (sym c.side.ensures.item ∙ c.unwrap-side.ensures)
    c.loop-n.used.items c.loop-n.invariant c.from.result (omega (arith, within, c.from.ensures))
    (λ k. ap (λ n. eqb n k) (sym c.from.ensures))
