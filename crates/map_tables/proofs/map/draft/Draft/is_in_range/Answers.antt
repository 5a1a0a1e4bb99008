-- A map's sectors and sides are in range.
use Rattle.std.proofs.Common.{sym, subst}
use Rattle.map_tables.specs.WellFormed.{WellFormed}
use Rattle.map_tables.specs.DraftFields.{drafted}
use Rattle.map_tables.proofs.map.draft.Draft.is_in_range.Goals as goal

pub returns-else-are_areas-clause-all : goal.returns-else-are_areas-clause-all
returns-else-are_areas-clause-all c = λ fine.
    let kept : WellFormed (drafted c.self.inside) = subst WellFormed (sym c.self.view_is) fine in
    c.are_areas.ensures.1 (rw (c.deref-3.ensures.value, c.deref-4.ensures.value) (kept.sectors, kept.sides))
