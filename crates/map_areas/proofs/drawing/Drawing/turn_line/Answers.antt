use Rattle.std.proofs.Common.{◌≡◌, Some, ap, ◌∙◌, subst}
use Rattle.std.specs.List.{slice_get}
use Rattle.lump_records.specs.declared.records.Line.{Line}
use Rattle.map_areas.specs.Drawings.{IsUnfaced}
use Rattle.map_areas.proofs.Steps.{but_then}
use Rattle.map_areas.proofs.Walled.{walls_but}
use Rattle.map_areas.proofs.drawing.Drawing.turn_line.Goals as goal

same : {a b : Line} → Some a ≡ Some b → a ≡ b
same e = cc

pub returns-clause-kept : goal.returns-clause-kept
returns-clause-kept c =
    let t = c.args.self.now.map.tables in
    let new = c.turn_side-2.new.self.map.tables in
    let sector = c.args.paint.now.sector in
    walls_but c.args.map.now.tables t new sector c.args.number
    (but_then c.args.number t c.turn_side.new.self.map.tables new c.in_ok-turn_side.ensures.kept c.in_ok-turn_side-2.ensures.kept)
    (λ l is.
    subst (IsUnfaced t sector) (same (c.in-Some.ensures.item ∙ ap (slice_get t.lines) c.from.ensures ∙ is)) (c.is_free.ensures c.if-not-is_free.false))
