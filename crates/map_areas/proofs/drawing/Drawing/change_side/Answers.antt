use Rattle.std.proofs.Common.{◌≡◌, List, Some, sym, ap, ◌∙◌, subst}
use Rattle.std.specs.List.{slice_get}
use Rattle.lump_records.specs.declared.records.Line.{Line}
use Rattle.lump_records.specs.declared.records.Side.{Side}
use Rattle.map_areas.specs.Drawings.{IsSole}
use Rattle.map_areas.specs.Stays.{BecomesSide}
use Rattle.map_areas.proofs.Steps.{lines_but}
use Rattle.map_areas.proofs.drawing.Drawing.change_side.Goals as goal

same : {a b : Side} → Some a ≡ Some b → a ≡ b
same e = cc

pub set_side-requires-clause-sole : goal.set_side-requires-clause-sole
set_side-requires-clause-sole c =
    subst (λ (ls : List Line). IsSole ls c.args.which.now.number c.side_on-own.result) (c.deref.ensures.value ∙ c.requires.drawn.lines)
    (c.is_sole.ensures c.if-is_sole.true)

pub set_side-requires-clause-becomes : goal.set_side-requires-clause-becomes
set_side-requires-clause-becomes c = λ was is at r.
    let t = c.args.self.now.map.tables in
    let which = c.args.which.now in
    let here : is ≡ which.side = same (sym at ∙ ap (slice_get t.sides) c.side_on-own.ensures ∙ c.requires.own.side) in
    c.requires.becomes was (subst (BecomesSide c.args.round _ was) here r)

pub returns-clause-kept : goal.returns-clause-kept
returns-clause-kept c =
    lines_but c.args.which.now.number c.args.self.now.map.tables c.add_side.new.self.map.tables c.in_ok-new.ensures.kept
