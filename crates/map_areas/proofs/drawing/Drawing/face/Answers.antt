use Rattle.std.proofs.Common.{◌≡◌, Some, sym, ap, ◌∙◌, subst}
use Rattle.std.specs.List.{slice_get}
use Rattle.lump_records.specs.declared.records.Line.{Line}
use Rattle.map_areas.specs.Drawings.{BecamePart}
use Rattle.map_areas.proofs.Steps.{became_sided, but_then}
use Rattle.std.proofs.lemmas.Option.{slice_get_within}
use Rattle.map_areas.proofs.Fits.{sided_fits}
use Rattle.map_areas.proofs.drawing.Drawing.face.Goals as goal

same : {a b : Line} → Some a ≡ Some b → a ≡ b
same e = cc

pub set_line-requires-clause-part : goal.set_line-requires-clause-part
set_line-requires-clause-part c = λ was is at r.
    let which = c.args.which.now in
    let here : is ≡ which.line = same (sym at ∙ ap (λ ls. slice_get ls which.number) c.in_ok-new.ensures.lines ∙ c.requires.own.line) in
    became_sided was which.line c.with_side-line.result which.on_right c.in_ok-new.new c.with_side-line.ensures.others c.with_side-line.ensures.here
    c.in_ok-new.ensures.number c.with_side-line.ensures.other (subst (BecamePart was) here r)

pub set_line-requires-clause-ends : goal.set_line-requires-clause-ends
set_line-requires-clause-ends c = λ is at.
    let which = c.args.which.now in
    let here : which.line ≡ is = same (sym (ap (λ ls. slice_get ls which.number) c.in_ok-new.ensures.lines ∙ c.requires.own.line) ∙ at) in
    (ap (λ (l : Line). l.v1) (c.with_side-line.ensures.others) ∙ ap (λ (l : Line). l.v1) here, ap (λ (l : Line). l.v2) (c.with_side-line.ensures.others) ∙ ap (λ (l : Line). l.v2) here)

pub returns-clause-kept : goal.returns-clause-kept
returns-clause-kept c =
    but_then c.args.which.now.number c.args.self.now.map.tables c.change_side.new.self.map.tables c.set_line.new.self.map.tables c.in_ok-new.ensures.kept
    c.in_ok-set_line.ensures.kept

pub set_line-requires-clause-fits : goal.set_line-requires-clause-fits
set_line-requires-clause-fits c =
    let which = c.args.which.now in
    let new = c.change_side.new.self.map.tables in
    sided_fits c.args.self.now.map.tables new which.line c.with_side-line.result which.on_right c.in_ok-new.new c.with_side-line.ensures.others
    c.with_side-line.ensures.here c.with_side-line.ensures.other (slice_get_within new.sides c.in_ok-new.new _ c.in_ok-new.ensures.there) c.in_ok-new.ensures.number
    c.requires.own.ends c.requires.own.sides c.in_ok-new.ensures.vertices c.in_ok-new.ensures.count

pub set_line-requires-clause-here : goal.set_line-requires-clause-here
set_line-requires-clause-here c =
    let which = c.args.which.now in
    slice_get_within c.change_side.new.self.map.tables.lines which.number which.line (ap (λ ls. slice_get ls which.number) c.in_ok-new.ensures.lines ∙ c.requires.own.line)
