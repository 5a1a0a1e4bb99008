use Rattle.std.proofs.Common.{◌≡◌, arith, length, sym, ap, ◌∙◌, subst}
use Rattle.std.specs.List.{slice_get}
use Rattle.map_tables.specs.Edits.{with_side_at}
use Rattle.map_tables.specs.Tables.{Tables}
use Rattle.map_areas.specs.Drawings.{KeepsLinesBut}
use Rattle.map_areas.proofs.Sofar.{drawn_by, side_there}
use Rattle.map_areas.proofs.Items.{at_set, beside_set}
use Rattle.map_areas.proofs.Steps.{becoming_set_side, kept_set_side}
use Rattle.map_areas.proofs.Fits.{set_side_fits}
use Rattle.std.proofs.lemmas.List.{length-set}
use Rattle.map_areas.proofs.drawing.Drawing.set_side.Goals as goal

pub returns-clause-drawn : goal.returns-clause-drawn
returns-clause-drawn c =
    let t = c.args.self.now.map.tables in
    let taken = c.in_ok-put.ensures.taken in
    let before = c.requires.drawn in
    drawn_by c.args.map.now.tables c.args.border.now c.args.round c.put.new.self (with_side_at t c.args.number c.args.side) c.in_ok-put.ensures.led taken.left
    (ap (λ v. v.items) c.in_ok-put.ensures.vertices ∙ before.vertices) (ap (λ v. v.items) c.in_ok-put.ensures.lines ∙ before.lines)
    (becoming_set_side c.args.map.now.tables c.args.border.now c.args.round t c.args.line c.args.number c.args.side
    (side_there t c.args.number c.args.side taken.accepted) c.requires.taken c.requires.sole c.requires.becomes before.becoming) before.sectors

pub returns-clause-there : goal.returns-clause-there
returns-clause-there c =
    let t = c.args.self.now.map.tables in
    let taken = c.in_ok-put.ensures.taken in
    ap (λ (u : Tables). slice_get u.sides c.args.number) taken.left
    ∙ at_set t.sides c.args.number c.args.side (side_there t c.args.number c.args.side taken.accepted)

pub returns-clause-others : goal.returns-clause-others
returns-clause-others c = λ n other.
    let t = c.args.self.now.map.tables in
    ap (λ (u : Tables). slice_get u.sides n) c.in_ok-put.ensures.taken.left ∙ beside_set t.sides c.args.number c.args.side n other

pub returns-clause-kept : goal.returns-clause-kept
returns-clause-kept c =
    let t = c.args.self.now.map.tables in
    subst (KeepsLinesBut c.args.line t) (sym c.in_ok-put.ensures.taken.left) (kept_set_side t c.args.line c.args.number c.args.side c.requires.sole)

pub put-requires-clause-fits : goal.put-requires-clause-fits
put-requires-clause-fits c = set_side_fits c.args.self.now.map.tables c.args.number c.args.side c.requires.faced c.requires.here

pub returns-clause-count : goal.returns-clause-count
returns-clause-count c =
    let t = c.args.self.now.map.tables in
    let same : length c.put.new.self.map.tables.sides ≡ length t.sides =
    ap (λ (u : Tables). length u.sides) c.in_ok-put.ensures.taken.left ∙ length-set t.sides c.args.number c.args.side in
    omega (arith, same)
