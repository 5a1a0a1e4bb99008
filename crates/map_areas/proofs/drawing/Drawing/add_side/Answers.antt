use Rattle.std.proofs.Common.{◌≡◌, [], ◌∷◌, length, length-append, sym, ap, ◌∙◌, arith, subst, ◌+◌, ◌++◌}
use Rattle.std.specs.List.{slice_get}
use Rattle.map_tables.specs.Edits.{with_side}
use Rattle.map_tables.specs.Tables.{Tables}
use Rattle.map_areas.specs.Drawings.{KeepsLines}
use Rattle.map_areas.proofs.Sofar.{drawn_by, side_room}
use Rattle.map_areas.proofs.Items.{at_end, in_longer, past_end}
use Rattle.map_areas.proofs.Steps.{becoming_side, kept_side}
use Rattle.map_areas.proofs.Fits.{side_fits}
use Rattle.map_areas.proofs.drawing.Drawing.add_side.Goals as goal

pub returns-clause-drawn : goal.returns-clause-drawn
returns-clause-drawn c =
    let t = c.args.self.now.map.tables in
    let taken = c.in_ok-put.ensures.taken in
    let room = side_room t c.args.side taken.accepted in
    let before = c.requires.drawn in
    drawn_by c.args.map.now.tables c.args.border.now c.args.round c.put.new.self (with_side t c.args.side) c.in_ok-put.ensures.led taken.left
    (ap (λ v. v.items) c.in_ok-put.ensures.vertices ∙ before.vertices) (ap (λ v. v.items) c.in_ok-put.ensures.lines ∙ before.lines)
    (becoming_side c.args.map.now.tables c.args.border.now c.args.round t c.args.side c.count-count.ensures.well_formed (omega (arith, room)) before.becoming) before.sectors

pub returns-clause-there : goal.returns-clause-there
returns-clause-there c =
    let t = c.args.self.now.map.tables in
    ap (λ (u : Tables). slice_get u.sides c.count-count.result) c.in_ok-put.ensures.taken.left
    ∙ at_end t.sides c.count-count.result c.args.side c.count-count.ensures.number

pub returns-clause-none : goal.returns-clause-none
returns-clause-none c =
    let t = c.args.self.now.map.tables in
    let taken = c.in_ok-put.ensures.taken in
    let room = side_room t c.args.side taken.accepted in
    let one : length (t.sides ++ c.args.side ∷ []) ≡ length t.sides + 1 = length-append t.sides (c.args.side ∷ []) in
    ap (λ (u : Tables). slice_get u.sides 65535) taken.left ∙ past_end (t.sides ++ c.args.side ∷ []) 65535 (omega (arith, one, room))

pub returns-clause-others : goal.returns-clause-others
returns-clause-others c = λ n s is.
    let t = c.args.self.now.map.tables in
    ap (λ (u : Tables). slice_get u.sides n) c.in_ok-put.ensures.taken.left ∙ in_longer t.sides (c.args.side ∷ []) n s is

pub returns-clause-kept : goal.returns-clause-kept
returns-clause-kept c =
    let t = c.args.self.now.map.tables in
    let taken = c.in_ok-put.ensures.taken in
    let room = side_room t c.args.side taken.accepted in
    subst (KeepsLines t) (sym taken.left) (kept_side t c.args.side c.count-count.ensures.well_formed (omega (arith, room)))

pub put-requires-clause-fits : goal.put-requires-clause-fits
put-requires-clause-fits c = side_fits c.args.self.now.map.tables c.args.side c.requires.faced

pub returns-clause-count : goal.returns-clause-count
returns-clause-count c =
    let t = c.args.self.now.map.tables in
    let more : length c.put.new.self.map.tables.sides ≡ length t.sides + 1 =
    ap (λ (u : Tables). length u.sides) c.in_ok-put.ensures.taken.left ∙ length-append t.sides (c.args.side ∷ []) in
    omega (arith, more)
