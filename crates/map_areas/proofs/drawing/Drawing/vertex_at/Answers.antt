use Rattle.std.proofs.Common.{List, [], ◌∷◌, ◌++◌, sym, ap, ◌∙◌, subst}
use Rattle.std.specs.List.{slice_get}
use Rattle.lump_records.specs.declared.records.Vertex.{Vertex}
use Rattle.map_tables.specs.Edits.{with_vertex}
use Rattle.map_tables.specs.Tables.{Tables}
use Rattle.map_areas.specs.Drawings.{KeepsLines}
use Rattle.map_areas.specs.declared.drawing.Drawing.{Drawing}
use Rattle.map_areas.proofs.Items.{at_end, in_longer}
use Rattle.map_areas.proofs.Sofar.{drawn_by}
use Rattle.map_areas.proofs.Steps.{becoming_vertex, kept_vertex}
use Rattle.map_areas.proofs.drawing.Drawing.vertex_at.Goals as goal

pub returns-clause-drawn : goal.returns-clause-drawn
returns-clause-drawn c =
    let t = c.args.self.now.map.tables in
    let put = c.put.new.self in
    let taken = c.in_ok-put.ensures.taken in
    let before = c.requires.drawn in
    let now : Drawing = record { map = put.map; vertices = c.push.new.self; lines = put.lines; commands = put.commands } in
    drawn_by c.args.map.now.tables c.args.border.now c.args.round now (with_vertex t c.args.place)
    (record { led = c.in_ok-put.ensures.led.led; drawing = c.in_ok-put.ensures.led.drawing }) taken.left
    (c.in_ok-push.ensures.items ∙ ap (λ v. v.items ++ c.args.place ∷ []) c.in_ok-put.ensures.vertices
    ∙ ap (λ (vs : List Vertex). vs ++ c.args.place ∷ []) before.vertices)
    (ap (λ v. v.items) c.in_ok-put.ensures.lines ∙ before.lines)
    (becoming_vertex c.args.map.now.tables c.args.border.now c.args.round t c.args.place c.count-count.ensures.well_formed before.becoming) before.sectors

pub returns-clause-there : goal.returns-clause-there
returns-clause-there c =
    let t = c.args.self.now.map.tables in
    ap (λ (u : Tables). slice_get u.vertices c.count-count.result) c.in_ok-put.ensures.taken.left
    ∙ at_end t.vertices c.count-count.result c.args.place c.count-count.ensures.number

pub returns-clause-others : goal.returns-clause-others
returns-clause-others c = λ n p is.
    let t = c.args.self.now.map.tables in
    ap (λ (u : Tables). slice_get u.vertices n) c.in_ok-put.ensures.taken.left ∙ in_longer t.vertices (c.args.place ∷ []) n p is

pub returns-clause-kept : goal.returns-clause-kept
returns-clause-kept c =
    let t = c.args.self.now.map.tables in
    subst (KeepsLines t) (sym c.in_ok-put.ensures.taken.left) (kept_vertex t c.args.place c.count-count.ensures.well_formed)
