use Rattle.std.proofs.Common.{sym, ap, ◌∙◌}
use Rattle.std.proofs.lemmas.Option.{get_or_from_slice_get}
use Rattle.map_commands.specs.Rooms.{wall}
use Rattle.map_commands.specs.Splits.{cut_off, cut_short}
use Rattle.map_tables.specs.Faults.{line_faults, set_line_faults}
use Rattle.map_tables.specs.Edits.{with_line_at}
use Rattle.map_tables.specs.Outcomes.{least}
use Rattle.map_tables.specs.Tables.{Tables}
use Rattle.map_tables.specs.declared.edit.Edit.TheVariants.{Add, Set}
use Rattle.map_tables.specs.declared.edit.Item.TheVariants as item
use Rattle.map_areas.proofs.Halves.{halves_in_range, may_be_cut}
use Rattle.map_areas.proofs.Leading.{edited-made, split_made}
use Rattle.map_areas.proofs.splitting.cut.Goals as goal

pub make-requires-2-clause-range : goal.make-requires-2-clause-range
make-requires-2-clause-range c =
    let m = c.args.map.now.tables in
    let limit = c.count-vertex.ensures.limit in
    (c.requires.range.0, (halves_in_range m c.args.split.now c.args.line.now c.count-vertex.result c.count-vertex.ensures.well_formed c.requires.line c.count-vertex.ensures.number c.requires.accepted).0)

pub make-requires-2-clause-accepted : goal.make-requires-2-clause-accepted
make-requires-2-clause-accepted c =
    let m = c.args.map.now.tables in
    let s = c.args.split.now in
    let l = c.args.line.now in
    let made = edited-made m (Add (item.Vertex s.at)) c.make.new.map.tables c.in_ok-make.field-0 c.in_ok-make.ensures.made in
    (λ i. least (set_line_faults (made.1 i) s.line (cut_short l (c.count-vertex.ensures.number i))))
    ∙ (may_be_cut m s l c.count-vertex.ensures.well_formed c.requires.line c.requires.accepted).short

pub make-requires-3-clause-range : goal.make-requires-3-clause-range
make-requires-3-clause-range c =
    let m = c.args.map.now.tables in
    (halves_in_range m c.args.split.now c.args.line.now c.count-vertex.result c.count-vertex.ensures.well_formed c.requires.line c.count-vertex.ensures.number c.requires.accepted).1

pub make-requires-3-clause-accepted : goal.make-requires-3-clause-accepted
make-requires-3-clause-accepted c =
    let m = c.args.map.now.tables in
    let s = c.args.split.now in
    let l = c.args.line.now in
    let made = edited-made m (Add (item.Vertex s.at)) c.make.new.map.tables c.in_ok-make.field-0 c.in_ok-make.ensures.made in
    let set = edited-made c.make.new.map.tables (Set s.line (item.Line (cut_short l c.count-vertex.result))) c.make-2.new.map.tables c.in_ok-make-2.field-0 c.in_ok-make-2.ensures.made in
    ap (λ (t : Tables). least (line_faults t (cut_off l c.count-vertex.result))) set.1
    ∙ (λ i. least (line_faults (with_line_at (made.1 i) s.line (cut_short l (c.count-vertex.ensures.number i))) (cut_off l (c.count-vertex.ensures.number i))))
    ∙ (may_be_cut m s l c.count-vertex.ensures.well_formed c.requires.line c.requires.accepted).rest

pub returns-clause-taken : goal.returns-clause-taken
returns-clause-taken c =
    let m = c.args.map.now.tables in
    let s = c.args.split.now in
    split_made m s c.args.line.now c.count-vertex.result _ _ _ _ _ _ c.requires.range
    (sym (get_or_from_slice_get m.lines s.line c.args.line.now (wall 0 0 0) c.requires.line)) c.count-vertex.ensures.number c.in_ok-make.ensures.made
    c.in_ok-make-2.ensures.made c.in_ok-make-3.ensures.made
