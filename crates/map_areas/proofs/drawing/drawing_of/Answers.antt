use Rattle.std.proofs.Common.{◌≡◌, ◌+◌, All, List, [], ◌∷◌, ◌++◌, length, length-append, sym, ap, ◌∙◌, subst, arith}
use Rattle.std.proofs.lemmas.List.Elements.{All-cons, All-nil}
use Rattle.map_tables.specs.Edits.{with_sector}
use Rattle.map_tables.specs.Faults.{sector_faults}
use Rattle.map_tables.specs.Outcomes.{least}
use Rattle.map_tables.specs.Tables.{Tables}
use Rattle.map_tables.specs.declared.edit.Edit.TheVariants.{Add}
use Rattle.map_tables.specs.declared.edit.Item.TheVariants as item
use Rattle.map_commands.specs.declared.command.Command.{Command}
use Rattle.map_commands.specs.declared.command.Command.TheVariants as command
use Rattle.map_areas.specs.Drawn.{DrawsOn, LeadTo, RefusesDrawing}
use Rattle.map_areas.specs.declared.drawing.Drawing.{Drawing}
use Rattle.map_areas.proofs.Fits.{sector_fits}
use Rattle.map_areas.proofs.InOrder.{passed_on}
use Rattle.map_areas.proofs.Leading.{LeadTo-more}
use Rattle.map_areas.proofs.Sofar.{drawn_by, refused_first, sectors_room}
use Rattle.map_areas.proofs.Steps.{becoming_none, becoming_sector}
use Rattle.map_areas.proofs.drawing.drawing_of.Goals as goal

pub returns-in_err-try_edit-clause-refused : goal.returns-in_err-try_edit-clause-refused
returns-in_err-try_edit-clause-refused c =
    let m = c.args.map.now.tables in
    let es = c.args.border.now.edges.items in
    let copy = c.in_ok-copy.copy.tables in
    let add = command.Edit (Add (item.Sector c.args.sector)) in
    let draws : DrawsOn es add = record { range = c.requires.sector; draws = tt; outline = tt } in
    let e = c.in_err-try_edit.field-0.0 in
    passed_on (RefusesDrawing m es) c.from_residual-in_err-try_edit.result e c.from_residual-in_err-try_edit.ensures.1
    (refused_first m es copy add e c.in_ok-copy.ensures.tables draws (sector_fits copy c.args.sector) c.in_err-try_edit.ensures.refused)

pub returns-clause-room : goal.returns-clause-room
returns-clause-room c =
    sectors_room c.args.map.now.tables
    (ap (λ (t : Tables). least (sector_faults t)) (sym c.in_ok-copy.ensures.tables) ∙ c.in_ok-try_edit.ensures.taken.accepted)

pub returns-clause-drawn : goal.returns-clause-drawn
returns-clause-drawn c =
    let m = c.args.map.now.tables in
    let b = c.args.border.now in
    let es = b.edges.items in
    let s = c.args.sector in
    let add = command.Edit (Add (item.Sector s)) in
    let draws : DrawsOn es add = record { range = c.requires.sector; draws = tt; outline = tt } in
    let same = c.in_ok-copy.ensures.tables in
    let new = c.try_edit.new.map.tables in
    let taken = c.in_ok-try_edit.ensures.taken in
    let noted : c.push.new.self.items ≡ add ∷ [] = c.in_ok-push.ensures.items ∙ ap (λ (cs : List Command). cs ++ add ∷ []) c.new-commands.ensures.items in
    let now : Drawing = record { map = c.try_edit.new.map; vertices = c.in_ok-copy_of.field-0; lines = c.in_ok-copy_of-2.field-0; commands = c.push.new.self } in
    let more : length (m.sectors ++ s ∷ []) ≡ length m.sectors + 1 = length-append m.sectors (s ∷ []) in
    drawn_by m b c.args.round now (with_sector m s)
    (record {
      led = subst (λ (cs : List Command). LeadTo m cs new) (sym noted) (LeadTo-more m [] c.in_ok-copy.copy.tables add new same taken);
      drawing = subst (All (DrawsOn es)) (sym noted) (All-cons (DrawsOn es) add [] draws (All-nil (DrawsOn es)));
    })
    (taken.left ∙ ap (λ (t : Tables). with_sector t s) same) (c.in_ok-copy_of.ensures ∙ c.deref.ensures.value ∙ c.requires.vertices) (c.in_ok-copy_of-2.ensures ∙ c.deref-2.ensures.value ∙ c.requires.lines)
    (becoming_sector m b c.args.round m s (becoming_none m b c.args.round)) (omega (arith, more))
