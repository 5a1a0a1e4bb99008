use Rattle.std.proofs.Common.{Bool, [], subst}
use Rattle.std.specs.List.{remove}
use Rattle.map_tables.specs.Projects.{project_of}
use Rattle.run_canvas.specs.Canvases.{Drafted}
use Rattle.run_stops.specs.Telling.{TellsOneMore}
use Rattle.run_stops.specs.ToldStops.{with_left_out}
use Rattle.run_stops.proofs.Rounds.{none_yet, told_all, told_last, told_next, told_none}
use Rattle.run_stops.proofs.further.further_told.Goals as goal

pub returns-then-is_last-clause-told : goal.returns-then-is_last-clause-told
returns-then-is_last-clause-told c = told_none _ _ _ _ _ c.new.ensures.items

pub loop-round-init : goal.loop-round-init
loop-round-init c =
    none_yet _ c.args.lines.now c.args.files.now c.args.stop.now.place c.in-Ok.telling c.in-Ok.ensures.lines c.in-Ok.ensures.files c.in-Ok.ensures.out c.in-Ok.ensures.text c.in-Ok.ensures.count c.requires.files
    c.requires.within.0

pub loop-round-preserved : goal.loop-round-preserved
loop-round-preserved c =
    let first : Drafted = record { maps = project_of c.args.maps.now; cap = c.args.cap } in
    told_next first (remove c.args.lines.now c.args.stop.now.place) (remove c.args.files.now c.args.stop.now.place) (with_left_out [] c.args.lines.now c.args.stop.now.place) c.loop-round.telling c.tell_one.new.telling c.loop-round.invariant
    (c.may_go_on.ensures.few c.if-not-may_go_on.false)
    (subst (λ (goes : Bool). TellsOneMore first c.loop-round.telling c.tell_one.new.telling goes) c.in-Ok-true.field-0-test c.in-Ok-true.ensures.told)

pub returns-in-Ok-false-clause-told : goal.returns-in-Ok-false-clause-told
returns-in-Ok-false-clause-told c =
    let first : Drafted = record { maps = project_of c.args.maps.now; cap = c.args.cap } in
    told_last first (remove c.args.lines.now c.args.stop.now.place) (remove c.args.files.now c.args.stop.now.place) (with_left_out [] c.args.lines.now c.args.stop.now.place) c.loop-round.telling c.tell_one.new.telling c.in-Ok-false.field-0
    c.loop-round.invariant (c.may_go_on.ensures.few c.if-not-may_go_on.false) c.in-Ok-false.ensures.told

pub returns-then-not-may_go_on-clause-told : goal.returns-then-not-may_go_on-clause-told
returns-then-not-may_go_on-clause-told c =
    told_all (record { maps = project_of c.args.maps.now; cap = c.args.cap }) (remove c.args.lines.now c.args.stop.now.place) (remove c.args.files.now c.args.stop.now.place)
    (with_left_out [] c.args.lines.now c.args.stop.now.place) c.loop-round.telling c.loop-round.invariant

pub returns-clause-told : goal.returns-clause-told
returns-clause-told c =
    told_all (record { maps = project_of c.args.maps.now; cap = c.args.cap }) (remove c.args.lines.now c.args.stop.now.place) (remove c.args.files.now c.args.stop.now.place)
    (with_left_out [] c.args.lines.now c.args.stop.now.place) c.loop-round.telling c.loop-round.invariant
