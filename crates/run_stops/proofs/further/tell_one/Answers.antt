use Rattle.std.proofs.Common.{length, refl, sym}
use Rattle.std.proofs.lemmas.Bool.{true≢false}
use Rattle.map_blocks.specs.Stops.{IsStopWithin}
use Rattle.map_tables.specs.Projects.{project_of}
use Rattle.run_canvas.specs.Canvases.{Drafted}
use Rattle.run_stops.specs.ToldStops.{IsToldAmong, StopsAt}
use Rattle.run_stops.specs.declared.further.ToldStop.{ToldStop}
use Rattle.run_stops.proofs.Rounds.{if_there, told_one}
use Rattle.run_stops.proofs.further.tell_one.Goals as goal

pub returns-then-ends_telling-clause-told : goal.returns-then-ends_telling-clause-told
returns-then-ends_telling-clause-told c =
    let first : Drafted = record { maps = project_of c.args.maps.now; cap = c.args.cap } in
    let old = c.args.telling.now in
    let found = c.in-Ok-Some.found in
    let there = c.in-Ok-Some.field-0-is in
    told_one first old c.put_told.new.telling c.put_told.new.telling found.stop found.text.items _
    (if_there (λ (t : ToldStop). StopsAt first old.lines t.stop) _ found there c.in-Ok-Some.ensures.stops)
    (if_there (λ (t : ToldStop). IsToldAmong old.lines old.files t.stop t.text.items) _ found there c.in-Ok-Some.ensures.told)
    (if_there (λ (t : ToldStop). IsStopWithin (length old.lines) t.stop) _ found there c.in-Ok-Some.ensures.within)
    c.in-Ok.ensures.put refl refl (λ goes. absurd (true≢false (sym goes)))

pub returns-in-Ok-leave_out-clause-told : goal.returns-in-Ok-leave_out-clause-told
returns-in-Ok-leave_out-clause-told c =
    let first : Drafted = record { maps = project_of c.args.maps.now; cap = c.args.cap } in
    let old = c.args.telling.now in
    let found = c.in-Ok-Some.found in
    let there = c.in-Ok-Some.field-0-is in
    told_one first old c.put_told.new.telling c.leave_out.new.telling found.stop found.text.items _
    (if_there (λ (t : ToldStop). StopsAt first old.lines t.stop) _ found there c.in-Ok-Some.ensures.stops)
    (if_there (λ (t : ToldStop). IsToldAmong old.lines old.files t.stop t.text.items) _ found there c.in-Ok-Some.ensures.told)
    (if_there (λ (t : ToldStop). IsStopWithin (length old.lines) t.stop) _ found there c.in-Ok-Some.ensures.within)
    c.in-Ok.ensures.put c.in-Ok-leave_out.ensures.text c.in-Ok-leave_out.ensures.count (λ goes. (c.in-Ok-leave_out.ensures.lines, c.in-Ok-leave_out.ensures.files, c.in-Ok-leave_out.ensures.out))
