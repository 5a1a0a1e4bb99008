use Rattle.std.proofs.Common.{length}
use Rattle.map_blocks.specs.Stops.{IsStopWithin}
use Rattle.run_stops.proofs.Rounds.{if_there, stops_at, told_among}
use Rattle.run_stops.proofs.further.stop_over.Goals as goal

pub returns-in-Ok-stop_told-clause-stops : goal.returns-in-Ok-stop_told-clause-stops
returns-in-Ok-stop_told-clause-stops c =
    stops_at _ c.in-Ok.draft c.draw-drawn.new.canvas c.args.lines.now c.in-Ok-Some.field-0 c.in-Ok-Some.stop _ c.in-Ok.ensures c.in-Ok-Some.field-0-is c.in-Ok-Some.ensures.drawn

pub returns-in-Ok-stop_told-clause-told : goal.returns-in-Ok-stop_told-clause-told
returns-in-Ok-stop_told-clause-told c =
    told_among c.args.lines.now c.args.files.now c.in-Ok-Some.stop c.in-Ok-stop_told.text.items
    (if_there (IsStopWithin (length c.args.lines.now)) c.in-Ok-Some.field-0 c.in-Ok-Some.stop c.in-Ok-Some.field-0-is c.in-Ok-Some.ensures.within) c.requires.files
    c.in-Ok-stop_told.ensures.told
