use Rattle.std.proofs.Common.{◌<◌, ◌≤◌, List, arith, get_or, length, subst}
use Rattle.std.proofs.KnownBytes.{Appends-nil}
use Rattle.std.proofs.lemmas.List.{take_all}
use Rattle.std.proofs.lemmas.Option.{slice_get-get_or}
use Rattle.std.specs.Io.KnownBytes.{Appends}
use Rattle.map_tables.specs.Projects.{project_of}
use Rattle.map_tables.specs.Tables.{Tables, empty_tables}
use Rattle.map_dump.specs.Dump.{commands_from}
use Rattle.map_dump.proofs.Written.{maps_more, maps_stopped, text}
use Rattle.map_dump.proofs.dump.write_maps.Goals as goal

pub loop-n-init : goal.loop-n-init
loop-n-init g c = Appends-nil (g.W.Write.contents c.args.writer.now)

pub loop-n-preserved : goal.loop-n-preserved
loop-n-preserved g c =
    let ms : List Tables = (project_of c.args.maps.now).maps in
    let within : c.loop-n.n < length ms = omega (arith, c.len-len.ensures.value, c.loop-n-test.true) in
    maps_more ms c.loop-n.n (g.W.Write.contents c.args.writer.now) (g.W.Write.contents c.loop-n.writer) (g.W.Write.contents c.write_nth.new.writer)
    within c.loop-n.invariant (c.in-Ok.ensures (get_or ms c.loop-n.n empty_tables) (slice_get-get_or ms c.loop-n.n empty_tables within))

pub returns-in-Err-clause-lines : goal.returns-in-Err-clause-lines
returns-in-Err-clause-lines g c =
    let ms : List Tables = (project_of c.args.maps.now).maps in
    let within : c.loop-n.n < length ms = omega (arith, c.len-len.ensures.value, c.loop-n-test.true) in
    maps_stopped ms c.loop-n.n c.in-Err.error (g.W.Write.contents c.args.writer.now) (g.W.Write.contents c.loop-n.writer)
    (g.W.Write.contents c.write_nth.new.writer) within c.loop-n.invariant
    (c.in-Err.ensures (get_or ms c.loop-n.n empty_tables) (slice_get-get_or ms c.loop-n.n empty_tables within))

pub returns-clause-lines : goal.returns-clause-lines
returns-clause-lines g c =
    let ms : List Tables = (project_of c.args.maps.now).maps in
    let whole : length ms ≤ c.loop-n.n = omega (arith, c.len-len.ensures.value, c.loop-n-test.false) in
    subst (λ (ks : List Tables). Appends (g.W.Write.contents c.args.writer.now) (g.W.Write.contents c.loop-n.writer) (text (commands_from 0 ks)))
    (take_all c.loop-n.n ms whole) c.loop-n.invariant
