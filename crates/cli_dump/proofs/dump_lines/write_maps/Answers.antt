use Rattle.std.proofs.Common.{◌<◌, ◌≤◌, List, arith, get_or, length, map, string_bytes, subst}
use Rattle.std.specs.Prelude.{flat_map}
use Rattle.std.specs.Io.KnownBytes.{Appends}
use Rattle.std.proofs.KnownBytes.{Appends-nil}
use Rattle.std.proofs.lemmas.List.{take_all}
use Rattle.std.proofs.lemmas.Option.{slice_get-get_or}
use Rattle.map_dump.specs.Texts.{text_of}
use Rattle.map_tables.specs.Projects.{project_of}
use Rattle.map_tables.specs.Tables.{Tables, empty_tables}
use Rattle.cli_dump.specs.Dumping.{lines_asked}
use Rattle.cli_dump.proofs.LevelDumps.{asked_all_written, asked_lost, asked_more}
use Rattle.cli_dump.proofs.dump_lines.write_maps.Goals as goal

pub loop-n-init : goal.loop-n-init
loop-n-init g c = Appends-nil (g.W.Write.contents c.args.writer.now)

pub loop-n-preserved : goal.loop-n-preserved
loop-n-preserved g c =
    let ms : List Tables = (project_of c.args.maps.now).maps in
    let within : c.loop-n.n < length ms = omega (arith, c.len-n-end.ensures.value, c.loop-n-test.true) in
    asked_more (map string_bytes c.args.names.now) ms c.loop-n.n empty_tables (g.W.Write.contents c.args.writer.now) (g.W.Write.contents c.loop-n.writer)
    (g.W.Write.contents c.write_nth.new.writer) within c.loop-n.invariant
    (c.in-Ok.ensures (get_or ms c.loop-n.n empty_tables) (slice_get-get_or ms c.loop-n.n empty_tables within))

pub returns-in-Err : goal.returns-in-Err
returns-in-Err g c =
    let ms : List Tables = (project_of c.args.maps.now).maps in
    let within : c.loop-n.n < length ms = omega (arith, c.len-n-end.ensures.value, c.loop-n-test.true) in
    asked_lost (map string_bytes c.args.names.now) (project_of c.args.maps.now) c.loop-n.n empty_tables c.in-Err.error (g.W.Write.contents c.args.writer.now)
    (g.W.Write.contents c.loop-n.writer) (g.W.Write.contents c.write_nth.new.writer) within c.loop-n.invariant
    (c.in-Err.ensures (get_or ms c.loop-n.n empty_tables) (slice_get-get_or ms c.loop-n.n empty_tables within))

pub returns : goal.returns
returns g c =
    let p = project_of c.args.maps.now in
    let names = map string_bytes c.args.names.now in
    let u = g.W.Write.contents c.args.writer.now in
    let w = g.W.Write.contents c.loop-n.writer in
    let ms : List Tables = p.maps in
    let whole : length ms ≤ c.loop-n.n = omega (arith, c.len-n-end.ensures.value, c.loop-n-test.false) in
    asked_all_written names p u w
    (subst (λ (ks : List Tables). Appends u w (text_of (flat_map (lines_asked names) ks))) (take_all c.loop-n.n ms whole) c.loop-n.invariant)
