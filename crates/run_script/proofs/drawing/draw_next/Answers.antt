use Rattle.std.proofs.Common.{◌≡◌, ◌∙◌, ◌<◌, ◌+◌, List, None, ℕ, Some, ap, arith, length, refl, sym}
use Rattle.map_tables.specs.Projects.{current_map}
use Rattle.map_script.specs.Ats.{at_words}
use Rattle.map_script.specs.Defines.{define_words}
use Rattle.map_script.specs.Known.{scope_of}
use Rattle.map_script.specs.Loops.{loop_words}
use Rattle.map_script.specs.Views.{seen}
use Rattle.map_script.specs.Words.{text_words}
use Rattle.map_blocks.specs.Blocks.{lines_between, with_places}
use Rattle.map_blocks.specs.Defined.{shape_called}
use Rattle.run_script.specs.Lines.{sketch_of}
use Rattle.run_script.specs.Places.{turns_of}
use Rattle.map_blocks.specs.ShapePlaces.{shape_among, shapes_among}
use Rattle.run_script.proofs.Progressing.{any_ok, by_at, by_define, by_loop, by_shape, ended_next, met_block}
use Rattle.run_script.proofs.ToldBlocks.{any_told}
use Rattle.run_script.proofs.drawing.draw_next.Goals as goal

pub returns-in-Some-clause-advanced : goal.returns-in-Some-clause-advanced
returns-in-Some-clause-advanced g c =
    let lines : List (ℕ × List ℕ) = c.args.lines.now in
    let all = with_places lines in
    let r = c.args.reading.now in
    let x = seen c.line-line.result in
    let names = scope_of c.args.names.now in
    let loop : loop_words (text_words x.1) ≡ Some (text_words c.in-Some.words.now) = c.in-Some.ensures in
    met_block g.C.Canvas c.args.is_verbose (shapes_among all c.args.shapes.now) lines x c.args.canvas.now names (scope_of c.open_loop.new.names) (g.W.Write.contents c.args.writer.now)
    r c.open_loop.new.reading _ c.open_loop.result c.line-line.ensures c.requires.some
    (by_loop names (current_map (g.C.Canvas.maps_in c.args.canvas.now)) (shapes_among all c.args.shapes.now) r.place (lines_between all (r.place + 1) r.until) (turns_of all r.blocks.items)
    (text_words x.1) (text_words c.in-Some.words.now) loop)
    c.open_loop.ensures.opened

pub returns-in-Some-at_words-clause-advanced : goal.returns-in-Some-at_words-clause-advanced
returns-in-Some-at_words-clause-advanced g c =
    let lines : List (ℕ × List ℕ) = c.args.lines.now in
    let all = with_places lines in
    let r = c.args.reading.now in
    let x = seen c.line-line.result in
    let names = scope_of c.args.names.now in
    let other : loop_words (text_words x.1) ≡ None = c.in_default.ensures in
    let at : at_words (text_words x.1) ≡ Some (text_words c.in-Some-at_words.words.now) =
    c.in-Some-at_words.ensures in
    met_block g.C.Canvas c.args.is_verbose (shapes_among all c.args.shapes.now) lines x c.args.canvas.now names (scope_of c.open_at.new.names) (g.W.Write.contents c.args.writer.now)
    r c.open_at.new.reading _ c.open_at.result c.line-line.ensures c.requires.some
    (by_at names (current_map (g.C.Canvas.maps_in c.args.canvas.now)) (shapes_among all c.args.shapes.now) r.place (lines_between all (r.place + 1) r.until) (turns_of all r.blocks.items)
    (text_words x.1) (text_words c.in-Some-at_words.words.now) other at)
    c.open_at.ensures.opened

pub returns-in-Some-define_words-clause-advanced : goal.returns-in-Some-define_words-clause-advanced
returns-in-Some-define_words-clause-advanced g c =
    let lines : List (ℕ × List ℕ) = c.args.lines.now in
    let all = with_places lines in
    let r = c.args.reading.now in
    let x = seen c.line-line.result in
    let names = scope_of c.args.names.now in
    let other : loop_words (text_words x.1) ≡ None = c.in_default.ensures in
    let neither : at_words (text_words x.1) ≡ None = c.in_default-at_words.ensures in
    let defined : define_words (text_words x.1) ≡ Some (text_words c.in-Some-define_words.words.now) =
    c.in-Some-define_words.ensures in
    met_block g.C.Canvas c.args.is_verbose (shapes_among all c.args.shapes.now) lines x c.args.canvas.now names names (g.W.Write.contents c.args.writer.now)
    r c.pass_define.new.reading _ c.pass_define.result c.line-line.ensures c.requires.some
    (by_define names (current_map (g.C.Canvas.maps_in c.args.canvas.now)) (shapes_among all c.args.shapes.now) r.place (lines_between all (r.place + 1) r.until)
    (turns_of all r.blocks.items) (text_words x.1) (text_words c.in-Some-define_words.words.now) other neither defined)
    c.pass_define.ensures.opened

pub returns-in-Some-shape_called-clause-advanced : goal.returns-in-Some-shape_called-clause-advanced
returns-in-Some-shape_called-clause-advanced g c =
    let lines : List (ℕ × List ℕ) = c.args.lines.now in
    let all = with_places lines in
    let shapes = shapes_among all c.args.shapes.now in
    let r = c.args.reading.now in
    let x = seen c.line-line.result in
    let names = scope_of c.args.names.now in
    let m = current_map (g.C.Canvas.maps_in c.args.canvas.now) in
    let left = lines_between all (r.place + 1) r.until in
    let turns = turns_of all r.blocks.items in
    let shape = shape_among all c.in-Some-shape_called.shape.now in
    let other : loop_words (text_words x.1) ≡ None = c.in_default.ensures in
    let neither : at_words (text_words x.1) ≡ None = c.in_default-at_words.ensures in
    let not : define_words (text_words x.1) ≡ None = c.in_default-define_words.ensures in
    let called : shape_called shapes r.place (text_words x.1) ≡ Some shape =
    sym (c.in-Some-shape_called.ensures.called all) in
    met_block g.C.Canvas c.args.is_verbose shapes lines x c.args.canvas.now names (scope_of c.open_shape.new.names) (g.W.Write.contents c.args.writer.now)
    r c.open_shape.new.reading _ c.open_shape.result c.line-line.ensures c.requires.some
    (by_shape names m shapes r.place left turns (text_words x.1) shape other neither not called)
    c.open_shape.ensures.opened

pub returns-clause-within : goal.returns-clause-within
returns-clause-within g c =
    let within = c.requires.within in
    any_ok c.draw_line.result (record { few = within.few; until = within.until; blocks = within.blocks; told = within.told })

pub returns-clause-told : goal.returns-clause-told
returns-clause-told g c = any_told c.draw_line.result c.args.reading.now.told.items (record { place = c.args.reading.now.place + 1; until = c.args.reading.now.until; blocks = c.args.reading.now.blocks; told = c.args.reading.now.told }) refl

pub returns-clause-advanced : goal.returns-clause-advanced
returns-clause-advanced g c =
    let lines : List (ℕ × List ℕ) = c.args.lines.now in
    let all = with_places lines in
    let r = c.args.reading.now in
    let x = seen c.line-line.result in
    let other : loop_words (text_words x.1) ≡ None = c.in_default.ensures in
    let neither : at_words (text_words x.1) ≡ None = c.in_default-at_words.ensures in
    let not : define_words (text_words x.1) ≡ None = c.in_default-define_words.ensures in
    let undrawn : shape_called (shapes_among all c.args.shapes.now) r.place (text_words x.1) ≡ None =
    sym (c.in_default-shape_called.ensures.called all) in
    ended_next g.C.Canvas c.args.is_verbose (shapes_among all c.args.shapes.now) lines x (sketch_of c.args.canvas.now (scope_of c.args.names.now) (g.W.Write.contents c.args.writer.now))
    (sketch_of c.draw_line.new.canvas (scope_of c.draw_line.new.names) (g.W.Write.contents c.draw_line.new.writer)) c.draw_line.new.canvas r (record { place = r.place + 1; until = r.until; blocks = r.blocks; told = r.told }) c.draw_line.result
    c.line-line.ensures c.requires.some other neither not undrawn refl refl refl refl c.draw_line.ensures
