use Rattle.std.proofs.Common.{◌≡◌, ◌∙◌, ◌+◌, ◌<◌, inl, inr, List, None, Some, ℕ, arith, length, refl, sym}
use Rattle.std.proofs.KnownBytes.{Keeps-refl}
use Rattle.map_script.specs.Known.{scope_of}
use Rattle.map_blocks.specs.Blocks.{with_places}
use Rattle.run_script.specs.Drawn.{at_first, line_limit}
use Rattle.run_script.specs.Places.{progress_of, told_around}
use Rattle.map_blocks.specs.ShapePlaces.{shapes_among}
use Rattle.run_script.proofs.Grouped.{at_first_place, cut_off_at, finished, finished_within, line_lost, next_lost, none_lost_from, stopped_there}
use Rattle.run_script.proofs.Progressing.{ComesTo-more, at_start, start_within}
use Rattle.run_script.proofs.ToldBlocks.{all_open, alone_within, open_are, stop_told, stop_within}
use Rattle.run_script.proofs.drawing.draw_all.Goals as goal

pub loop-count-init : goal.loop-count-init
loop-count-init g c = record {
  reached = at_start c.args.canvas.now c.args.names.now (g.W.Write.contents c.args.writer.now) c.args.lines.now c.first_reading-reading.result c.requires.first
      c.first_reading-reading.ensures.first;
  within = start_within (length c.args.lines.now) c.first_reading-reading.result c.first_reading-reading.ensures.few c.first_reading-reading.ensures.first;
  lost = none_lost_from g.C.Canvas c.args.is_verbose (shapes_among (with_places c.args.lines.now) c.args.shapes.now)
      (at_first c.args.canvas.now (g.W.Write.contents c.args.writer.now) c.args.lines.now)
      (line_limit c.args.lines.now) (length c.args.lines.now) 0 (g.W.Write.contents c.args.writer.now) c.args.canvas.now c.requires.settled;
}

-- as many as the script has, and a million
limit_is : (lines : List (ℕ × List ℕ)) → line_limit lines ≡ 1000000 + length lines
limit_is lines = refl

pub loop-count-preserved : goal.loop-count-preserved
loop-count-preserved g c =
    let all : List (ℕ × (ℕ × List ℕ)) = with_places c.args.lines.now in
    let shapes = shapes_among all c.args.shapes.now in
    let limit = limit_is c.args.lines.now in
    let start = at_first c.args.canvas.now (g.W.Write.contents c.args.writer.now) c.args.lines.now in
    let mid = progress_of all c.loop-count.canvas (scope_of c.loop-count.names) (g.W.Write.contents c.loop-count.writer) c.loop-count.reading in
    let new = progress_of all c.advance.new.canvas (scope_of c.advance.new.names) (g.W.Write.contents c.advance.new.writer) c.advance.new.reading in
    let begins = c.if-not-begin_line.ensures.begun refl in
    let under : c.loop-count._count < line_limit c.args.lines.now = omega (arith, limit, c.loop-count-test.true) in
    let lost = at_first_place g.C.Canvas c.args.is_verbose shapes start (line_limit c.args.lines.now) (length c.args.lines.now) c.first_place-first.result c.loop-count.first
    c.in-Some.place c.holds_earlier.result new.sketch.written new.sketch.canvas c.first_place-first.ensures c.holds_earlier.ensures
    (next_lost g.C.Canvas g.met.C.Canvas.loss_since g.met.C.Canvas.loss_within g.met.C.Canvas.stays_alone g.met.C.Canvas.room_made g.met.C.Canvas.room_refused g.met.C.Canvas.told_all g.met.C.Canvas.loss_told
    g.met.C.Canvas.begun g.met.C.Canvas.lost_settled g.met.C.Canvas.settled_again c.args.is_verbose shapes start
    (line_limit c.args.lines.now) (length c.args.lines.now) c.loop-count._count c.loop-count.first c.in-Some.place mid new c.begin_line.new.self c.in-Ok.refusal
    c.loop-count.invariant.reached under c.in-Some.ensures.within c.in-Some.ensures.place begins c.in-Ok.ensures.advanced c.loop-count.invariant.lost) in
    let advanced = rw c.in_default-refusal.is at c.in-Ok.ensures.advanced in
    let within = rw c.in_default-refusal.is at c.in-Ok.ensures.within in
    record {
      reached = ComesTo-more g.C.Canvas c.args.is_verbose shapes start mid new c.loop-count._count c.loop-count.invariant.reached (c.in-Some.place, c.in-Some.ensures.place, c.begin_line.new.self, begins, advanced);
      within = within;
      lost = lost;
    }

pub returns-in_default-clause-drawn : goal.returns-in_default-clause-drawn
returns-in_default-clause-drawn g c =
    let all : List (ℕ × (ℕ × List ℕ)) = with_places c.args.lines.now in
    let shapes = shapes_among all c.args.shapes.now in
    let limit = limit_is c.args.lines.now in
    let start = at_first c.args.canvas.now (g.W.Write.contents c.args.writer.now) c.args.lines.now in
    let mid = progress_of all c.loop-count.canvas (scope_of c.loop-count.names) (g.W.Write.contents c.loop-count.writer) c.loop-count.reading in
    finished g.C.Canvas c.args.is_verbose shapes start (line_limit c.args.lines.now) (length c.args.lines.now) c.loop-count.first (g.W.Write.contents c.loop-count.writer)
    c.loop-count.canvas c.finish.new.canvas _ c.finish.result
    (λ settled. record {
      count = c.loop-count._count;
      last = mid;
      within = omega (arith, limit, c.loop-count-test.true);
      reached = c.loop-count.invariant.reached;
      over = c.in_default.ensures.place;
      put = settled;
      has = refl;
    })
    c.loop-count.invariant.lost c.finish.ensures

pub returns-in_default-clause-within : goal.returns-in_default-clause-within
returns-in_default-clause-within g c =
    finished_within g.C.Canvas c.args.is_verbose (shapes_among (with_places c.args.lines.now) c.args.shapes.now)
    (at_first c.args.canvas.now (g.W.Write.contents c.args.writer.now) c.args.lines.now)
    (line_limit c.args.lines.now) (length c.args.lines.now) c.loop-count.first (g.W.Write.contents c.loop-count.writer) c.loop-count.canvas c.finish.new.canvas None c.finish.result tt
    c.loop-count.invariant.lost c.finish.ensures

pub returns-in-Err-clause-drawn : goal.returns-in-Err-clause-drawn
returns-in-Err-clause-drawn g c =
    let all : List (ℕ × (ℕ × List ℕ)) = with_places c.args.lines.now in
    let shapes = shapes_among all c.args.shapes.now in
    let limit = limit_is c.args.lines.now in
    let start = at_first c.args.canvas.now (g.W.Write.contents c.args.writer.now) c.args.lines.now in
    let mid = progress_of all c.loop-count.canvas (scope_of c.loop-count.names) (g.W.Write.contents c.loop-count.writer) c.loop-count.reading in
    let begins = c.if-not-begin_line.ensures.begun refl in (
      c.in-Err.ensures.advanced.0,
      cut_off_at g.C.Canvas c.args.is_verbose shapes start mid c.begin_line.new.self c.advance.new.canvas c.cut_off.new.canvas c.loop-count._count c.in-Some.place
          c.loop-count.invariant.reached c.in-Some.ensures.place begins c.in-Err.ensures.advanced.1 c.cut_off.ensures,
    )

pub returns-then-not-begin_line-clause-drawn : goal.returns-then-not-begin_line-clause-drawn
returns-then-not-begin_line-clause-drawn g c =
    let written = g.W.Write.contents c.loop-count.writer in
    let (below, quiet, stops) = c.loop-count.invariant.lost c.begin_line.new.self (c.if-not-begin_line.ensures.lost refl) in
    stops written (Keeps-refl written) c.lost_from.result c.lost_from.ensures

pub returns-then-not-begin_line-clause-within : goal.returns-then-not-begin_line-clause-within
returns-then-not-begin_line-clause-within g c =
    let (below, quiet, stops) = c.loop-count.invariant.lost c.begin_line.new.self (c.if-not-begin_line.ensures.lost refl) in
    alone_within (length c.args.lines.now) c.loop-count.first 30 c.lost_from.result c.lost_from.ensures below

pub returns-then-has_lost-clause-drawn : goal.returns-then-has_lost-clause-drawn
returns-then-has_lost-clause-drawn g c =
    let all : List (ℕ × (ℕ × List ℕ)) = with_places c.args.lines.now in
    let shapes = shapes_among all c.args.shapes.now in
    let limit = limit_is c.args.lines.now in
    let start = at_first c.args.canvas.now (g.W.Write.contents c.args.writer.now) c.args.lines.now in
    let mid = progress_of all c.loop-count.canvas (scope_of c.loop-count.names) (g.W.Write.contents c.loop-count.writer) c.loop-count.reading in
    let new = progress_of all c.advance.new.canvas (scope_of c.advance.new.names) (g.W.Write.contents c.advance.new.writer) c.advance.new.reading in
    let begins = c.if-not-begin_line.ensures.begun refl in
    let advanced = rw c.in-Some-refusal.is at c.in-Ok.ensures.advanced in
    let told = line_lost g.C.Canvas g.met.C.Canvas.loss_since g.met.C.Canvas.loss_within g.met.C.Canvas.stays_alone g.met.C.Canvas.room_made g.met.C.Canvas.room_refused g.met.C.Canvas.told_all g.met.C.Canvas.loss_told
    g.met.C.Canvas.begun g.met.C.Canvas.lost_settled g.met.C.Canvas.settled_again c.args.is_verbose shapes start
    (line_limit c.args.lines.now) (length c.args.lines.now) c.loop-count.first c.in-Some.place mid new c.begin_line.new.self c.in-Some-refusal.code begins advanced
    (sym c.has_lost.ensures ∙ c.if-has_lost.true) c.loop-count.invariant.lost in
    told.1 c.lost_from-then-has_lost.result c.lost_from-then-has_lost.ensures

pub returns-then-has_lost-clause-within : goal.returns-then-has_lost-clause-within
returns-then-has_lost-clause-within g c =
    let all : List (ℕ × (ℕ × List ℕ)) = with_places c.args.lines.now in
    let shapes = shapes_among all c.args.shapes.now in
    let limit = limit_is c.args.lines.now in
    let start = at_first c.args.canvas.now (g.W.Write.contents c.args.writer.now) c.args.lines.now in
    let mid = progress_of all c.loop-count.canvas (scope_of c.loop-count.names) (g.W.Write.contents c.loop-count.writer) c.loop-count.reading in
    let new = progress_of all c.advance.new.canvas (scope_of c.advance.new.names) (g.W.Write.contents c.advance.new.writer) c.advance.new.reading in
    let begins = c.if-not-begin_line.ensures.begun refl in
    let advanced = rw c.in-Some-refusal.is at c.in-Ok.ensures.advanced in
    let told = line_lost g.C.Canvas g.met.C.Canvas.loss_since g.met.C.Canvas.loss_within g.met.C.Canvas.stays_alone g.met.C.Canvas.room_made g.met.C.Canvas.room_refused g.met.C.Canvas.told_all g.met.C.Canvas.loss_told
    g.met.C.Canvas.begun g.met.C.Canvas.lost_settled g.met.C.Canvas.settled_again c.args.is_verbose shapes start
    (line_limit c.args.lines.now) (length c.args.lines.now) c.loop-count.first c.in-Some.place mid new c.begin_line.new.self c.in-Some-refusal.code begins advanced
    (sym c.has_lost.ensures ∙ c.if-has_lost.true) c.loop-count.invariant.lost in
    alone_within (length c.args.lines.now) c.loop-count.first 30 c.lost_from-then-has_lost.result c.lost_from-then-has_lost.ensures told.0

pub returns-in-Some-refusal-clause-drawn : goal.returns-in-Some-refusal-clause-drawn
returns-in-Some-refusal-clause-drawn g c =
    let all : List (ℕ × (ℕ × List ℕ)) = with_places c.args.lines.now in
    let shapes = shapes_among all c.args.shapes.now in
    let limit = limit_is c.args.lines.now in
    let start = at_first c.args.canvas.now (g.W.Write.contents c.args.writer.now) c.args.lines.now in
    let mid = progress_of all c.loop-count.canvas (scope_of c.loop-count.names) (g.W.Write.contents c.loop-count.writer) c.loop-count.reading in
    let new = progress_of all c.advance.new.canvas (scope_of c.advance.new.names) (g.W.Write.contents c.advance.new.writer) c.advance.new.reading in
    let begins = c.if-not-begin_line.ensures.begun refl in
    let under : c.loop-count._count < line_limit c.args.lines.now = omega (arith, limit, c.loop-count-test.true) in
    let lost = at_first_place g.C.Canvas c.args.is_verbose shapes start (line_limit c.args.lines.now) (length c.args.lines.now) c.first_place-first.result c.loop-count.first
    c.in-Some.place c.holds_earlier.result new.sketch.written new.sketch.canvas c.first_place-first.ensures c.holds_earlier.ensures
    (next_lost g.C.Canvas g.met.C.Canvas.loss_since g.met.C.Canvas.loss_within g.met.C.Canvas.stays_alone g.met.C.Canvas.room_made g.met.C.Canvas.room_refused g.met.C.Canvas.told_all g.met.C.Canvas.loss_told
    g.met.C.Canvas.begun g.met.C.Canvas.lost_settled g.met.C.Canvas.settled_again c.args.is_verbose shapes start
    (line_limit c.args.lines.now) (length c.args.lines.now) c.loop-count._count c.loop-count.first c.in-Some.place mid new c.begin_line.new.self c.in-Ok.refusal
    c.loop-count.invariant.reached under c.in-Some.ensures.within c.in-Some.ensures.place begins c.in-Ok.ensures.advanced c.loop-count.invariant.lost) in
    let advanced = rw c.in-Some-refusal.is at c.in-Ok.ensures.advanced in
    let told = rw c.in-Some-refusal.is at c.in-Ok.ensures.told in
    let code = c.in-Some-refusal.code in
    let stop = c.stop_at-stop.result in
    finished g.C.Canvas c.args.is_verbose shapes start (line_limit c.args.lines.now) (length c.args.lines.now) c.first_place-first.result new.sketch.written
    c.advance.new.canvas c.finish-in-Some-refusal.new.canvas (Some stop) c.finish-in-Some-refusal.result
    (λ settled. stopped_there g.C.Canvas c.args.is_verbose shapes start (line_limit c.args.lines.now) c.loop-count._count c.in-Some.place code mid new _ stop
    c.finish-in-Some-refusal.new.canvas new.sketch.written c.loop-count.invariant.reached c.in-Some.ensures.place (inl (under, (c.in-Some.place, c.in-Some.ensures.place, c.begin_line.new.self, begins, advanced)))
    c.stop_at-stop.ensures (open_are all c.loop-count.reading c.advance.new.reading code told) settled refl)
    lost c.finish-in-Some-refusal.ensures

pub returns-in-Some-refusal-clause-within : goal.returns-in-Some-refusal-clause-within
returns-in-Some-refusal-clause-within g c =
    let all : List (ℕ × (ℕ × List ℕ)) = with_places c.args.lines.now in
    let shapes = shapes_among all c.args.shapes.now in
    let limit = limit_is c.args.lines.now in
    let start = at_first c.args.canvas.now (g.W.Write.contents c.args.writer.now) c.args.lines.now in
    let mid = progress_of all c.loop-count.canvas (scope_of c.loop-count.names) (g.W.Write.contents c.loop-count.writer) c.loop-count.reading in
    let new = progress_of all c.advance.new.canvas (scope_of c.advance.new.names) (g.W.Write.contents c.advance.new.writer) c.advance.new.reading in
    let begins = c.if-not-begin_line.ensures.begun refl in
    let under : c.loop-count._count < line_limit c.args.lines.now = omega (arith, limit, c.loop-count-test.true) in
    let lost = at_first_place g.C.Canvas c.args.is_verbose shapes start (line_limit c.args.lines.now) (length c.args.lines.now) c.first_place-first.result c.loop-count.first
    c.in-Some.place c.holds_earlier.result new.sketch.written new.sketch.canvas c.first_place-first.ensures c.holds_earlier.ensures
    (next_lost g.C.Canvas g.met.C.Canvas.loss_since g.met.C.Canvas.loss_within g.met.C.Canvas.stays_alone g.met.C.Canvas.room_made g.met.C.Canvas.room_refused g.met.C.Canvas.told_all g.met.C.Canvas.loss_told
    g.met.C.Canvas.begun g.met.C.Canvas.lost_settled g.met.C.Canvas.settled_again c.args.is_verbose shapes start
    (line_limit c.args.lines.now) (length c.args.lines.now) c.loop-count._count c.loop-count.first c.in-Some.place mid new c.begin_line.new.self c.in-Ok.refusal
    c.loop-count.invariant.reached under c.in-Some.ensures.within c.in-Some.ensures.place begins c.in-Ok.ensures.advanced c.loop-count.invariant.lost) in
    let told = rw c.in-Some-refusal.is at c.in-Ok.ensures.told in
    let code = c.in-Some-refusal.code in
    let stop = c.stop_at-stop.result in
    let are = open_are all c.loop-count.reading c.advance.new.reading code told in
    finished_within g.C.Canvas c.args.is_verbose shapes start (line_limit c.args.lines.now) (length c.args.lines.now) c.first_place-first.result new.sketch.written
    c.advance.new.canvas c.finish-in-Some-refusal.new.canvas (Some stop) c.finish-in-Some-refusal.result
    (stop_within (length c.args.lines.now) c.in-Some.place code _ stop
    (stop_told c.in-Some.place code _ _ stop c.stop_at-stop.ensures are) c.in-Some.ensures.within
    (all_open (length c.args.lines.now) code all c.loop-count.reading c.loop-count.invariant.within))
    lost c.finish-in-Some-refusal.ensures

pub returns-in-None-clause-drawn : goal.returns-in-None-clause-drawn
returns-in-None-clause-drawn g c =
    let all : List (ℕ × (ℕ × List ℕ)) = with_places c.args.lines.now in
    let shapes = shapes_among all c.args.shapes.now in
    let limit = limit_is c.args.lines.now in
    let start = at_first c.args.canvas.now (g.W.Write.contents c.args.writer.now) c.args.lines.now in
    let mid = progress_of all c.loop-count.canvas (scope_of c.loop-count.names) (g.W.Write.contents c.loop-count.writer) c.loop-count.reading in
    finished g.C.Canvas c.args.is_verbose shapes start (line_limit c.args.lines.now) (length c.args.lines.now) c.loop-count.first (g.W.Write.contents c.loop-count.writer)
    c.loop-count.canvas c.finish-in-None.new.canvas _ c.finish-in-None.result
    (λ settled. record {
      count = c.loop-count._count;
      last = mid;
      within = omega (arith, limit);
      reached = c.loop-count.invariant.reached;
      over = c.in-None.ensures.place;
      put = settled;
      has = refl;
    })
    c.loop-count.invariant.lost c.finish-in-None.ensures

pub returns-in-None-clause-within : goal.returns-in-None-clause-within
returns-in-None-clause-within g c =
    finished_within g.C.Canvas c.args.is_verbose (shapes_among (with_places c.args.lines.now) c.args.shapes.now)
    (at_first c.args.canvas.now (g.W.Write.contents c.args.writer.now) c.args.lines.now)
    (line_limit c.args.lines.now) (length c.args.lines.now) c.loop-count.first (g.W.Write.contents c.loop-count.writer) c.loop-count.canvas c.finish-in-None.new.canvas None
    c.finish-in-None.result tt c.loop-count.invariant.lost c.finish-in-None.ensures

pub returns-in-Some-place_at_hand-clause-drawn : goal.returns-in-Some-place_at_hand-clause-drawn
returns-in-Some-place_at_hand-clause-drawn g c =
    let all : List (ℕ × (ℕ × List ℕ)) = with_places c.args.lines.now in
    let shapes = shapes_among all c.args.shapes.now in
    let limit = limit_is c.args.lines.now in
    let start = at_first c.args.canvas.now (g.W.Write.contents c.args.writer.now) c.args.lines.now in
    let mid = progress_of all c.loop-count.canvas (scope_of c.loop-count.names) (g.W.Write.contents c.loop-count.writer) c.loop-count.reading in
    let stop = c.too_many_at.result in
    let is = c.too_many_at.ensures c.args.lines.now c.loop-count.invariant.within in
    finished g.C.Canvas c.args.is_verbose shapes start (line_limit c.args.lines.now) (length c.args.lines.now) c.loop-count.first (g.W.Write.contents c.loop-count.writer)
    c.loop-count.canvas c.finish-in-Some-place_at_hand.new.canvas (Some stop) c.finish-in-Some-place_at_hand.result
    (λ settled. stopped_there g.C.Canvas c.args.is_verbose shapes start (line_limit c.args.lines.now) c.loop-count._count c.in-Some-place_at_hand.place 48 mid mid
    (told_around all c.loop-count.reading) stop c.finish-in-Some-place_at_hand.new.canvas mid.sketch.written c.loop-count.invariant.reached c.in-Some-place_at_hand.ensures.place
    (inr (omega (arith, limit, c.loop-count-test.false), refl, refl)) is refl settled refl)
    c.loop-count.invariant.lost c.finish-in-Some-place_at_hand.ensures

pub returns-in-Some-place_at_hand-clause-within : goal.returns-in-Some-place_at_hand-clause-within
returns-in-Some-place_at_hand-clause-within g c =
    let all : List (ℕ × (ℕ × List ℕ)) = with_places c.args.lines.now in
    let stop = c.too_many_at.result in
    let is = c.too_many_at.ensures c.args.lines.now c.loop-count.invariant.within in
    finished_within g.C.Canvas c.args.is_verbose (shapes_among all c.args.shapes.now)
    (at_first c.args.canvas.now (g.W.Write.contents c.args.writer.now) c.args.lines.now)
    (line_limit c.args.lines.now) (length c.args.lines.now) c.loop-count.first (g.W.Write.contents c.loop-count.writer) c.loop-count.canvas
    c.finish-in-Some-place_at_hand.new.canvas (Some stop) c.finish-in-Some-place_at_hand.result
    (stop_within (length c.args.lines.now) c.in-Some-place_at_hand.place 48 (told_around all c.loop-count.reading) stop is c.in-Some-place_at_hand.ensures.within
    (all_open (length c.args.lines.now) 48 all c.loop-count.reading c.loop-count.invariant.within))
    c.loop-count.invariant.lost c.finish-in-Some-place_at_hand.ensures
