use Rattle.std.proofs.Common.{◌≡◌, ℕ, Bool, List, [], Option, Some, Ok, refl, subst}
use Rattle.std.proofs.KnownBytes.{Keeps-refl}
use Rattle.std.specs.Prelude.{MatchOption}
use Rattle.map_blocks.specs.Blocks.{order_fault, with_places}
use Rattle.map_blocks.specs.Defined.{shapes_in}
use Rattle.run_script.specs.Drawn.{EndsFrom, IsScriptDrawn, at_first, line_limit}
use Rattle.run_script.specs.Orders.{IsOutOfOrder}
use Rattle.map_blocks.specs.Stops.{IsStop}
use Rattle.run_canvas.specs.declared.canvas.Canvas.{Ghosts}
use Rattle.map_blocks.specs.declared.stop.Stop.{Stop}
use Rattle.run_script.proofs.drawing.draw.Goals as goal

-- a script is refused where its blocks are out of order
out_of_order : {S : Type 0} (facts : Ghosts S) (verbose : Bool) (lines : List (ℕ × List ℕ)) (place : ℕ) (stop : Stop) (canvas : S) (w : Option (List ℕ)) → Some place ≡ order_fault lines
    → IsStop place 47 [] stop → IsScriptDrawn facts verbose lines (Ok (Some stop)) canvas w canvas w
out_of_order facts verbose lines place stop canvas w at is =
    subst (λ (o : Option ℕ). MatchOption o
    (EndsFrom facts verbose (shapes_in (with_places lines)) (at_first canvas w lines) (line_limit lines) (Ok (Some stop)) canvas w)
    (λ place. IsOutOfOrder place (Ok (Some stop)) canvas w canvas w)) at
    (record { refused = (stop, refl, is); canvas = refl; written = Keeps-refl w })

pub returns-in-Some-clause-drawn : goal.returns-in-Some-clause-drawn
returns-in-Some-clause-drawn g c =
    out_of_order g.C.Canvas c.args.is_verbose c.args.lines.now c.in-Some.place c.stop_alone.result c.args.canvas.now (g.W.Write.contents c.args.writer.now) c.in-Some.ensures.place
    (subst (λ (code : ℕ). IsStop c.in-Some.place code [] c.stop_alone.result) c.code-code.ensures c.stop_alone.ensures)
