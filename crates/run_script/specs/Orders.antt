-- A script whose blocks are out of order (docs/COMMANDS.md, "Scripts").
use Rattle.std.specs.Prelude.{◌≡◌, ℕ, List, [], Option, Some, Result, Ok}
use Rattle.std.specs.Io.KnownBytes.{Keeps}
use Rattle.map_blocks.specs.Stops.{IsStop}
use Rattle.map_blocks.specs.declared.stop.Stop.{Stop}
use Rattle.run_canvas.specs.declared.error.ScriptError.{ScriptError}

-- the blocks of a script are out of order at a place: it is refused there with 47, no block is told,
-- and nothing is drawn
pub record IsOutOfOrder {S : Type 0} (place : ℕ) (result : Result (Option Stop) ScriptError)
    (canvas-old : S) (writer-old : Option (List ℕ)) (canvas-new : S)
    (writer-new : Option (List ℕ)) : Type 0 where
  pub refused : (stop : Stop) × (result ≡ Ok (Some stop)) × IsStop place 47 [] stop
  pub canvas : canvas-new ≡ canvas-old
  pub written : Keeps writer-old writer-new
