-- Onto what a script is drawn where it stands in place of a project.
use Rattle.std.specs.Prelude.{ℕ, List}
use Rattle.map_tables.specs.declared.kind.Kind.{Kind}
use Rattle.run_canvas.specs.Canvases.{Drafted, draft_canvas, first_draft}
use Rattle.run_canvas.specs.Origins.{OriginMaps, first_origins, origin_canvas}
use Rattle.run_canvas.specs.declared.canvas.Canvas as canvas
use Rattle.cli_print.specs.Origins.{no_origin}
use Rattle.cli_scripts.specs.ScriptOrigins.{script_origin}

-- what is written of where the item of a kind and a number comes from, in the map with a name
abbrev pub ItemOrigin : Type 0
ItemOrigin = List ℕ → Kind → ℕ → List ℕ

-- maps in memory, the empty project at first, and where their items come from after these lines in
-- these files
pub record ScriptCanvas (S : Type 0) : Type 1 where
  pub facts : canvas.Ghosts S
  pub first : S
  pub origin : List (ℕ × List ℕ) → List (List ℕ) → S → ItemOrigin

-- maps that don't keep where their items come from
abbrev pub maps_alone : ScriptCanvas Drafted
maps_alone = record {
  facts = draft_canvas;
  first = first_draft;
  origin = λ lines files last. no_origin;
}

-- maps that do
abbrev pub maps_with_origins : ScriptCanvas OriginMaps
maps_with_origins = record {
  facts = origin_canvas;
  first = first_origins;
  origin = script_origin;
}
