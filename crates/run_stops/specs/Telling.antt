-- One refused line of a script more, as far as they have been told.
use Rattle.std.specs.Prelude.{◌≡◌, ◌⊎◌, ◌+◌, ◌<◌, ℕ, length, Bool, true, false, not, is_some, List, [], ◌∷◌, ◌++◌, Option, IfSome, unwrap_or}
use Rattle.std.specs.List.{remove}
use Rattle.map_blocks.specs.Hanging.{hangs}
use Rattle.map_blocks.specs.declared.stop.Stop.{Stop}
use Rattle.run_canvas.specs.Canvases.{Drafted}
use Rattle.run_stops.specs.ToldStops.{IsToldAmong, StopsAt, told_count, with_left_out}
use Rattle.run_stops.specs.declared.further.Telling.{Telling}

-- of one line more this was told, or nothing
pub record TellsOf (told : Option (List ℕ)) (old new : Telling) : Type 0 where
  pub text : new.text.items ≡ old.text.items ++ unwrap_or told []
  pub count : new.count ≡ old.count + told_count (told ∷ [])

-- of a stop these bytes were told, or nothing if its line hangs on those that were left out; the
-- script stays
pub record PutsTold (stop : Stop) (text : List ℕ) (old new : Telling) : Type 0 where
  pub told : Option (List ℕ)
  pub hung : is_some told ≡ not (hangs old.lines old.left_out stop)
  pub is : IfSome told (λ t. t ≡ text)
  pub tells : TellsOf told old new
  pub lines : new.lines ≡ old.lines
  pub files : new.files ≡ old.files
  pub out : new.left_out ≡ old.left_out

-- the script stopped at a line, of which this was told, or nothing if it hangs; and where it goes on,
-- that line was left out
pub record MeetsStop (first : Drafted) (old new : Telling) (goes-on : Bool) : Type 0 where
  pub stop : Stop
  pub told : Option (List ℕ)
  pub stops : StopsAt first old.lines stop
  pub hung : is_some told ≡ not (hangs old.lines old.left_out stop)
  pub is : IfSome told (IsToldAmong old.lines old.files stop)
  pub tells : TellsOf told old new
  pub within : stop.place < length old.lines
  pub left : goes-on ≡ true
      → (new.lines ≡ remove old.lines stop.place) × (new.files ≡ remove old.files stop.place)
      × (new.left_out ≡ with_left_out old.left_out old.lines stop.place)

-- either that, or nothing was told, and it doesn't go on
abbrev pub TellsOneMore : Drafted → Telling → Telling → Bool → Type 0
TellsOneMore first old new goes-on =
    MeetsStop first old new goes-on
    ⊎ ((goes-on ≡ false) × (new.text.items ≡ old.text.items) × (new.count ≡ old.count))
