-- What `rebuild` does with a WAD that is given: it stands in memory, whole or as far as its levels are built of it.
use Rattle.std.specs.Prelude.{◌≡◌, ◌⊎◌, ℕ, List, Option, Result, Err, take}
use Rattle.std.specs.Io.KnownBytes.{Keeps}
use Rattle.run_edit.specs.declared.error.EditorError.{EditorError}
use Rattle.run_edit.specs.declared.error.EditorError.TheVariants.{WriterFailed}
use Rattle.wad_file.specs.Placed.{IsListWritten, Placed, placed_size}
use Rattle.wad_rebuild.specs.Held.{IsWholeOf, placed_lumps}
use Rattle.wad_rebuild.specs.Rebuilt.{size_limit}
use Rattle.wad_rebuild.specs.Whole.{IsListOf, RefusesBytes}
use Rattle.wad_rebuild.specs.declared.error.RebuildError.{RebuildError}
use Rattle.wad_rebuild.specs.declared.levels.RebuiltLevel.{RebuiltLevel}
use Rattle.cli_rebuild.specs.Rebuilding.{IsMadeFrom, IsRebuiltOf, MakesNone, refusal_for}
use Rattle.cli_refusals.specs.declared.refusal.Refusal.{Refusal}
use Rattle.cli_refusals.specs.declared.refusal.Refusal.TheVariants as of

-- it is the WAD in memory, or the whole one for which that stands
abbrev pub IsOfGiven : List ℕ → Option (List ℕ) → ℕ → List ℕ → Type 0
IsOfGiven wad directory len whole = IsWholeOf wad directory len whole ⊎ (whole ≡ wad)

-- the lumps after what became of the levels were written into the file, which has so many bytes
pub record IsPutInto {F : Type 0} (contents : F → Option (List ℕ)) (wad : List ℕ)
    (directory : Option (List ℕ)) (len : ℕ) (levels : List RebuiltLevel) (size : ℕ)
    (file : F) : Type 0 where
  pub list : List Placed
  pub is : IsListOf wad directory len levels list
  pub size_is : size ≡ placed_size list
  pub source : Option (List ℕ)
  pub new : F
  pub written : IsListWritten source (take 4 wad) list (contents new) (contents file)

-- why they weren't: that WAD would have too many bytes, or no memory is left; or the file can't be
-- made, or a lump can't be read
abbrev pub PutsNone : List ℕ → Option (List ℕ) → ℕ → List RebuiltLevel → EditorError → Refusal
    → Type 0
PutsNone wad directory len levels unread refusal =
    ((e : RebuildError) × (refusal ≡ refusal_for e)
    × RefusesBytes (size_limit len) (placed_size (placed_lumps wad directory levels)) e)
    ⊎ ((refusal ≡ of.Lines WriterFailed) ⊎ (refusal ≡ of.Lines unread))

-- the file was made of the whole WAD with its levels built anew
abbrev pub IsMadeOver : {F : Type 0} → (F → Option (List ℕ)) → List ℕ → Option (List ℕ) → ℕ
    → List (List ℕ) → List RebuiltLevel → ℕ → F → Type 0
IsMadeOver contents wad directory len names levels size file =
    (whole : List ℕ) × IsWholeOf wad directory len whole
    × IsMadeFrom contents whole names levels size file

-- no file was made: the WAD is refused, or the file can't be made; or the WAD can't be read
abbrev pub MakesNoneOver : List ℕ → Option (List ℕ) → ℕ → List (List ℕ) → EditorError → Refusal
    → Type 0
MakesNoneOver wad directory len names unread refusal =
    ((whole : List ℕ) × IsOfGiven wad directory len whole × MakesNone whole names refusal)
    ⊎ (refusal ≡ of.Lines unread)

-- this was done with the WAD; or it can't be read, and nothing was told
abbrev pub IsRebuiltOver : List ℕ → Option (List ℕ) → ℕ → List (List ℕ) → EditorError
    → Result ℕ Refusal → Option (List ℕ) → Option (List ℕ) → Option (List ℕ) → Option (List ℕ)
    → Type 0
IsRebuiltOver wad directory len names unread how writer-old writer-new errors-old errors-new =
    ((whole : List ℕ) × IsOfGiven wad directory len whole
    × IsRebuiltOf whole names how writer-old writer-new errors-old errors-new)
    ⊎ ((how ≡ Err (of.Lines unread)) × Keeps writer-old writer-new × Keeps errors-old errors-new)
