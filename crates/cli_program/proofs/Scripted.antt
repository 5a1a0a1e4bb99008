-- What is done with the maps of a script, and what a file leaves open of it.
use Rattle.std.proofs.Common.{◌≡◌, inl, inr, ℕ, Bool, false, true, List, Option, Result, Err, ◌∙◌, sym, subst, ap}
use Rattle.std.specs.Io.KnownBytes.{Keeps}
use Rattle.cli_print.specs.Reading.{ReadsAll}
use Rattle.std.proofs.KnownBytes.{Keeps-refl}
use Rattle.map_tables.specs.Projects.{MapsView, project_of}
use Rattle.map_script.specs.Scripts.{script_lines}
use Rattle.run_canvas.specs.Canvases.{OneOf}
use Rattle.cli_print.specs.Origins.{no_origin}
use Rattle.cli_scripts.specs.ScriptCanvases.{ItemOrigin, ScriptCanvas}
use Rattle.cli_scripts.specs.DrawnInto.{is_file}
use Rattle.cli_scripts.specs.ScriptMaps.{DrawsLeaving, NotReadDrawn, OverScript}
use Rattle.cli_scripts.specs.Including.{IsScriptJoined}
use Rattle.cli_program.specs.SomeSource.{OverSome, OverSomeMaps, OverSource}
use Rattle.cli_sources.specs.Unread.{OverWad}
use Rattle.cli_sources.proofs.Opened.{unread_of}
use Rattle.store_project.specs.declared.error.ProjectError.TheVariants.{NotAProject}
use Rattle.cli_refusals.specs.declared.refusal.Refusal.{Refusal}

-- this was done with the maps of a script that were drawn
pub over_drawn : {S : Type 0} (on : ScriptCanvas S) (path : List ℕ) (lines : List (ℕ × List ℕ)) (files : List (List ℕ)) (first left : S) (r s u w d x : Option (List ℕ)) (how : Result ℕ Refusal)
    (origin : ItemOrigin) (maps : MapsView) (does : ItemOrigin → MapsView → Type 0) → first ≡ on.first
    → (text : List ℕ) × ReadsAll r s text × IsScriptJoined path (script_lines text) lines files → DrawsLeaving on.facts first lines left → Keeps d x
    → project_of maps ≡ on.facts.maps_in left → origin ≡ on.origin lines files left → does origin maps → OverScript on path r s how u w d x does
over_drawn {S} on path lines files first left r s u w d x how origin maps does is (text, all, joined) drawn told same from done =
    inr (
      maps,
      origin,
      (text, all, (lines, files, joined, left, subst (λ (q : S). DrawsLeaving on.facts q lines left) is drawn, same, from), told),
      done,
    )

-- there are no maps of it
pub over_none : {S : Type 0} (on : ScriptCanvas S) (path : List ℕ) (first : S) (r s u d x : Option (List ℕ)) (how : Result ℕ Refusal) (does : ItemOrigin → MapsView → Type 0) → first ≡ on.first
    → NotReadDrawn on.facts first path r s how d x → OverScript on path r s how u u d x does
over_none {S} on path first r s u d x how does is ended = inl (subst (λ (q : S). NotReadDrawn on.facts q path r s how d x) is ended, Keeps-refl u)

-- ---- What a file leaves open

pub some_of_script : {S : Type 0} (on : ScriptCanvas S) (path : List ℕ) (r s u w d x : Option (List ℕ)) (how : Result ℕ Refusal) (does : ItemOrigin → MapsView → Type 0) (levels : List ℕ → Type 0)
    → OverScript on path r s how u w d x does → OverSome on path how u w d x does levels
some_of_script on path r s u w d x how does levels (inl (inl (refusal, is, inl unread, told), kept)) =
    inr (inl (unread_of r s u w how (refusal, is, unread, kept), told))
some_of_script on path r s u w d x how does levels (inl (inl (refusal, is, inr none, told), kept)) = inl (inl (NotAProject, is ∙ ap Err none, tt, kept), told)
some_of_script on path r s u w d x how does levels (inl (inr (text, all, stopped), kept)) = inr (inr (inr (text, inl (stopped, kept))))
some_of_script on path r s u w d x how does levels (inr (maps, origin, (text, all, drawn, told), done)) = inr (inr (inr (text, inr (maps, origin, drawn, told, done))))

pub some_of_wad : {S : Type 0} (on : ScriptCanvas S) (path : List ℕ) (r s u w d x : Option (List ℕ)) (how : Result ℕ Refusal) (does : ItemOrigin → MapsView → Type 0) (levels : List ℕ → Type 0)
    → OverWad r s how u w (λ wad. levels wad) → Keeps d x → OverSome on path how u w d x does (λ wad. levels wad × Keeps d x)
some_of_wad on path r s u w d x how does levels (inl unread) told = inr (inl (unread_of r s u w how unread, told))
some_of_wad on path r s u w d x how does levels (inr (wad, all, done)) told = inr (inr (inl (wad, (done, told))))

pub some_of_maps : {S : Type 0} (on : ScriptCanvas S) (path : List ℕ) (u w d x : Option (List ℕ)) (how : Result ℕ Refusal) (does : ItemOrigin → MapsView → Type 0) (levels : List ℕ → Type 0)
    → OverSomeMaps how u w (does no_origin) → Keeps d x → OverSome on path how u w d x does levels
some_of_maps on path u w d x how does levels done told = inl (done, told)

-- ---- A file, or the input

pub source_of_file : {S : Type 0} (on : ScriptCanvas S) (path : List ℕ) (r u w d x : Option (List ℕ)) (how : Result ℕ Refusal) (does : ItemOrigin → MapsView → Type 0) (levels : List ℕ → Type 0) → is_file path ≡ true
    → OverSome on path how u w d x does levels → OverSource on path how r r u w d x does levels
source_of_file on path r u w d x how does levels is done =
    subst (λ (t : Bool). OneOf t (OverSome on path how u w d x does levels × Keeps r r) (OverScript on path r r how u w d x does)) (sym is) (done, Keeps-refl r)

pub source_of_input : {S : Type 0} (on : ScriptCanvas S) (path : List ℕ) (r s u w d x : Option (List ℕ)) (how : Result ℕ Refusal) (does : ItemOrigin → MapsView → Type 0) (levels : List ℕ → Type 0) → is_file path ≡ false
    → OverScript on path r s how u w d x does → OverSource on path how r s u w d x does levels
source_of_input on path r s u w d x how does levels is done =
    subst (λ (t : Bool). OneOf t (OverSome on path how u w d x does levels × Keeps r s) (OverScript on path r s how u w d x does)) (sym is) done
