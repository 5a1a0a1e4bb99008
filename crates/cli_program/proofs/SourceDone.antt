-- What was done for a request over a project, a WAD or a script.
use Rattle.std.proofs.Common.{◌≡◌, inl, inr, ℕ, Bool, true, false, List, Option, Result, Ok, Err, subst, arith}
use Rattle.std.specs.Io.KnownBytes.{Keeps}
use Rattle.map_tables.specs.Projects.{MapsView}
use Rattle.store_disk.specs.declared.disk.Disk.{Ghosts}
use Rattle.std.specs.Prelude.{is_some, map, option_map, string_bytes}
use Rattle.cli_print.specs.Checking.{IsCheckedIn}
use Rattle.cli_print.specs.Choosing.{ChosenWords}
use Rattle.cli_pictures.specs.LaidOver.{layers_of}
use Rattle.cli_print.specs.LevelLines.{IsWadChecked, IsWadLintedBy}
use Rattle.cli_pictures.specs.LevelPicture.{IsLevelPicturedOf}
use Rattle.cli_print.specs.Linting.{IsLintedBy}
use Rattle.cli_pictures.specs.Picturing.{IsPicturedOf}
use Rattle.cli_pictures.specs.declared.laid_over.Layers.{Layers}
use Rattle.cli_program.specs.SourceDeeds.{IsBuiltAt, IsCheckedAt, IsDoneWith, IsDumpedAt, IsLintedAt, IsPicturedAt}
use Rattle.cli_program.specs.SomeSource.{OverSome, OverSource}
use Rattle.cli_requests.specs.Requests.{IsBuiltFrom}
use Rattle.cli_scripts.specs.DrawnInto.{is_file}
use Rattle.cli_scripts.proofs.JoinedLines.{ends_apart}
use Rattle.map_script.specs.Scripts.{script_lines}
use Rattle.run_canvas.specs.Canvases.{OneOf}
use Rattle.run_canvas.specs.declared.canvas.Canvas as canvas
use Rattle.cli_scripts.specs.ScriptCanvases.{ItemOrigin, ScriptCanvas, maps_alone, maps_with_origins}
use Rattle.cli_program.specs.Deeds.{IsPerformed}
use Rattle.cli_program.specs.Kinds.{IsQuiet}
use Rattle.cli_program.specs.Notes.{TellsNotes}
use Rattle.cli_scripts.specs.ScriptMaps.{IsStopped, OverScript}
use Rattle.cli_refusals.specs.Statuses.{status_in}
use Rattle.cli_refusals.specs.declared.refusal.Refusal.{Refusal}
use Rattle.cli_words.specs.declared.asked.Request.{Request}
use Rattle.cli_words.specs.declared.asked.Request.TheVariants.{Scratch, Create, Edit, Check, Lint, Draw, TryScript, Dump, Salvage, Picture, Inspect, Levels, Build, Rebuild}

-- what was done for the same path, map, options and names, each given in another way
pub checked_as : (p q : List ℕ) (m n : Option (List ℕ)) (how : Result ℕ Refusal) (r s u w d x : Option (List ℕ)) → p ≡ q → m ≡ n
    → IsCheckedAt p m how r s u w d x → IsCheckedAt q n how r s u w d x
checked_as p q m n how r s u w d x path same done =
    subst (λ (t : List ℕ). IsCheckedAt t n how r s u w d x) path (subst (λ (t : Option (List ℕ)). IsCheckedAt p t how r s u w d x) same done)

pub linted_as : (p q : List ℕ) (a b : Bool) (k l : ChosenWords) (m n : Option (List ℕ)) (how : Result ℕ Refusal) (r s u w d x : Option (List ℕ)) → p ≡ q → a ≡ b
    → k ≡ l → m ≡ n → IsLintedAt p a k m how r s u w d x → IsLintedAt q b l n how r s u w d x
linted_as p q a b k l m n how r s u w d x path same chosen named done =
    subst (λ (t : List ℕ). IsLintedAt t b l n how r s u w d x) path
    (subst (λ (t : Bool). IsLintedAt p t l n how r s u w d x) same
    (subst (λ (t : ChosenWords). IsLintedAt p a t n how r s u w d x) chosen (subst (λ (t : Option (List ℕ)). IsLintedAt p a k t how r s u w d x) named done)))

pub pictured_as : (p q : List ℕ) (k l : Layers) (m n : Option (List ℕ)) (a b : Bool) (how : Result ℕ Refusal) (r s u w d x : Option (List ℕ)) → p ≡ q
    → k ≡ l → m ≡ n → a ≡ b → IsPicturedAt p k m a how r s u w d x → IsPicturedAt q l n b how r s u w d x
pictured_as p q k l m n a b how r s u w d x path over same into done =
    subst (λ (t : List ℕ). IsPicturedAt t l n b how r s u w d x) path
    (subst (λ (t : Layers). IsPicturedAt p t n b how r s u w d x) over
    (subst (λ (t : Option (List ℕ)). IsPicturedAt p k t b how r s u w d x) same (subst (λ (t : Bool). IsPicturedAt p k m t how r s u w d x) into done)))

pub dumped_as : (p q : List ℕ) (m n : List (List ℕ)) (exact : Bool) (how : Result ℕ Refusal) (r s u w d x : Option (List ℕ)) → p ≡ q → m ≡ n
    → IsDumpedAt p m exact how r s u w d x → IsDumpedAt q n exact how r s u w d x
dumped_as p q m n exact how r s u w d x path same done =
    subst (λ (t : List ℕ). IsDumpedAt t n exact how r s u w d x) path (subst (λ (t : List (List ℕ)). IsDumpedAt p t exact how r s u w d x) same done)

pub built_as : (p q : List ℕ) (how : Result ℕ Refusal) (r s u w d x : Option (List ℕ)) → p ≡ q → IsBuiltAt p how r s u w d x → IsBuiltAt q how r s u w d x
built_as p q how r s u w d x path done = subst (λ (t : List ℕ). IsBuiltAt t how r s u w d x) path done

-- ---- A request

-- what was done was performed
pub performed_with : {D : Type 0} (facts : Ghosts D) (request : Request) (how : Result ℕ Refusal) (r s u w d x : Option (List ℕ))
    → IsDoneWith request how r s u w d x → IsPerformed facts request how r s u w
performed_with facts (Check file map) how r s u w d x done = (d, x, done)
performed_with facts (Lint file map iwad only except) how r s u w d x done = (d, x, done)
performed_with facts (Dump file names exact) how r s u w d x done = (d, x, done)
performed_with facts (Picture file map out numbers nodes lint heights grid crop) how r s u w d x done = (d, x, done)
performed_with facts (Build file out) how r s u w d x done = (d, x, done)
performed_with facts Scratch how r s u w d x never = absurd never
performed_with facts (Create file slot journal) how r s u w d x never = absurd never
performed_with facts (Edit file) how r s u w d x never = absurd never
performed_with facts (Draw file script verbose) how r s u w d x never = absurd never
performed_with facts (TryScript script over verbose) how r s u w d x never = absurd never
performed_with facts (Salvage file) how r s u w d x never = absurd never
performed_with facts (Inspect wad name) how r s u w d x never = absurd never
performed_with facts (Levels wad) how r s u w d x never = absurd never
performed_with facts (Rebuild wad out maps) how r s u w d x never = absurd never

-- what was done was told
pub noted_with : (request : Request) (how : Result ℕ Refusal) (r s u w d x : Option (List ℕ)) → IsDoneWith request how r s u w d x → TellsNotes request how u w d x
noted_with (Check file map) how r s u w d x done = (r, s, done)
noted_with (Lint file map iwad only except) how r s u w d x done = (r, s, done)
noted_with (Dump file names exact) how r s u w d x done = (r, s, done)
noted_with (Picture file map out numbers nodes lint heights grid crop) how r s u w d x done = (r, s, done)
noted_with (Build file out) how r s u w d x done = (r, s, done)
noted_with Scratch how r s u w d x never = absurd never
noted_with (Create file slot journal) how r s u w d x never = absurd never
noted_with (Edit file) how r s u w d x never = absurd never
noted_with (Draw file script verbose) how r s u w d x never = absurd never
noted_with (TryScript script over verbose) how r s u w d x never = absurd never
noted_with (Salvage file) how r s u w d x never = absurd never
noted_with (Inspect wad name) how r s u w d x never = absurd never
noted_with (Levels wad) how r s u w d x never = absurd never
noted_with (Rebuild wad out maps) how r s u w d x never = absurd never

-- a script of which not all lines were drawn ends with another status than 0
stopped_apart : {S : Type 0} (facts : canvas.Ghosts S) (first : S) (path text : List ℕ) (how : Result ℕ Refusal) (d x : Option (List ℕ)) → IsStopped facts first path text how d x → status_in how ≡ 0 → ⊥
stopped_apart facts first path text how d x (inl unjoined) none = ends_apart 16 path (script_lines text) how d x unjoined none
stopped_apart facts first path text (Ok status) d x (inr (lines, files, joined, (three, told))) none = omega (arith, three, none)
stopped_apart facts first path text (Err refusal) d x (inr (lines, files, joined, memory)) none = omega (arith, none)

-- with the status 0 nothing was told, if nothing was of a WAD
quiet_some : {S : Type 0} (on : ScriptCanvas S) (path : List ℕ) (how : Result ℕ Refusal) (u w d x : Option (List ℕ)) (does : ItemOrigin → MapsView → Type 0) (levels : List ℕ → Type 0)
    → OverSome on path how u w d x does levels → ((wad : List ℕ) → levels wad → Keeps d x) → status_in how ≡ 0 → Keeps d x
quiet_some on path how u w d x does levels (inl (done, kept)) quiet none = kept
quiet_some on path how u w d x does levels (inr (inl (unread, kept))) quiet none = kept
quiet_some on path how u w d x does levels (inr (inr (inl (wad, done)))) quiet none = quiet wad done
quiet_some on path how u w d x does levels (inr (inr (inr (text, inl (stopped, kept))))) quiet none = absurd (stopped_apart on.facts on.first path text how d x stopped none)
quiet_some on path how u w d x does levels (inr (inr (inr (text, inr (maps, origin, drawn, kept, done))))) quiet none = kept

quiet_script : {S : Type 0} (on : ScriptCanvas S) (path : List ℕ) (how : Result ℕ Refusal) (r s u w d x : Option (List ℕ)) (does : ItemOrigin → MapsView → Type 0) → OverScript on path r s how u w d x does → status_in how ≡ 0
    → Keeps d x
quiet_script on path how r s u w d x does (inl (inl (refusal, is, cause, told), kept)) none = told
quiet_script on path how r s u w d x does (inl (inr (text, all, stopped), kept)) none = absurd (stopped_apart on.facts on.first path text how d x stopped none)
quiet_script on path how r s u w d x does (inr (maps, origin, (text, all, drawn, told), done)) none = told

quiet_by : {S : Type 0} (on : ScriptCanvas S) (b : Bool) (path : List ℕ) (how : Result ℕ Refusal) (r s u w d x : Option (List ℕ)) (does : ItemOrigin → MapsView → Type 0) (levels : List ℕ → Type 0)
    → OneOf b (OverSome on path how u w d x does levels × Keeps r s) (OverScript on path r s how u w d x does) → ((wad : List ℕ) → levels wad → Keeps d x) → status_in how ≡ 0
    → Keeps d x
quiet_by on true path how r s u w d x does levels (done, kept) quiet none = quiet_some on path how u w d x does levels done quiet none
quiet_by on false path how r s u w d x does levels done quiet none = quiet_script on path how r s u w d x does done none

quiet_source : {S : Type 0} (on : ScriptCanvas S) (path : List ℕ) (how : Result ℕ Refusal) (r s u w d x : Option (List ℕ)) (does : ItemOrigin → MapsView → Type 0) (levels : List ℕ → Type 0)
    → OverSource on path how r s u w d x does levels → ((wad : List ℕ) → levels wad → Keeps d x) → status_in how ≡ 0 → Keeps d x
quiet_source on path how r s u w d x does levels done quiet none = quiet_by on (is_file path) path how r s u w d x does levels done quiet none

-- the same where what was told of a WAD is nothing, or no WAD is taken
quiet_told : {S : Type 0} (on : ScriptCanvas S) (path : List ℕ) (how : Result ℕ Refusal) (r s u w d x : Option (List ℕ)) (does : ItemOrigin → MapsView → Type 0) (P : List ℕ → Type 0)
    → OverSource on path how r s u w d x does (λ wad. P wad × Keeps d x) → status_in how ≡ 0 → Keeps d x
quiet_told on path how r s u w d x does P done none = quiet_source on path how r s u w d x does (λ wad. P wad × Keeps d x) done (λ wad told. told.1) none

quiet_built : {S : Type 0} (on : ScriptCanvas S) (path : List ℕ) (how : Result ℕ Refusal) (r s u w d x : Option (List ℕ)) (does : ItemOrigin → MapsView → Type 0)
    → OverSource on path how r s u w d x does (λ wad. ⊥) → status_in how ≡ 0 → Keeps d x
quiet_built on path how r s u w d x does done none = quiet_source on path how r s u w d x does (λ wad. ⊥) done (λ wad never. absurd never) none

pub quiet_with : (request : Request) (how : Result ℕ Refusal) (r s u w d x : Option (List ℕ)) → IsDoneWith request how r s u w d x → IsQuiet request (status_in how)
    → Keeps d x
quiet_with (Check file map) how r s u w d x done none =
    let name : Option (List ℕ) = option_map string_bytes map in
    quiet_told maps_with_origins (string_bytes file) how r s u w d x (λ origin maps. IsCheckedIn origin name maps how u w) (λ wad. IsWadChecked wad name how u w) done none
quiet_with (Lint file map-name iwad only except) how r s u w d x done none =
    let name : Option (List ℕ) = option_map string_bytes map-name in
    let words : ChosenWords = record { only = map string_bytes only.items; except = map string_bytes except.items } in
    quiet_told maps_with_origins (string_bytes file) how r s u w d x (λ origin maps. IsLintedBy origin (is_some iwad) words name maps how u w) (λ wad. IsWadLintedBy (is_some iwad) words wad name how u w)
    done none
quiet_with (Picture file map out numbers nodes lint heights grid crop) how r s u w d x done none =
    let name : Option (List ℕ) = option_map string_bytes map in
    let layers : Layers = layers_of numbers heights grid crop nodes lint in
    quiet_told maps_alone (string_bytes file) how r s u w d x (λ origin maps. IsPicturedOf layers name (is_some out) maps how u w) (λ wad. IsLevelPicturedOf layers name (is_some out) wad how u w)
    done none
quiet_with (Build file out) how r s u w d x done none = quiet_built maps_alone (string_bytes file) how r s u w d x (λ origin maps. IsBuiltFrom maps how u w) done none
quiet_with (Dump file names exact) how r s u w d x done never = absurd never
quiet_with Scratch how r s u w d x never none = absurd never
quiet_with (Create file slot journal) how r s u w d x never none = absurd never
quiet_with (Edit file) how r s u w d x never none = absurd never
quiet_with (Draw file script verbose) how r s u w d x never none = absurd never
quiet_with (TryScript script over verbose) how r s u w d x never none = absurd never
quiet_with (Salvage file) how r s u w d x never none = absurd never
quiet_with (Inspect wad name) how r s u w d x never none = absurd never
quiet_with (Levels wad) how r s u w d x never none = absurd never
quiet_with (Rebuild wad out maps) how r s u w d x never none = absurd never
