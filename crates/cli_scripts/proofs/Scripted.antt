-- What is done with the lines of a script, and how it ends where they aren't all drawn.
use Rattle.std.proofs.Common.{◌≡◌, ◌⊎◌, inl, inr, ℕ, Bool, false, List, Option, None, Some, Result, Ok, Err, ◌∙◌, refl, sym, subst, ap, arith, ◌≤◌}
use Rattle.std.specs.Prelude.{MatchOption}
use Rattle.std.specs.Io.KnownBytes.{Keeps}
use Rattle.store_disk.specs.declared.disk.Disk.{Ghosts}
use Rattle.store_project.specs.States.{State}
use Rattle.cli_print.specs.Reading.{ReadsAll}
use Rattle.std.proofs.KnownBytes.{Keeps-refl}
use Rattle.map_tables.specs.Projects.{MapsView, ProjectMaps, body_len, empty_project, project_of}
use Rattle.run_edit.specs.declared.limits.TheConstants.{LONGEST_BODY}
use Rattle.map_script.specs.Scripts.{script_lines}
use Rattle.run_canvas.specs.Canvases.{Drafted, draft_canvas, draft_over}
use Rattle.run_canvas.specs.declared.canvas.Canvas as canvas
use Rattle.run_script.specs.Drawn.{IsScriptDrawn}
use Rattle.map_blocks.specs.declared.stop.Stop.{Stop}
use Rattle.run_canvas.specs.declared.error.ScriptError.{ScriptError}
use Rattle.cli_scripts.specs.Drawing.{DrawsWhole, IsDrawnOnto, IsHeldBack, IsTriedOver, TellsStops}
use Rattle.cli_scripts.specs.DrawnInto.{IsReadAt, IsUnreadAt, OverLines}
use Rattle.cli_sources.specs.Unread.{IsRefusedFor, IsUnreadOf}
use Rattle.cli_scripts.specs.ScriptMaps.{IsStoppedFrom, NotReadDrawn}
use Rattle.cli_scripts.specs.Including.{IsScriptJoined, IsUnjoined}
use Rattle.cli_scripts.proofs.JoinedLines.{stopped_before}
use Rattle.cli_scripts.proofs.Scripts.{whole_end}
use Rattle.store_project.specs.declared.error.ProjectError.TheVariants.{NotAProject}
use Rattle.run_edit.specs.declared.error.EditorError.TheVariants.{OutOfMemory, ReaderFailed}
use Rattle.cli_refusals.specs.declared.refusal.Refusal.{Refusal}
use Rattle.cli_refusals.specs.declared.refusal.Refusal.TheVariants.{Lines, Project}

-- with the status 0 all lines were drawn
pub drawn_whole : {S : Type 0} (facts : canvas.Ghosts S) (lines : List (ℕ × List ℕ)) (how : Result ℕ Refusal) (old new : S) → IsDrawnOnto facts false lines how old new None None → how ≡ Ok 0
    → DrawsWhole facts lines old new
drawn_whole facts lines how old new (inl undone) is = cc
drawn_whole facts lines how old new (inr done) is =
    (done.told, subst (λ (r : Result (Option Stop) ScriptError). IsScriptDrawn facts false lines r old None new done.told) (whole_end _ _ _ _ done.handed is) done.drawn)

-- a line was told where the status isn't 0
pub stopped_whole : {S : Type 0} (facts : canvas.Ghosts S) (lines : List (ℕ × List ℕ)) (files : List (List ℕ)) (status : ℕ) (old : S) (d x : Option (List ℕ))
    → (status ≡ 0) ⊎ ((status ≡ 3) × TellsStops facts false old lines files None d x) → ¬ (status ≡ 0) → IsStoppedFrom facts old lines files (Ok status) d x
stopped_whole facts lines files status old d x (inl done) other = absurd (other done)
stopped_whole facts lines files status old d x (inr told) other = told

-- ---- A rehearsal

-- maps in memory that are a copy of a project's
pub draft_same : {D : Type 0} (project : State D) (m : MapsView) (n : ℕ) (d : Drafted) → d ≡ record { maps = project_of m; cap = n } → m ≡ project.maps → n ≡ project.cap
    → d ≡ draft_over project
draft_same project m n d is same cap =
    subst (λ (v : MapsView). d ≡ record { maps = project_of v; cap = project.cap }) same
    (subst (λ (k : ℕ). d ≡ record { maps = project_of m; cap = k }) cap is)

-- a line that was told was refused
pub held_back : (lines : List (ℕ × List ℕ)) (files : List (List ℕ)) (how : Result ℕ Refusal) (old : Drafted) (d x : Option (List ℕ))
    → IsStoppedFrom draft_canvas old lines files how d x → IsHeldBack old lines how
held_back lines files (Ok status) old d x (is, told) = (is, (told.0, told.1, told.2, told.3))
held_back lines files (Err refusal) old d x is = is

-- how it ended
pub rehearsed : (lines : List (ℕ × List ℕ)) (files : List (List ℕ)) (old first new : Drafted) (d x : Option (List ℕ)) (result : Option (Result ℕ Refusal)) → old ≡ first
    → MatchOption result (DrawsWhole draft_canvas lines old new × Keeps d x) (λ how. IsStoppedFrom draft_canvas old lines files how d x)
    → MatchOption result (((tried : Drafted) × DrawsWhole draft_canvas lines first tried) × Keeps d x) (λ how. IsStoppedFrom draft_canvas first lines files how d x)
rehearsed lines files old first new d x None same (drawn, kept) = ((new, subst (λ (q : Drafted). DrawsWhole draft_canvas lines q new) same drawn), kept)
rehearsed lines files old first new d x (Some how) same stopped = subst (λ (q : Drafted). IsStoppedFrom draft_canvas q lines files how d x) same stopped

-- a script that was tried over a copy of a project's maps
pub tried_same : {D : Type 0} (project : State D) (m : MapsView) (n : ℕ) (verbose : Bool) (lines : List (ℕ × List ℕ)) (how : Result ℕ Refusal) (u w : Option (List ℕ))
    → m ≡ project.maps → n ≡ project.cap → IsTriedOver (record { maps = project_of m; cap = n }) verbose lines how u w → IsTriedOver (draft_over project) verbose lines how u w
tried_same project m n verbose lines how u w same cap tried =
    subst (λ (d : Drafted). IsTriedOver d verbose lines how u w) (draft_same project m n (record { maps = project_of m; cap = n }) refl same cap) tried

-- ---- The lines of a script

-- the script isn't read or not joined
pub unread_lines : (path : List ℕ) (how : Result ℕ Refusal) (r s u d x : Option (List ℕ)) (does : List (ℕ × List ℕ) → Type 0) → IsUnreadAt path how r s d x
    → OverLines path how r s u u does
unread_lines path how r s u d x does unread = inl (d, x, unread, Keeps-refl u)

-- this was done with its lines
pub over_lines : (path : List ℕ) (lines : List (ℕ × List ℕ)) (files : List (List ℕ)) (how : Result ℕ Refusal) (r s u w : Option (List ℕ))
    (does : List (ℕ × List ℕ) → Type 0) → IsReadAt path lines files r s → does lines → OverLines path how r s u w does
over_lines path lines files how r s u w does read done = inr (lines, files, read, done)

-- ---- A script

-- a script isn't read or not joined, and how it ends then
pub unscripted_read : {S : Type 0} (facts : canvas.Ghosts S) (first : S) (path : List ℕ) (r s d x : Option (List ℕ)) (ended how : Result ℕ Refusal)
    → (how ≡ ended) ⊎ ((ended ≡ Err (Lines ReaderFailed)) × (how ≡ Err (Project NotAProject)))
    → IsRefusedFor (IsUnreadOf r s) ended d x ⊎ ((text : List ℕ) × ReadsAll r s text × IsUnjoined path (script_lines text) ended d x)
    → NotReadDrawn facts first path r s how d x
unscripted_read facts first path r s d x ended how (inl same) (inl (refusal, is, unread, kept)) = inl (refusal, same ∙ is, inl unread, kept)
unscripted_read facts first path r s d x ended how (inl same) (inr (text, all, unjoined)) =
    inr (text, all, inl (subst (λ (h : Result ℕ Refusal). IsUnjoined path (script_lines text) h d x) (sym same) unjoined))
unscripted_read facts first path r s d x ended how (inr (was, is)) (inl (refusal, same, unread, kept)) = inl (Project NotAProject, is, inr refl, kept)
unscripted_read facts first path r s d x ended how (inr (was, is)) (inr (text, all, unjoined)) =
    let memory : Lines ReaderFailed ≡ Lines OutOfMemory = subst (λ (h : Result ℕ Refusal). IsUnjoined path (script_lines text) h d x) was unjoined in
    cc

-- not all lines of what was read were drawn
pub stopped_read : {S : Type 0} (facts : canvas.Ghosts S) (first : S) (path : List ℕ) (lines : List (ℕ × List ℕ)) (files : List (List ℕ)) (r s d x y : Option (List ℕ)) (how : Result ℕ Refusal)
    → (text : List ℕ) × ReadsAll r s text × IsScriptJoined path (script_lines text) lines files → Keeps d x → IsStoppedFrom facts first lines files how x y → NotReadDrawn facts first path r s how d y
stopped_read facts first path lines files r s d x y how (text, all, joined) kept stopped =
    inr (text, all, inr (lines, files, joined, stopped_before facts first lines files how d x y kept stopped))

-- ---- Maps over which a script is drawn again

pub start_fits : (p : ProjectMaps) (n : ℕ) → p ≡ empty_project → n ≡ LONGEST_BODY → body_len p ≤ n
start_fits p n same longest =
    let small : body_len empty_project ≡ 20 = refl in
    subst (λ (q : ProjectMaps). body_len q ≤ n) (sym same) (subst (λ (k : ℕ). body_len empty_project ≤ k) (sym longest) (omega (arith, small)))

pub copy_fits : (p : ProjectMaps) (n : ℕ) (d : Drafted) → d ≡ record { maps = p; cap = n } → body_len p ≤ n → body_len p ≤ d.cap
copy_fits p n d is fits = subst (λ (k : ℕ). body_len p ≤ k) (sym (ap (λ (e : Drafted). e.cap) is)) fits

pub project_fits : {D : Type 0} (project : State D) (m : MapsView) (n : ℕ) (d : Drafted) → d ≡ record { maps = project_of m; cap = n } → m ≡ project.maps → n ≡ project.cap
    → body_len (project_of project.maps) ≤ project.cap → body_len (project_of m) ≤ d.cap
project_fits project m n d is same cap fits =
    subst (λ (v : MapsView). body_len (project_of v) ≤ d.cap) (sym same) (subst (λ (k : ℕ). body_len (project_of project.maps) ≤ k) (sym (ap (λ (e : Drafted). e.cap) is ∙ cap)) fits)
