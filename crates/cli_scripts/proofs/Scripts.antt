-- What is told of a script, and how a request ends then.
use Rattle.std.proofs.Common.{◌≡◌, ◌⊎◌, ◌<◌, ℕ, Bool, List, [], get_or, length, Option, None, Some, Result, Ok, Err, ◌∙◌, inl, inr, refl, ap, arith, subst, sym}
use Rattle.cli_refusals.specs.Statuses.{status_in}
use Rattle.cli_refusals.specs.declared.refusal.Refusal.{Refusal}
use Rattle.run_script.specs.Drawn.{IsScriptDrawn}
use Rattle.run_canvas.specs.declared.canvas.Canvas as canvas
use Rattle.map_blocks.specs.declared.stop.Stop.{Stop}
use Rattle.run_canvas.specs.declared.error.ScriptError.{ScriptError}
use Rattle.run_canvas.specs.declared.error.ScriptError.TheVariants as cut
use Rattle.std.proofs.lemmas.Option.{slice_get-get_or}
use Rattle.std.specs.Prelude.{IfOk, IfSome, slice_get}
use Rattle.run_reasons.specs.Refused.{blocks_text}
use Rattle.map_blocks.specs.Stops.{IsStopWithin}
use Rattle.store_disk.specs.declared.disk.Disk.{Ghosts}
use Rattle.cli_scripts.specs.Drawing.{IsHandedOn, TellsOthers, TellsRefused, TellsStops, maps_on}
use Rattle.run_stops.specs.ToldStops.{IsStopTold}
use Rattle.run_canvas.specs.Canvases.{Drafted}
use Rattle.std.specs.Io.KnownBytes.{Keeps}
use Rattle.std.proofs.KnownBytes.{Keeps-trans}
use Rattle.cli_scripts.specs.Including.{ShowsTold}

apart : (n : ℕ) → n ≡ 3 → n ≡ 0 → ⊥
apart n three none = omega arith

-- with the status 0 no line was refused
pub whole_end : (drawn : Result (Option Stop) ScriptError) (how : Result ℕ Refusal) (u w : Option (List ℕ)) → IsHandedOn drawn how u w → how ≡ Ok 0 → drawn ≡ Ok None
whole_end (Ok None) how u w handed is = refl
whole_end (Ok (Some stop)) how u w (inl (ended, kept)) is = absurd (apart (status_in how) (ap status_in ended) (ap status_in is))
whole_end (Ok (Some stop)) how u w (inr failed) is = cc
whole_end (Err cut.OutOfMemory) how u w (inl (ended, kept)) is = cc
whole_end (Err cut.OutOfMemory) how u w (inr failed) is = cc
whole_end (Err cut.WriterFailed) how u w (inl (ended, kept)) is = cc
whole_end (Err cut.WriterFailed) how u w (inr failed) is = cc

-- the line was told that was refused
pub told_refused : {U : Type 0} (told : Result U ScriptError) (lines : List (ℕ × List ℕ)) (files : List (List ℕ)) (drawn : Result (Option Stop) ScriptError)
    (field : Option Stop) (stop : Stop) (d x : Option (List ℕ)) → drawn ≡ Ok field → field ≡ Some stop
    → IfOk drawn (λ o. IfSome o (IsStopWithin (length lines))) → length files ≡ length lines
    → ((file : List ℕ) (line : ℕ × List ℕ) → slice_get files stop.place ≡ Some file → slice_get lines stop.place ≡ Some line
    → ShowsTold told (IsStopTold file line stop.code (blocks_text lines files stop.«open».items)) d x) → TellsRefused told lines files drawn d x
told_refused told lines files drawn field stop d x whole some within long said =
    let both : IsStopWithin (length lines) stop =
    subst (λ (r : Result (Option Stop) ScriptError). IfOk r (λ o. IfSome o (IsStopWithin (length lines)))) (whole ∙ ap Ok some) within in
    let below : stop.place < length lines = both.0 in
    let inside : stop.place < length files = omega (arith, below, long) in
    let line : ℕ × List ℕ = get_or lines stop.place (0, []) in
    let file : List ℕ = get_or files stop.place [] in
    let is : slice_get lines stop.place ≡ Some line = slice_get-get_or lines stop.place (0, []) below in
    let in_file : slice_get files stop.place ≡ Some file = slice_get-get_or files stop.place [] inside in
    subst (λ (r : Result (Option Stop) ScriptError). TellsRefused told lines files r d x) (sym (whole ∙ ap Ok some)) (line, file, is, in_file, said file line in_file is)

-- a script that was drawn, and how it ended, with what was told of it
pub told_end : {S : Type 0} (facts : canvas.Ghosts S) (verbose : Bool) (lines : List (ℕ × List ℕ)) (files : List (List ℕ)) (drawn : Result (Option Stop) ScriptError)
    (told : Result (Unit {0}) ScriptError) (old new : S) (how : Result ℕ Refusal) (u v w d m x : Option (List ℕ))
    → IsScriptDrawn facts verbose lines drawn old u new v → IsHandedOn drawn how v w → TellsRefused told lines files drawn d m → TellsOthers (maps_on facts old) lines files drawn told m x
    → IfOk how (λ s. (s ≡ 0) ⊎ ((s ≡ 3) × TellsStops facts verbose old lines files u d x))
told_end facts verbose lines files (Ok None) told old new how u v w d m x is (inl (ended, kept)) said others =
    subst (λ (h : Result ℕ Refusal). IfOk h (λ s. (s ≡ 0) ⊎ ((s ≡ 3) × TellsStops facts verbose old lines files u d x))) (sym ended) (inl refl)
told_end facts verbose lines files (Ok (Some stop)) told old new how u v w d m x is (inl (ended, kept)) said others =
    subst (λ (h : Result ℕ Refusal). IfOk h (λ s. (s ≡ 0) ⊎ ((s ≡ 3) × TellsStops facts verbose old lines files u d x))) (sym ended)
    (inr (refl, (stop, new, v, is, told, m, said, others)))
told_end facts verbose lines files (Err cut.OutOfMemory) told old new how u v w d m x is (inl (ended, kept)) said others =
    subst (λ (h : Result ℕ Refusal). IfOk h (λ s. (s ≡ 0) ⊎ ((s ≡ 3) × TellsStops facts verbose old lines files u d x))) (sym ended) tt
told_end facts verbose lines files (Err cut.WriterFailed) told old new how u v w d m x is (inl (ended, kept)) said others =
    subst (λ (h : Result ℕ Refusal). IfOk h (λ s. (s ≡ 0) ⊎ ((s ≡ 3) × TellsStops facts verbose old lines files u d x))) (sym ended) tt
told_end facts verbose lines files drawn told old new how u v w d m x is (inr failed) said others =
    subst (λ (h : Result ℕ Refusal). IfOk h (λ s. (s ≡ 0) ⊎ ((s ≡ 3) × TellsStops facts verbose old lines files u d x))) (sym failed) tt

-- nothing was told of a script all of whose lines were drawn
pub quiet_end : (drawn : Result (Option Stop) ScriptError) (how : Result ℕ Refusal) (told : Result (Unit {0}) ScriptError) (first : Drafted) (lines : List (ℕ × List ℕ))
    (files : List (List ℕ)) (v w d m x : Option (List ℕ)) → IsHandedOn drawn how v w → (drawn ≡ Ok None → Keeps d m) → TellsOthers first lines files drawn told m x → how ≡ Ok 0
    → Keeps d x
quiet_end drawn how told first lines files v w d m x handed quiet others is =
    let whole : drawn ≡ Ok None = whole_end drawn how v w handed is in
    Keeps-trans d m x (quiet whole) (subst (λ (r : Result (Option Stop) ScriptError). TellsOthers first lines files r told m x) whole others)
