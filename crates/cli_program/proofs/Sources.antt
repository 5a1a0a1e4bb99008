-- From what was done over a disk to what a file leaves open.
use Rattle.std.proofs.Common.{◌≡◌, ◌⊎◌, inl, inr, ℕ, Bool, List, Option, Result, Err, subst}
use Rattle.std.specs.Io.KnownBytes.{Keeps}
use Rattle.store_disk.specs.declared.disk.Disk.{Ghosts}
use Rattle.map_tables.specs.Projects.{MapsView}
use Rattle.store_project.specs.Opening.{HasMaps, IsRefusedRead}
use Rattle.store_project.specs.declared.error.ProjectError.{ProjectError}
use Rattle.cli_program.specs.Deeds.{IsEdited}
use Rattle.cli_sources.specs.Opened.{EndsUnopened}
use Rattle.cli_scripts.specs.DrawnInto.{IsDrawnOntoSome, IsDrawnInto, IsScriptTried, IsTriedOntoSome}
use Rattle.cli_scripts.specs.DrawnOver.{IsDrawnOver, IsTriedOverDisk}
use Rattle.cli_program.specs.SomeSource.{OverSomeMaps}
use Rattle.cli_requests.specs.Requests.{IsEditedOver}
use Rattle.cli_refusals.specs.declared.refusal.Refusal.{Refusal}
use Rattle.cli_refusals.specs.declared.refusal.Refusal.TheVariants.{Project}
use Rattle.run_canvas.specs.Canvases.{Drafted, draft_over}
use Rattle.cli_scripts.specs.Drawing.{IsTriedOver}
use Rattle.cli_sources.proofs.Opened.{of_opening}
use Rattle.cli_program.specs.Typed.{IsTypedInto}
use Rattle.cli_requests.specs.Typing.{IsTypedOver}

pub edited : {D : Type 0} (facts : Ghosts D) (before after : D)
    (how : Result ℕ Refusal) (r s u w : Option (List ℕ)) → IsEditedOver facts before after how r s u w
    → IsEdited facts how r s u w
edited facts before after how r s u w (inl ((e, is, refused, counted), only, unread, unwritten)) =
    inl (e, is, of_opening (facts.reads before) e refused, unread, unwritten)
edited facts before after how r s u w (inr (result, first, last, trace, opened, back, is, ran, over)) =
    inr (result, first, last, trace, opened.reopen, is, ran, over)

pub typed_into : {D : Type 0} (facts : Ghosts D) (before after : D) (how : Result ℕ Refusal) (r s u w : Option (List ℕ)) → IsTypedOver facts before after how r s u w
    → IsTypedInto facts how r s u w
typed_into facts before after how r s u w (inl ((e, is, refused, counted), only, unread, unwritten)) =
    inl (e, is, of_opening (facts.reads before) e refused, unread, unwritten)
typed_into facts before after how r s u w (inr (first, last, opened, back, over)) = inr (first, last, opened.reopen, over)

pub drawn_onto_some : {D : Type 0} (facts : Ghosts D) (before after : D) (verbose : Bool) (lines : List (ℕ × List ℕ)) (how : Result ℕ Refusal) (u w : Option (List ℕ))
    → IsDrawnOver facts before after verbose lines how u w → EndsUnopened how u w ⊎ IsDrawnOntoSome facts verbose lines how u w
drawn_onto_some facts before after verbose lines how u w (inl ((e, is, refused, counted), only, unwritten)) =
    inl (e, is, of_opening (facts.reads before) e refused, unwritten)
drawn_onto_some facts before after verbose lines how u w (inr (project, opened, done)) = inr (project, after, opened.reopen, done)

pub tried_onto_some : {D : Type 0} (facts : Ghosts D) (before after : D) (verbose : Bool) (lines : List (ℕ × List ℕ)) (how : Result ℕ Refusal) (u w : Option (List ℕ))
    → IsTriedOverDisk facts before after verbose lines how u w → EndsUnopened how u w ⊎ ((maps : Drafted) × IsTriedOver maps verbose lines how u w)
tried_onto_some facts before after verbose lines how u w (only, inl ((e, is, refused, counted), kept)) = inl (e, is, of_opening (facts.reads before) e refused, kept)
tried_onto_some facts before after verbose lines how u w (only, inr (project, opened, tried)) = inr (draft_over project, tried)

-- what was done over a disk, by what it reads and by how its faults are counted
abbrev pub OverMapsBy : (List ℕ → Type 0) → (ProjectError → Type 0) → Result ℕ Refusal → Option (List ℕ) → Option (List ℕ) → (MapsView → Type 0) → Type 0
OverMapsBy reads counted how u w does =
    (((e : ProjectError) × (how ≡ Err (Project e)) × IsRefusedRead reads e × counted e) × Keeps u w)
    ⊎ ((maps : MapsView) × HasMaps reads maps × does maps)

-- what was done with the maps that a disk's bytes stand for was done with some project's
pub of_some_maps : (reads : List ℕ → Type 0) (counted : ProjectError → Type 0) (how : Result ℕ Refusal) (u w : Option (List ℕ)) (does : MapsView → Type 0)
    → OverMapsBy reads counted how u w does → OverSomeMaps how u w does
of_some_maps reads counted how u w does (inl ((e, is, refused, rose), kept)) = inl (e, is, of_opening reads e refused, kept)
of_some_maps reads counted how u w does (inr (maps, has, done)) = inr (maps, done)

-- ---- A path that is given in another way

-- what was done with the script at a path was done with that at the same path
pub drawn_into_as : {D : Type 0} (facts : Ghosts D) (a b : List ℕ) (verbose : Bool) (how : Result ℕ Refusal) (u v w x : Option (List ℕ)) → a ≡ b
    → IsDrawnInto facts a verbose how u v w x → IsDrawnInto facts b verbose how u v w x
drawn_into_as facts a b verbose how u v w x same drawn = subst (λ (t : List ℕ). IsDrawnInto facts t verbose how u v w x) same drawn

pub tried_as : (a b : List ℕ) (verbose : Bool) (how : Result ℕ Refusal) (u v w x : Option (List ℕ)) → a ≡ b
    → IsScriptTried a verbose how u v w x → IsScriptTried b verbose how u v w x
tried_as a b verbose how u v w x same tried = subst (λ (t : List ℕ). IsScriptTried t verbose how u v w x) same tried

pub tried_onto_as : (a b : List ℕ) (verbose : Bool) (how : Result ℕ Refusal) (u v w x : Option (List ℕ)) → a ≡ b
    → IsTriedOntoSome a verbose how u v w x → IsTriedOntoSome b verbose how u v w x
tried_onto_as a b verbose how u v w x same tried = subst (λ (t : List ℕ). IsTriedOntoSome t verbose how u v w x) same tried
