-- Why a command isn't taken.
use Rattle.std.proofs.Common.{◌≡◌, ℕ, Option, Some, None, Err, refl, sym, ◌∙◌}
use Rattle.map_commands.specs.declared.command.Command.TheVariants as command
use Rattle.map_tables.specs.EditFaults.{edit_faults}
use Rattle.map_tables.specs.Edits.{after_edit, edit_number, edited}
use Rattle.map_tables.specs.Errors.{code_of}
use Rattle.map_tables.specs.Outcomes.{RefusesEdit, least, unless}
use Rattle.map_tables.specs.Tables.{Tables}
use Rattle.map_tables.specs.declared.edit.Edit.{Edit}
use Rattle.map_tables.specs.declared.error.MapError.{MapError}
use Rattle.map_tables.specs.declared.error.MapError.TheVariants as map_error
use Rattle.map_areas.specs.Drawn.{IsFaultOf}
use Rattle.map_areas.specs.Errors.{IsOfMemory, refused_as}

unless_err : {S X : Type 0} (o : Option ℕ) (s : S) (x : X) (code : ℕ) → unless o s x ≡ Err code → o ≡ Some code
unless_err None s x code e = cc
unless_err (Some k) s x code e = cc

-- an edit that is refused has this fault
pub edit_fault : (m : Tables) (d : Edit) (e : MapError) → RefusesEdit e (edited m d) → IsFaultOf m (command.Edit d) (refused_as e)
edit_fault m d map_error.OutOfMemory h = tt
edit_fault m d e h = unless_err (least (edit_faults m d)) (after_edit m d) (edit_number m d) (code_of e) h

-- an edit that is accepted is refused for lack of memory alone
pub edit_memory : (m : Tables) (d : Edit) (e : MapError) → least (edit_faults m d) ≡ None → RefusesEdit e (edited m d) → IsOfMemory (refused_as e)
edit_memory m d map_error.OutOfMemory ok h = refl
edit_memory m d e ok h = absurd (some_none (sym ok ∙ unless_err (least (edit_faults m d)) (after_edit m d) (edit_number m d) (code_of e) h))
  where
    some_none : {X : Type 0} {x : X} → None ≡ Some x → ⊥
    some_none h = cc
