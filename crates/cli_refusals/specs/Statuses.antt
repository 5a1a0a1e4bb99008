-- The status that tells how a request ended, and what was found.
use Rattle.std.specs.Prelude.{ℕ, Bool, Result, Ok, Err, nat_eq, if◌then◌else◌}
use Rattle.run_edit.specs.declared.error.EditorError.{EditorError}
use Rattle.cli_refusals.specs.declared.refusal.Refusal.{Refusal}
use Rattle.cli_refusals.specs.declared.refusal.Refusal.TheVariants as of

-- the status where it is done, and 1 where it is refused
abbrev pub status_in : Result ℕ Refusal → ℕ
status_in (Ok status) = status
status_in (Err refusal) = 1

-- how a request ended that was a run: 0 where all lines were answered, and else refused as the run
-- was
abbrev pub run_end : Result ℕ EditorError → Result ℕ Refusal
run_end (Ok n) = Ok 0
run_end (Err e) = Err (of.Lines e)

-- the status after so many findings
abbrev pub status_after : ℕ → ℕ
status_after found = if nat_eq found 0 then 0 else 3

-- the status that tells whether a level is sound
abbrev pub status_told : Bool → ℕ
status_told sound = if sound then 0 else 3
