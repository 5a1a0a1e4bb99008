-- The answers to lines that were decided together.
use Rattle.std.proofs.Common.{◌≡◌, ◌∙◌, ℕ, List, [], ◌∷◌, ◌++◌, Option, Result, Ok, Err, MatchResult, refl, sym, ap, subst, append-nil}
use Rattle.std.specs.Prelude.{flat_map, map}
use Rattle.std.specs.Io.KnownBytes.{Appends}
use Rattle.store_disk.specs.declared.disk.Disk.{Ghosts}
use Rattle.store_project.specs.States.{State}
use Rattle.run_edit.specs.Groups.{Decided, exchanges, fate_behind, as_answered, settled_outcomes, told_as}
use Rattle.run_edit.specs.Runs.{Exchange, TakesLines, lines_in, none_waits, output_of}
use Rattle.run_edit.specs.Sessions.{GoesOver}
use Rattle.run_edit.specs.Texts.{outcome_text}
use Rattle.run_edit.specs.declared.error.EditorError.{EditorError}
use Rattle.run_edit.specs.declared.error.EditorError.TheVariants.{WriterFailed}
use Rattle.run_edit.specs.declared.fate.Fate.{Fate}

settled_lines : (fate : Fate) (ds : List Decided) → lines_in (exchanges (as_answered fate ds)) ≡ map (λ (d : Decided). d.line) ds
settled_lines fate [] = refl
settled_lines fate (d ∷ ds) = ap (λ (z : List (List ℕ)). d.line ∷ z) (settled_lines (fate_behind fate d.outcome) ds)

settled_output : (fate : Fate) (ds : List Decided) → output_of (exchanges (as_answered fate ds)) ≡ flat_map outcome_text (settled_outcomes fate (map (λ (d : Decided). d.outcome) ds))
settled_output fate [] = refl
settled_output fate (d ∷ ds) = ap (λ (z : List ℕ). outcome_text (told_as fate d.outcome) ++ z) (settled_output (fate_behind fate d.outcome) ds)

pub settled_taken : {D U : Type 0} (facts : Ghosts D) (old new : State D) (fate : Fate) (ds : List Decided) (lines : List (List ℕ)) (outcomes : List (Result ℕ ℕ)) (r : Result U EditorError)
    (u w : Option (List ℕ)) → map (λ (d : Decided). d.line) ds ≡ lines → map (λ (d : Decided). d.outcome) ds ≡ outcomes → GoesOver facts old (exchanges (as_answered fate ds)) new
    → MatchResult r (λ _. Appends u w (flat_map outcome_text (settled_outcomes fate outcomes))) (λ e. e ≡ WriterFailed) → TakesLines (GoesOver facts) none_waits r old new lines u w
settled_taken facts old new fate ds lines outcomes (Ok x) u w asked are goes wrote =
    let trace = exchanges (as_answered fate ds) in
    let told : output_of trace ≡ flat_map outcome_text (settled_outcomes fate outcomes) = settled_output fate ds ∙ ap (λ (os : List (Result ℕ ℕ)). flat_map outcome_text (settled_outcomes fate os)) are in
    (trace, goes, ([], refl, sym asked ∙ sym (settled_lines fate ds) ∙ sym (append-nil (lines_in trace)), subst (λ (t : List ℕ). Appends u w t) (sym told) wrote))
settled_taken {U = U} facts old new fate ds lines outcomes (Err e) u w asked are goes wrote =
    let trace = exchanges (as_answered fate ds) in
    subst (λ (x : EditorError). TakesLines {U = U} (GoesOver facts) none_waits (Err x) old new lines u w) (sym wrote)
    (trace, goes, ([], sym asked ∙ sym (settled_lines fate ds) ∙ sym (append-nil (lines_in trace))))
