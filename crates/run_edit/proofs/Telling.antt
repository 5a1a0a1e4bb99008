-- What was written, or why nothing was.
use Rattle.std.proofs.Common.{◌≡◌, ◌≢◌, ◌∙◌, ℕ, List, Option, Result, Ok, Err, MatchResult, refl, sym, subst}
use Rattle.std.specs.Io.KnownBytes.{Appends}
use Rattle.std.proofs.KnownBytes.{Keeps-refl}
use Rattle.wad_build.specs.Errors.{build_code_of}
use Rattle.wad_build.specs.declared.error.BuildError.{BuildError}
use Rattle.wad_build.specs.declared.error.BuildError.TheVariants as refused
use Rattle.run_edit.specs.Queries.{TellsRefusal, WritesRefusal, WritesText}
use Rattle.run_edit.specs.Runs.{Unwritten}
use Rattle.run_edit.specs.Texts.{refused_text}
use Rattle.run_edit.specs.declared.error.EditorError.{EditorError}
use Rattle.run_edit.specs.declared.error.EditorError.TheVariants.{OutOfMemory, WriterFailed}

apart : OutOfMemory ≡ WriterFailed → ⊥
apart same = cc

-- a text that fits was to be written, and only the writer can fail
pub text_written : {U : Type 0} (r : Result U EditorError) (Fits : List ℕ → Type 0) (TakesLines : Type 0) (text : List ℕ) (u w : Option (List ℕ)) → Fits text
    → MatchResult r (λ _. Appends u w text) (λ e. e ≡ WriterFailed) → WritesText r Fits TakesLines u w
text_written (Ok x) Fits TakesLines text u w is told = (text, is, told)
text_written (Err e) Fits TakesLines text u w is told =
    let failed : e ≡ WriterFailed = told in
    record {
      unwritten = subst (λ (x : EditorError). Unwritten x u w) (sym failed) tt;
      lacks = λ lack. absurd (apart (sym lack ∙ failed));
      failed = λ _. (text, is);
    }

-- the same where memory can be lacking
pub text_told : {U : Type 0} (r : Result U EditorError) (Fits : List ℕ → Type 0) (TakesLines : Type 0) (text : List ℕ) (u w : Option (List ℕ)) → Fits text → TakesLines
    → MatchResult r (λ _. Appends u w text) (λ e. Unwritten e u w) → WritesText r Fits TakesLines u w
text_told (Ok x) Fits TakesLines text u w is takes told = (text, is, told)
text_told (Err e) Fits TakesLines text u w is takes told = record { unwritten = told; lacks = λ _. takes; failed = λ _. (text, is) }

-- lack of memory was handed on, and nothing written
pub no_memory : (cause : BuildError) (u : Option (List ℕ)) → Unwritten OutOfMemory u u × (OutOfMemory ≡ WriterFailed → cause ≢ refused.OutOfMemory)
no_memory cause u = (Keeps-refl u, λ failed. absurd (apart failed))

-- a refusal that isn't lack of memory was to be written
pub refusal_written : {U : Type 0} (r : Result U EditorError) (cause : BuildError) (code : ℕ) (u w : Option (List ℕ)) → cause ≢ refused.OutOfMemory
    → code ≡ build_code_of cause → MatchResult r (λ _. Appends u w (refused_text code)) (λ e. e ≡ WriterFailed) → WritesRefusal r cause u w
refusal_written (Ok x) cause code u w other is told = (other, subst (λ (n : ℕ). Appends u w (refused_text n)) is told)
refusal_written (Err e) cause code u w other is told =
    let failed : e ≡ WriterFailed = told in
    (subst (λ (x : EditorError). Unwritten x u w) (sym failed) tt, λ _. other)

-- a text that a refusal fits, where that was to be written
pub refusal_told : {U : Type 0} (r : Result U EditorError) (Fits : List ℕ → Type 0) (TakesLines : Type 0) (IsCause : BuildError → Type 0) (cause : BuildError)
    (u w : Option (List ℕ)) → IsCause cause → ((text : List ℕ) → TellsRefusal IsCause text → Fits text) → TakesLines
    → WritesRefusal r cause u w → WritesText r Fits TakesLines u w
refusal_told (Ok x) Fits TakesLines IsCause cause u w is fits takes (other, told) = (
  refused_text (build_code_of cause),
  fits (refused_text (build_code_of cause)) (record { error = cause; cause = is; not_memory = other; told = refl }),
  told,
)
refusal_told (Err e) Fits TakesLines IsCause cause u w is fits takes (unwritten, other) = record {
  unwritten = unwritten;
  lacks = λ _. takes;
  failed = λ failed. (
    refused_text (build_code_of cause),
    fits (refused_text (build_code_of cause)) (record { error = cause; cause = is; not_memory = other failed; told = refl }),
  );
}
