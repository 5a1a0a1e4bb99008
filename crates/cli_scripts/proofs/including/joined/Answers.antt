use Rattle.std.proofs.Common.{◌≡◌, ◌∙◌, ℕ, List, Result, Ok, Err, length, string_bytes, sym}
use Rattle.std.specs.Prelude.{IfOk}
use Rattle.cli_refusals.specs.declared.refusal.Refusal.{Refusal}
use Rattle.cli_scripts.specs.Including.{IsScriptJoined}
use Rattle.cli_scripts.specs.declared.including.WholeScript.{WholeScript}
use Rattle.cli_scripts.proofs.JoinedLines.{alone_whole, joined_long}
use Rattle.cli_scripts.proofs.including.joined.Goals as goal

long_ok : (r : Result WholeScript (Result ℕ Refusal)) (path : List ℕ) (ls : List (ℕ × List ℕ)) → IfOk r (λ s. IsScriptJoined path ls s.lines s.files)
    → IfOk r (λ s. length s.files ≡ length s.lines)
long_ok (Ok s) path ls joined = joined_long path ls s.lines s.files joined
long_ok (Err how) path ls joined = tt

pub returns-then-includes_any-clause-long : goal.returns-then-includes_any-clause-long
returns-then-includes_any-clause-long g c = long_ok c.with_files.result _ _ c.with_files.ensures.whole

pub returns-in-Some-alone-clause-whole : goal.returns-in-Some-alone-clause-whole
returns-in-Some-alone-clause-whole g c =
    alone_whole c.args.path.now (string_bytes c.in-Some.file.shown) c.in-Some.file.lines _ _ _ (sym c.includes_any.ensures ∙ c.if-includes_any.false) c.in-Some.ensures.lines
    c.in-Some-alone.ensures.lines c.in-Some.ensures.shown c.in-Some-alone.ensures.files
