use Rattle.std.proofs.Common.{◌≡◌, ◌++◌, ◌∙◌, ℕ, List, Option, Some, Result, Ok, Err, inr, subst, sym}
use Rattle.std.proofs.KnownBytes.{Appends-trans}
use Rattle.std.proofs.lemmas.Option.{get_or_from_slice_get}
use Rattle.std.specs.Io.KnownBytes.{Appends}
use Rattle.std.specs.Prelude.{MatchResult, slice_get}
use Rattle.map_script.specs.Views.{seen}
use Rattle.run_reasons.specs.Refused.{TellsStop, blocks_text, line_refusal}
use Rattle.map_blocks.specs.declared.stop.OpenBlock.{OpenBlock}
use Rattle.run_canvas.specs.declared.error.ScriptError.{ScriptError}
use Rattle.run_canvas.specs.declared.error.ScriptError.TheVariants.{WriterFailed}
use Rattle.run_reasons.proofs.refused.write_refused.Goals as goal

-- one item stands at a place
one_at : {X : Type 0} (xs : List X) (i : ℕ) (x y : X) → slice_get xs i ≡ Some x → slice_get xs i ≡ Some y → x ≡ y
one_at xs i x y first second = sym (get_or_from_slice_get xs i x x first) ∙ get_or_from_slice_get xs i y x second

-- what is written about a line is written about the same line
told_of : {U : Type 0} (result : Result U ScriptError) (here file : List ℕ) (other line : ℕ × List ℕ) (code : ℕ) (reason blocks : List ℕ) (old mid new : Option (List ℕ)) → here ≡ file → other ≡ line
    → Appends old mid (line_refusal here other code reason) → MatchResult result (λ _. Appends mid new blocks) (λ e. e ≡ WriterFailed)
    → TellsStop result file line code blocks old new
told_of (Ok u) here file other line code reason blocks old mid new at same first next = (
  reason,
  subst (λ (f : List ℕ). Appends old new (line_refusal f line code reason ++ blocks)) at
      (subst (λ (l : ℕ × List ℕ). Appends old new (line_refusal here l code reason ++ blocks)) same
      (Appends-trans old mid new (line_refusal here other code reason) blocks first next)),
)
told_of (Err e) here file other line code reason blocks old mid new at same first failed = inr failed

pub returns : goal.returns
returns g c line file is at =
    let lines : List (ℕ × List ℕ) = c.args.lines.now in
    let files : List (List ℕ) = c.args.files.now in
    let place = c.args.stop.now.place in
    let other : ℕ × List ℕ = seen c.line-line.result in
    let told =
    told_of c.write_blocks.result c.file-file.result.now file other line c.args.stop.now.code c.as_str.result.now (blocks_text lines files c.deref.result.now)
    (g.W.Write.contents c.args.writer.now) (g.W.Write.contents c.write_refused_line.new.writer) (g.W.Write.contents c.write_blocks.new.writer)
    (one_at files place c.file-file.result.now file c.file-file.ensures at) (one_at lines place other line c.line-line.ensures is) c.in-Ok-write_refused_line.ensures
    c.write_blocks.ensures in
    subst (λ (bs : List OpenBlock). TellsStop c.write_blocks.result file line c.args.stop.now.code (blocks_text lines files bs) (g.W.Write.contents c.args.writer.now)
    (g.W.Write.contents c.write_blocks.new.writer)) c.deref.ensures.value told
