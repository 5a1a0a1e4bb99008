use Rattle.std.proofs.Common.{◌≡◌, ℕ, ℤ, List, [], Option, Result, get_or, subst, sym}
use Rattle.std.proofs.lemmas.Option.{get_or_from_slice_get}
use Rattle.std.specs.Io.KnownBytes.{Appends}
use Rattle.std.specs.Prelude.{MatchResult}
use Rattle.map_script.specs.Views.{seen}
use Rattle.run_reasons.specs.Refused.{block_text}
use Rattle.run_canvas.specs.declared.error.ScriptError.{ScriptError}
use Rattle.run_canvas.specs.declared.error.ScriptError.TheVariants.{WriterFailed}
use Rattle.run_reasons.proofs.open_blocks.write_block_among.Goals as goal

-- what is written about a line of a file is written about the same
same_block : {U : Type 0} (result : Result U ScriptError) (here file : List ℕ) (other line : ℕ × List ℕ) (turn : Option ℤ) (u v : Option (List ℕ)) → file ≡ here → line ≡ other
    → MatchResult result (λ _. Appends u v (block_text here other turn)) (λ e. e ≡ WriterFailed) → MatchResult result (λ _. Appends u v (block_text file line turn)) (λ e. e ≡ WriterFailed)
same_block result here file other line turn u v at same told =
    subst (λ (f : List ℕ). MatchResult result (λ _. Appends u v (block_text f line turn)) (λ e. e ≡ WriterFailed)) (sym at)
    (subst (λ (l : ℕ × List ℕ). MatchResult result (λ _. Appends u v (block_text here l turn)) (λ e. e ≡ WriterFailed)) (sym same) told)

pub returns : goal.returns
returns g c =
    let lines : List (ℕ × List ℕ) = c.args.lines.now in
    let files : List (List ℕ) = c.args.files.now in
    let place = c.args.block.place in
    let other : ℕ × List ℕ = seen c.line-line.result in
    same_block c.write_block.result c.file-file.result.now (get_or files place []) other (get_or lines place (0, [])) c.args.block.number
    (g.W.Write.contents c.args.writer.now) (g.W.Write.contents c.write_block.new.writer)
    (get_or_from_slice_get files place c.file-file.result.now [] c.file-file.ensures) (get_or_from_slice_get lines place other (0, []) c.line-line.ensures) c.write_block.ensures
