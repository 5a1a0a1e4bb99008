use Rattle.std.proofs.Common.{◌≡◌, ◌++◌, List, ℕ, subst}
use Rattle.std.specs.Io.KnownBytes.{Appends}
use Rattle.std.specs.Prelude.{MatchResult}
use Rattle.lump_text.specs.Shown.{shown_text}
use Rattle.map_script.specs.Views.{seen}
use Rattle.run_reasons.specs.Refused.{line_place, refusal_text}
use Rattle.run_canvas.specs.declared.error.ScriptError.TheVariants.{WriterFailed}
use Rattle.run_reasons.proofs.refused.write_refused_line.Goals as goal

pub returns : goal.returns
returns g c =
    let line : ℕ × List ℕ = seen c.args.line.now in
    subst (λ (name : List ℕ). MatchResult c.write_both.result
    (λ _. Appends (g.W.Write.contents c.args.writer.now) (g.W.Write.contents c.write_both.new.writer)
    (line_place c.args.file.now line.0 ++ (shown_text line.1 ++ refusal_text c.args.code name c.args.reason.now)))
    (λ e. e ≡ WriterFailed)) c.stop_name-name.ensures c.write_both.ensures
