use Rattle.std.proofs.Common.{◌≡◌, ℕ, List, arith, sym, subst}
use Rattle.std.proofs.KnownBytes.{Appends-nil}
use Rattle.std.specs.Io.KnownBytes.{Appends}
use Rattle.std.specs.Prelude.{MatchResult}
use Rattle.map_script.specs.Views.{seen}
use Rattle.run_edit.specs.declared.error.EditorError.TheVariants.{WriterFailed}
use Rattle.cli_scripts.proofs.ScriptOrigins.{line_at, none_at}
use Rattle.cli_scripts.proofs.script_origin.write_nth.Goals as goal

pub returns-then-place-len : goal.returns-then-place-len
returns-then-place-len g c =
    let w = g.W.Write.contents c.args.writer.now in
    let s = c.args.script.now in
    subst (λ (t : List ℕ). Appends w w t) (sym (none_at s.lines s.files c.args.place (omega (arith, c.len.ensures.count, c.if-place-len.true)))) (Appends-nil w)

pub returns : goal.returns
returns g c =
    let s = c.args.script.now in
    subst (λ (t : List ℕ). MatchResult c.write_line.result (λ _. Appends (g.W.Write.contents c.args.writer.now) (g.W.Write.contents c.write_line.new.writer) t) (λ e. e ≡ WriterFailed))
    (sym (line_at s.lines s.files c.args.place (seen c.line.result) c.file.result.now c.line.ensures c.file.ensures)) c.write_line.ensures
