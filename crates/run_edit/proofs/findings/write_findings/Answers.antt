use Rattle.std.proofs.Common.{◌≡◌, ◌∙◌, ◌++◌, ℕ, List, length, ap, arith, subst}
use Rattle.std.specs.Prelude.{flat_map}
use Rattle.std.specs.Io.KnownBytes.{Appends}
use Rattle.map_checks.specs.Findings.{findings}
use Rattle.map_checks.specs.declared.finding.Finding.{Finding}
use Rattle.run_edit.specs.Texts.{finding_line, total_text}
use Rattle.run_edit.proofs.Going.{Appends-append}
use Rattle.run_edit.proofs.findings.write_findings.Goals as goal

pub returns-clause-written : goal.returns-clause-written
returns-clause-written g c =
    let u = g.W.Write.contents c.args.writer.now in
    let w = g.W.Write.contents c.write_total.new.writer in
    let all = findings c.args.map.now.tables in
    let count = c.in-Ok-try_from.count in
    let same : c.deref.result.now ≡ all = c.deref.ensures.value ∙ c.in-Ok.ensures.found in
    let number : count ≡ length all = omega (arith, ap length same, c.deref.ensures.len, c.in-Ok.found.ok.0, c.len.ensures, c.in-Ok-try_from.ensures) in
    let both = Appends-append u (g.W.Write.contents c.write_each.new.writer) w (flat_map finding_line c.deref.result.now) (total_text count)
    c.in_ok-write_each.ensures c.in_ok-write_total.ensures in
    subst (λ (n : ℕ). Appends u w (flat_map finding_line all ++ total_text n)) number
    (subst (λ (found : List Finding). Appends u w (flat_map finding_line found ++ total_text count)) same both)
