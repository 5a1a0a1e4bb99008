use Rattle.std.proofs.Common.{◌≡◌, ◌∙◌, ap, arith, length}
use Rattle.lump_records.specs.Names.{name_text}
use Rattle.lump_records.specs.declared.records.Name8.{Name8}
use Rattle.map_checks.specs.Findings.{findings}
use Rattle.cli_print.proofs.Origins.{checked_told}
use Rattle.cli_print.proofs.findings.write_checked.Goals as goal

pub returns-clause-written : goal.returns-clause-written
returns-clause-written g c =
    let m = c.args.map.now.tables in
    let found = c.deref.result.now in
    let is : found ≡ findings m = c.deref.ensures.value ∙ c.in-Ok.ensures.found in
    let number : c.in_ok-count.count ≡ length found = omega (arith, c.in_ok-count.ensures.sum, c.len.ensures, c.deref.ensures.len, c.in-Ok.found.ok.0) in
    checked_told (g.O.Origin.origin c.args.origin.now) m (name_text c.name.result) found c.new-text.result.items c.put_findings.new.text.items c.deref-2.result.now
    c.in_ok-count.count (g.W.Write.contents c.args.writer.now) (g.W.Write.contents c.write_counted.new.writer)
    (ap (λ (n : Name8). name_text n) c.name.ensures) is number c.new-text.ensures.items c.in_ok-put_findings.ensures.put c.deref-2.ensures.value
    c.in_ok-write_counted.ensures
