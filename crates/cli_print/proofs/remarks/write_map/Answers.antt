use Rattle.std.proofs.Common.{◌≡◌, ◌∙◌, ◌+◌, ap, arith, length}
use Rattle.std.specs.Prelude.{List}
use Rattle.lump_records.specs.Names.{name_text}
use Rattle.lump_records.specs.declared.records.Name8.{Name8}
use Rattle.cli_print.specs.Choosing.{wants_view}
use Rattle.cli_print.specs.Linting.{wanted_warnings}
use Rattle.cli_print.proofs.Linting.{map_written, wanted_findings}
use Rattle.cli_print.proofs.remarks.write_map.Goals as goal

pub returns-in-Ok : goal.returns-in-Ok
returns-in-Ok g c =
    let m = c.args.map.now.tables in
    let wants = wants_view c.args.wants in
    let found = c.deref.result.now in
    let warned = c.deref-2.result.now in
    let named : name_text c.name.result ≡ name_text m.name = ap (λ (n : Name8). name_text n) c.name.ensures in
    let is : found ≡ wanted_findings wants m = c.deref.ensures.value ∙ c.in_ok-found.ensures.found in
    let are : warned ≡ wanted_warnings wants m = c.deref-2.ensures.value ∙ c.in_ok-warned.ensures.found in
    let sum : c.in_ok-count.count ≡ c.args.before + length found + length warned =
    omega (
      arith,
      c.in_ok-with_findings.ensures.sum,
      c.in_ok-count.ensures.sum,
      c.len.ensures,
      c.len-2.ensures,
      c.deref.ensures.len,
      c.deref-2.ensures.len,
      c.in_ok-found.found.ok.0,
      c.in_ok-warned.warned.ok.0,
    ) in
    map_written (g.O.Origin.origin c.args.origin.now) wants m (name_text c.name.result) found warned c.args.before c.in_ok-count.count c.deref-3.result.now
    (g.W.Write.contents c.args.writer.now) (g.W.Write.contents c.write_all.new.self) named is are sum (c.deref-3.ensures.value ∙ c.in_ok-text.ensures.told) c.in-Ok.ensures.bytes
