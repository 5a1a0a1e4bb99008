use Rattle.std.proofs.Common.{◌≤◌, ◌∷◌, arith, ap, take, length}
use Rattle.std.specs.Prelude.{slice_index}
use Rattle.store_journal.specs.Records.{records_bytes}
use Rattle.store_journal.proofs.Parts.{length-parts, length-first}
use Rattle.store_journal.proofs.payloads.Payloads.start.Goals as goal

pub begin_in-requires : goal.begin_in-requires
begin_in-requires c =
    let inside = c.self.inside in
    omega (arith, c.requires, ap length c.deref.ensures.value, ap length c.self.view_is, length-parts 0 inside.ends.items inside.bytes.items)

pub returns : goal.returns
returns c =
    let inside = c.self.inside in
    let n = c.args.n in
    let within : n ≤ length inside.ends.items = omega (arith, c.requires, ap length c.self.view_is, length-parts 0 inside.ends.items inside.bytes.items) in
    omega (
      arith,
      c.begin_in.ensures,
      ap (λ ends. slice_index (0 ∷ ends) n) c.deref.ensures.value,
      length-first 0 inside.ends.items inside.bytes.items n c.self.invariant within,
      ap (λ ps. length (records_bytes (take n ps))) c.self.view_is,
    )
