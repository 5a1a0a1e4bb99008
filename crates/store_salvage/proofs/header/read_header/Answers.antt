use Rattle.std.proofs.Common.{rules, ℕ, List, subst, sym}
use Rattle.store_disk.specs.Files.{HasAt}
use Rattle.store_disk.proofs.Bytes.{has_same}
use Rattle.store_project.specs.Places.{header_bytes}
use Rattle.store_salvage.proofs.header.read_header.Goals as goal

pub returns-in-None-clause-refused : goal.returns-in-None-clause-refused
returns-in-None-clause-refused c slot journal slot_fits journal_fits has =
    c.in-None.ensures.none slot journal slot_fits journal_fits
    (has_same 0 c.copy_from_slice.new.self (header_bytes slot journal) c.args.file.now c.copy_from_slice.ensures.len
    (subst (λ (bytes : List ℕ). HasAt 0 bytes c.args.file.now) (sym c.copy_from_slice.ensures.after) c.part.ensures.has) has)

pub returns-in-Some-2-clause-refused : goal.returns-in-Some-2-clause-refused
returns-in-Some-2-clause-refused c =
    let geometry = c.in-Some-2.field-0 in (
      geometry.slot,
      geometry.journal,
      c.in-Some-2.ensures.small.0,
      c.in-Some-2.ensures.small.1,
      subst (λ (bytes : List ℕ). HasAt 0 bytes c.args.file.now) c.in-Some-2.ensures.some
          (subst (λ (bytes : List ℕ). HasAt 0 bytes c.args.file.now) (sym c.copy_from_slice.ensures.after) c.part.ensures.has),
      search rules,
    )
