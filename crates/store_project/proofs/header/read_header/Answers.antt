use Rattle.std.proofs.Common.{rules, ℕ, List, subst, ◌∙◌, refl}
use Rattle.store_disk.specs.Files.{HasAt}
use Rattle.store_disk.proofs.Bytes.{has_same}
use Rattle.store_project.specs.Places.{header_bytes}
use Rattle.store_project.proofs.Counts.{apart, none_failed, other_refusal}
use Rattle.store_project.proofs.header.read_header.Goals as goal

pub returns-in-None-clause-refused : goal.returns-in-None-clause-refused
returns-in-None-clause-refused g c file read slot journal slot_fits journal_fits has =
    c.in-None.ensures.none slot journal slot_fits journal_fits
    (has_same 0 c.read.new.into (header_bytes slot journal) file (search rules) (c.in_ok-read.ensures.told file (c.in_ok-len.ensures.still file read)) has)

pub returns-in-Some-2-clause-refused : goal.returns-in-Some-2-clause-refused
returns-in-Some-2-clause-refused g c file read =
    let geometry = c.in-Some-2.field-0 in (
      geometry.slot,
      geometry.journal,
      c.in-Some-2.ensures.small.0,
      c.in-Some-2.ensures.small.1,
      subst (λ (bytes : List ℕ). HasAt 0 bytes file) c.in-Some-2.ensures.some (c.in_ok-read.ensures.told file (c.in_ok-len.ensures.still file read)),
      search rules,
    )

pub returns-in-Some-clause-count : goal.returns-in-Some-clause-count
returns-in-Some-clause-count g c = none_failed _ _ _ _ (c.in_ok-read.ensures.count.done ∙ c.in_ok-len.ensures.count.done)

pub returns-in-Some-2-clause-count : goal.returns-in-Some-2-clause-count
returns-in-Some-2-clause-count g c =
    other_refusal _ _ _ _ (apart _ refl) (c.in_ok-read.ensures.count.done ∙ c.in_ok-len.ensures.count.done)

pub returns-in-None-clause-count : goal.returns-in-None-clause-count
returns-in-None-clause-count g c =
    other_refusal _ _ _ _ (apart _ refl) (c.in_ok-read.ensures.count.done ∙ c.in_ok-len.ensures.count.done)
