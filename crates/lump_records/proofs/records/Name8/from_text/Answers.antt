use Rattle.std.proofs.Common.{List, ℕ, ◌-◌, ◌++◌, ap, ◌∙◌, length, drop}
use Rattle.std.specs.Prelude.{replicate}
use Rattle.std.proofs.lemmas.List.{drop-replicate}
use Rattle.lump_records.specs.Names.{name_text}
use Rattle.lump_records.proofs.NameLemmas.{kept}
use Rattle.lump_records.proofs.records.Name8.from_text.Goals as goal

pub returns-clause-name : goal.returns-clause-name
returns-clause-name c =
    let text = c.args.text.now in
    let filled = ap (λ (front : List ℕ). front ++ drop (length text) (replicate 8 0)) c.copy_from_slice.ensures.after
    ∙ ap (λ (back : List ℕ). text ++ back) (drop-replicate (length text) 8 0) in
    λ i. record { bytes = filled i }

pub returns-clause-kept : goal.returns-clause-kept
returns-clause-kept c = λ h. ap name_text (returns-clause-name c) ∙ kept c.args.text.now (8 - length c.args.text.now) h
