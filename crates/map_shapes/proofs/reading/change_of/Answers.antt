use Rattle.std.proofs.Common.{◌≡◌, ◌⊎◌, inr, Bool, true, false, Option, None, Some, ℕ, List, cond, pos, sym, ◌∙◌, ap, ap₂}
use Rattle.map_words.proofs.LineParts.{parts-some}
use Rattle.map_commands.specs.Errors.{code_in}
use Rattle.map_commands.specs.Places.{Number, place_fault, prior_fault}
use Rattle.map_words.specs.Words.{parts}
use Rattle.map_tables.specs.Ranges.{last_of}
use Rattle.map_shapes.specs.Changes.{are_fields, field_text, values_fault}
use Rattle.map_shapes.proofs.FieldWords.{fields_fault-some}
use Rattle.map_shapes.proofs.reading.change_of.Goals as goal

pub returns-in-Ok-None-clause-fault : goal.returns-in-Ok-None-clause-fault
returns-in-Ok-None-clause-fault c =
    let k = c.args.kind in
    let ws = parts c.args.fields.now in
    let place = Number (pos 0) (pos (last_of k)) in
    let are : are_fields (parts (field_text k)) ws ≡ true = sym c.are_fields.ensures ∙ c.if-not-are_fields.false in
    let f =
    fields_fault-some k c.args.word.now ws (parts-some c.args.fields.now)
    ∙ ap (λ t. cond t (prior_fault (place_fault place c.args.word.now) (values_fault k ws)) (Some 1)) are in
    f ∙ ap₂ prior_fault c.in-Ok-None.ensures.fault (sym c.in_ok-fault.ensures ∙ ap code_in c.in-Ok-None.is-1)

pub returns-in-Ok-Some-clause-fault : goal.returns-in-Ok-Some-clause-fault
returns-in-Ok-Some-clause-fault c =
    let k = c.args.kind in
    let ws = parts c.args.fields.now in
    let place = Number (pos 0) (pos (last_of k)) in
    let are : are_fields (parts (field_text k)) ws ≡ true = sym c.are_fields.ensures ∙ c.if-not-are_fields.false in
    let f =
    fields_fault-some k c.args.word.now ws (parts-some c.args.fields.now)
    ∙ ap (λ t. cond t (prior_fault (place_fault place c.args.word.now) (values_fault k ws)) (Some 1)) are in
    inr (f ∙ ap₂ prior_fault c.in-Ok-Some.ensures.fault (sym c.in_ok-fault.ensures ∙ ap code_in c.in-Ok-Some.is-1))

pub returns-in-Err-default-clause-fault : goal.returns-in-Err-default-clause-fault
returns-in-Err-default-clause-fault c =
    let k = c.args.kind in
    let ws = parts c.args.fields.now in
    let place = Number (pos 0) (pos (last_of k)) in
    let are : are_fields (parts (field_text k)) ws ≡ true = sym c.are_fields.ensures ∙ c.if-not-are_fields.false in
    let f =
    fields_fault-some k c.args.word.now ws (parts-some c.args.fields.now)
    ∙ ap (λ t. cond t (prior_fault (place_fault place c.args.word.now) (values_fault k ws)) (Some 1)) are in
    inr (f ∙ ap₂ prior_fault c.in-Err-default.ensures.fault (sym c.in_ok-fault.ensures) ∙ sym c.prior.ensures)
