use Rattle.std.proofs.Common.{◌∙◌, ◌∷◌, sym, ap, Some}
use Rattle.std.specs.Int.{w16}
use Rattle.std.proofs.lemmas.Int.{to_z-of_z}
use Rattle.map_commands.specs.Errors.{code_of}
use Rattle.map_commands.specs.Places.{prior_fault, place_fault, Number}
use Rattle.map_commands.proofs.Readings.{reads-fault}
use Rattle.map_commands.proofs.unread.UnreadWords.any_number.Goals as goal

pub returns-in-Err-clause-reads : goal.returns-in-Err-clause-reads
returns-in-Err-clause-reads c =
    reads-fault _ _ _ _ c.in-Some.word.now (code_of c.in-Err.error)
    (c.in-Some.ensures.words ∙ ap (λ ws. c.in-Some.word.now ∷ ws) (sym c.note-in-Err.ensures.words))
    (c.note-in-Err.ensures.fault ∙ ap (λ f. prior_fault f (Some (code_of c.in-Err.error))) c.in-Some.ensures.fault)
    (sym (λ i. place_fault (Number (to_z-of_z w16 c.args.low c.ranges.low i) (to_z-of_z w16 c.args.high c.ranges.high i)) c.in-Some.word.now) ∙ c.in-Err.ensures.fault)
