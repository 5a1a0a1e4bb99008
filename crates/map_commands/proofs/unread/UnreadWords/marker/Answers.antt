use Rattle.std.proofs.Common.{◌∙◌, ◌∷◌, sym, ap, Some}
use Rattle.map_commands.specs.Errors.{code_of}
use Rattle.map_commands.specs.Places.{prior_fault}
use Rattle.map_commands.proofs.Readings.{reads-fault}
use Rattle.map_commands.proofs.unread.UnreadWords.marker.Goals as goal

pub returns-in-Err-clause-reads : goal.returns-in-Err-clause-reads
returns-in-Err-clause-reads c =
    reads-fault _ _ _ _ c.in-Some.word.now (code_of c.in-Err.error)
    (c.in-Some.ensures.words ∙ ap (λ ws. c.in-Some.word.now ∷ ws) (sym c.note-in-Err.ensures.words))
    (c.note-in-Err.ensures.fault ∙ ap (λ f. prior_fault f (Some (code_of c.in-Err.error))) c.in-Some.ensures.fault)
    c.in-Err.ensures.fault
