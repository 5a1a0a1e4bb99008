use Rattle.std.proofs.Common.{◌∙◌, ◌∷◌, sym, ap, Some, pos, rules, ◌≡◌, false}
use Rattle.std.specs.Prelude.{bytes_eq, codes}
use Rattle.map_commands.specs.Errors.{code_of}
use Rattle.map_commands.specs.Places.{prior_fault}
use Rattle.map_commands.proofs.Readings.{reads-fault, number-alone}
use Rattle.map_commands.proofs.unread.UnreadWords.left.Goals as goal

pub returns-in-Err-clause-reads : goal.returns-in-Err-clause-reads
returns-in-Err-clause-reads c =
    let e : bytes_eq c.in-Some.word.now (codes "-") ≡ false = search rules in
    reads-fault _ _ _ _ c.in-Some.word.now (code_of c.in-Err.error)
    (c.in-Some.ensures.words ∙ ap (λ ws. c.in-Some.word.now ∷ ws) (sym c.note-in-Err.ensures.words))
    (c.note-in-Err.ensures.fault ∙ ap (λ f. prior_fault f (Some (code_of c.in-Err.error))) c.in-Some.ensures.fault)
    (number-alone c.in-Some.word.now (pos 0) (pos 32766) e ∙ c.in-Err.ensures.fault)
