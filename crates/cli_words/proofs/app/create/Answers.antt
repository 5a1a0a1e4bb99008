use Rattle.cli_words.proofs.app.create.Goals as goal

pub returns : goal.returns
returns c =
    let s1 = c.with_arg-create.ensures _ _ c.over_file-create.ensures c.slot.ensures in
    c.with_arg.ensures _ _ s1 c.journal.ensures
