use Rattle.cli_words.proofs.app.check.Goals as goal

pub returns : goal.returns
returns c =
    c.with_arg.ensures _ _ c.over_file-check.ensures c.last_word.ensures
