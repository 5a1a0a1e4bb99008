use Rattle.cli_words.proofs.app.build.Goals as goal

pub returns : goal.returns
returns c =
    c.with_arg.ensures _ _ c.over_file-build.ensures c.word.ensures
