use Rattle.cli_words.proofs.app.lint.Goals as goal

pub returns : goal.returns
returns c =
    let s1 = c.with_arg-lint.ensures _ _ c.over_file-lint.ensures c.last_word.ensures in
    let s2 = c.with_arg-lint-2.ensures _ _ s1 c.path.ensures in
    let s3 = c.with_arg-lint-3.ensures _ _ s2 c.repeated.ensures in
    c.with_arg.ensures _ _ s3 c.repeated-2.ensures
