use Rattle.cli_words.proofs.app.dump.Goals as goal

pub returns : goal.returns
returns c =
    let s1 = c.with_arg-dump.ensures _ _ c.over_file-dump.ensures c.last_words.ensures in
    let s2 = c.with_arg-dump-2.ensures _ _ s1 c.flag.ensures in
    c.with_arg.ensures _ _ s2 c.flag-2.ensures
