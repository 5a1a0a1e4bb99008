use Rattle.cli_words.proofs.app.picture.Goals as goal

pub returns : goal.returns
returns c =
    let s1 = c.with_arg-picture.ensures _ _ c.over_file-picture.ensures c.last_word.ensures in
    let s2 = c.with_arg-picture-2.ensures _ _ s1 c.path.ensures in
    let s3 = c.with_arg-picture-3.ensures _ _ s2 c.flag.ensures in
    let s4 = c.with_arg-picture-4.ensures _ _ s3 c.flag-2.ensures in
    let s5 = c.with_arg-picture-5.ensures _ _ s4 c.flag-3.ensures in
    let s6 = c.with_arg-picture-6.ensures _ _ s5 c.flag-4.ensures in
    let s7 = c.with_arg-picture-7.ensures _ _ s6 c.flag-5.ensures in
    c.with_arg.ensures _ _ s7 c.path-2.ensures
