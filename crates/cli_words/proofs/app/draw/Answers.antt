use Rattle.cli_words.proofs.app.draw.Goals as goal

pub returns : goal.returns
returns c =
    let s1 = c.with_arg-draw.ensures _ _ c.over_file-draw.ensures c.last_word.ensures in
    let s2 = c.with_arg-draw-2.ensures _ _ s1 c.flag.ensures in
    c.with_arg.ensures _ _ s2 c.flag-2.ensures
