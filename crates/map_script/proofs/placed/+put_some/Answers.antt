use Rattle.std.proofs.Common.{◌<◌, arith}
use Rattle.map_script.proofs.PlacedWords.{some_left_of, some_put}
use Rattle.map_script.proofs.placed.+put_some.Goals as goal

pub returns-in_ok-put_word-in-Some-clause-ok : goal.returns-in_ok-put_word-in-Some-clause-ok
returns-in_ok-put_word-in-Some-clause-ok t c =
    let some : 0 < c.args.count = omega (arith, c.if-count-eq0.false) in
    some_put c.put_some.result c.args.count c.args.text.now.items c.put_word.new.text.items c.put_some.new.text.items c.args.words.now c.in-Some.word.now c.in-Some.behind.now
    some c.in-Some.ensures.words c.in_ok-put_word-in-Some.ensures.ok c.put_some.ensures.ok

pub returns-in_ok-put_word-in-Some-clause-rest : goal.returns-in_ok-put_word-in-Some-clause-rest
returns-in_ok-put_word-in-Some-clause-rest t c =
    let some : 0 < c.args.count = omega (arith, c.if-count-eq0.false) in
    some_left_of c.put_some.result (λ r. r.now) c.args.count c.args.words.now c.in-Some.word.now c.in-Some.behind.now some c.in-Some.ensures.words c.put_some.ensures.rest
