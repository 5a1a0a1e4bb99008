use Rattle.std.proofs.Common.{◌≡◌, length, ⊎_elim, arith}
use Rattle.std.proofs.lemmas.Bool.{cases_lt}
use Rattle.tree_nodes.proofs.Numbering.{known_numbered, new_numbered}
use Rattle.tree_nodes.proofs.segs.number_of.Goals as goal

pub returns-in-Ok-clause-numbered : goal.returns-in-Ok-clause-numbered
returns-in-Ok-clause-numbered c =
    let old = c.args.points.now in
    let new = c.number.new.self in
    ⊎_elim
    (λ k. known_numbered old new c.args.place c.in-Ok.number c.requires.few c.in-Ok.ensures.number c.in-Ok.ensures.first k.1)
    (λ u. new_numbered old new c.args.place c.in-Ok.number
    (⊎_elim (λ l. l) (λ full. let all : length old ≡ 32767 = omega (arith, full, c.requires.few) in let e =
    c.in-Ok.ensures.refused all u.0 in cc) (cases_lt
    (length old) 32767)) c.in-Ok.ensures.number c.in-Ok.ensures.first u.0 u.1)
    c.in-Ok.ensures.places
