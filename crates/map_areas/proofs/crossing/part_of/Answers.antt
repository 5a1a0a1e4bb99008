use Rattle.std.proofs.Common.{◌≡◌, ◌∙◌, ◌*◌, ◌/◌, ◌%◌, ap, arith, sym}
use Rattle.map_areas.proofs.Crossed.{no_rest, so_many}
use Rattle.map_areas.proofs.crossing.part_of.Goals as goal
use Rattle.map_areas.proofs.crossing.part_of.Goals.{then-whole-rest, else-whole-rest}

pub returns-clause-exact : goal.returns-clause-exact
returns-clause-exact c = λ n le e.
    let w = c.args.whole in
    let product = c.args.length * c.args.part in
    let rest : product % w ≡ 0 = ap (λ x. x % w) (sym e) ∙ no_rest n w c.requires.whole in
    let below : product / w ≡ n = ap (λ x. x / w) (sym e) ∙ so_many n w c.requires.whole in
    elim c.if-whole-rest.branch [
      | then-whole-rest b ↦ omega (arith, le, rest, below, b.if-whole-rest.true, c.requires.whole)
      | else-whole-rest b ↦ omega (arith, le, rest, below, b.nearest-is, c.min.ensures)
    ]
