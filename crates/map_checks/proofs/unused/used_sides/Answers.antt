use Rattle.std.proofs.Common.{◌≡◌, ◌≢◌, false, true, eqb, ◌&&◌, ◌||◌, sym, ap, ◌∙◌, arith}
use Rattle.lump_records.specs.Sides.{has_left, no_side}
use Rattle.map_tables.specs.Faults.{uses_side}
use Rattle.map_tables.specs.WellFormed.{HasSides}
use Rattle.map_checks.proofs.ItemReads.{at_some, is_there}
use Rattle.map_checks.proofs.MarkSteps.{or_false, marks_one, marks_two}
use Rattle.map_checks.proofs.SideLemmas.{has_left-true}
use Rattle.map_checks.proofs.unused.used_sides.Goals as goal
use Rattle.map_checks.proofs.unused.used_sides.Goals.{then-has_left, else-has_left}

pub unwrap-line-requires : goal.unwrap-line-requires
unwrap-line-requires c = is_there c.args.map.now.tables.lines c.loop-n.n _ c.line.ensures.item (omega arith)

pub loop-n-preserved : goal.loop-n-preserved
loop-n-preserved c =
    let m = c.args.map.now.tables in
    let line = c.unwrap-line.result in
    let is = sym c.line.ensures.item ∙ c.unwrap-line.ensures in
    let sides = at_some (HasSides m.sides) line c.unwrap-line.ensures c.line.ensures.sides in
    elim c.if-has_left.branch [
      | then-has_left w ↦
          let h : has_left line ≡ true = sym c.has_left.ensures ∙ w.if-has_left.true in
          let at_left : line.left ≢ no_side = has_left-true line h in
          rw w.used-is
          (marks_two uses_side m.sides m.lines c.loop-n.n line is c.loop-n.used.items c.loop-n.invariant c.from.result w.from-then-has_left.result
          (omega (arith, sides.right, c.from.ensures)) (omega (arith, sides.left at_left, w.from-then-has_left.ensures))
          (λ k i. eqb (sym c.from.ensures i) k || (h i && eqb (sym w.from-then-has_left.ensures i) k)))
      | else-has_left w ↦
          let h : has_left line ≡ false = sym c.has_left.ensures ∙ w.if-has_left.false in
          rw w.used-is
          (marks_one uses_side m.sides m.lines c.loop-n.n line is c.loop-n.used.items c.loop-n.invariant c.from.result
          (omega (arith, sides.right, c.from.ensures))
          (λ k.
          ap (λ b. eqb line.right k || (b && eqb line.left k)) h ∙ sym (or_false (eqb line.right k))
          ∙ ap (λ r. eqb r k) (sym c.from.ensures)))
    ]
