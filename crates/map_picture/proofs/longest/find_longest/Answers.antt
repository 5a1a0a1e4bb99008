use Rattle.std.proofs.Common.{◌≡◌, ◌<◌, length, get_or, sym, ◌∙◌, arith}
use Rattle.std.specs.Prelude.{Some, None}
use Rattle.std.proofs.lemmas.Option.{get_or_from_slice_get, slice_get-get_or}
use Rattle.lump_records.specs.declared.records.Line.{Line}
use Rattle.map_picture.proofs.LongestSteps.{looked_more}
use Rattle.map_picture.proofs.longest.find_longest.Goals as goal
use Rattle.map_picture.proofs.longest.find_longest.Goals.{in-Some, in-None}

pub loop-n-preserved : goal.loop-n-preserved
loop-n-preserved c =
    let m = c.args.map.now.tables in
    let n = c.loop-n.n in
    let none : Line = record { v1 = 0; v2 = 0; flags = 0; special = 0; tag = 0; right = 0; left = 0 } in
    let within : n < length m.lines = omega (arith, c.loop-n-test.true, c.count-n-end.ensures.number) in
    elim c.match-line.branch [
      | in-Some w ↦
          rw w.longest-is
          (looked_more m c.args.first n w.in-Some.line none c.loop-n.longest w.look_at.new.longest within
          (sym (get_or_from_slice_get m.lines n w.in-Some.line none (sym c.line.ensures.item ∙ w.in-Some.is))) c.loop-n.invariant w.look_at.ensures)
      | in-None w ↦
          (let there : Some (get_or m.lines n none) ≡ None = sym (slice_get-get_or m.lines n none within) ∙ sym c.line.ensures.item ∙ w.in-None.is in
          absurd cc)
    ]
