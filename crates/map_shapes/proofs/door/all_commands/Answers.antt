use Rattle.std.proofs.Common.{◌≡◌, ◌+◌, ◌++◌, List, ℕ, drop, length, sym, ◌∙◌, ap, ap₂, append_assoc, arith, subst}
use Rattle.map_commands.specs.declared.command.Command.{Command}
use Rattle.lump_records.specs.declared.records.Line.{Line}
use Rattle.map_shapes.specs.Doors.{jamb_of, line_commands, sides_added, lines_commands, lines_sides}
use Rattle.std.specs.Prelude.{All}
use Rattle.std.proofs.lemmas.List.Elements.{All-append}
use Rattle.map_commands.specs.Step.{InRange}
use Rattle.std.proofs.lemmas.List.Sums.{sum_by-cons}
use Rattle.map_shapes.proofs.Items.{back_is}
use Rattle.map_shapes.proofs.door.all_commands.Goals as goal

pub loop-n-preserved : goal.loop-n-preserved
loop-n-preserved c =
    let m = c.args.map.now.tables in
    let d = c.args.door.now in
    let n = c.loop-n.n in
    let next = c.loop-n.next in
    let line = c.nth_line.result in
    let rest = drop (n + 1) m.lines in
    let sides : c.sides_added-next.result ≡ sides_added m.lines (jamb_of m d line) =
    c.sides_added-next.ensures.value ∙ ap (sides_added m.lines) c.jamb_of-jamb.ensures.value in
    let back = back_is m.lines n line c.nth_line.ensures.item in
    let sums : lines_sides m d (drop n m.lines) ≡ c.sides_added-next.result + lines_sides m d rest =
    ap (lines_sides m d) back ∙ sum_by-cons (λ (l : Line). sides_added m.lines (jamb_of m d l)) line rest ∙ ap (λ k. k + lines_sides m d rest) (sym sides) in (
      ap (λ (cs : List Command). cs ++ lines_commands m d (next + c.sides_added-next.result) (n + 1) rest)
          (c.in_ok-put_line.ensures.commands ∙ ap (λ j. c.loop-n.commands.items ++ line_commands m.lines next n j) c.jamb_of-jamb.ensures.value)
          ∙ append_assoc c.loop-n.commands.items (line_commands m.lines next n (jamb_of m d line)) (lines_commands m d (next + c.sides_added-next.result) (n + 1) rest)
          ∙ ap (λ k. c.loop-n.commands.items ++ (line_commands m.lines next n (jamb_of m d line) ++ lines_commands m d (next + k) (n + 1) rest)) sides
          ∙ ap (λ (ls : List Line). c.loop-n.commands.items ++ lines_commands m d next n ls) (sym back)
          ∙ c.loop-n.invariant.0,
      omega (arith, c.loop-n.invariant.1, sums),
      subst (All InRange) (sym c.in_ok-put_line.ensures.commands) (All-append InRange c.loop-n.commands.items _ c.loop-n.invariant.2 c.in_ok-put_line.ensures.range),
    )

pub put_line-requires-clause-next : goal.put_line-requires-clause-next
put_line-requires-clause-next c =
    let m = c.args.map.now.tables in
    let d = c.args.door.now in
    let n = c.loop-n.n in
    let line = c.nth_line.result in
    let rest = drop (n + 1) m.lines in
    let sums : lines_sides m d (drop n m.lines) ≡ sides_added m.lines c.jamb_of-jamb.result + lines_sides m d rest =
    ap (lines_sides m d) (back_is m.lines n line c.nth_line.ensures.item)
    ∙ sum_by-cons (λ (l : Line). sides_added m.lines (jamb_of m d l)) line rest
    ∙ ap (λ j. sides_added m.lines j + lines_sides m d rest) (sym c.jamb_of-jamb.ensures.value) in
    omega (arith, c.loop-n.invariant.1, sums, c.requires.sides)
