use Rattle.std.proofs.Common.{◌≡◌, ◌⊎◌, inr, ◌+◌, ◌<◌, ◌≤◌, Bool, true, false, cond, not, length, ltb, Option, Some, None, ℕ, sym, ◌∙◌, ap, ap₂, arith, rules, subst}
use Rattle.std.specs.Prelude.{All, is_some, option_map}
use Rattle.std.specs.List.{list_any, slice_get}
use Rattle.lump_records.specs.Limits.{item_limit}
use Rattle.lump_records.specs.declared.records.Line.{Line}
use Rattle.map_shapes.specs.Doors.{door_commands, lines_sides, opening}
use Rattle.map_areas.specs.Drawn.{AreTaken}
use Rattle.map_commands.specs.Step.{InRange}
use Rattle.map_shapes.proofs.DoorTaken.{door_taken}
use Rattle.map_shapes.proofs.DoorFaults.{ltb_no, ltb_yes, present}
use Rattle.map_shapes.proofs.door.door_commands.Goals as goal

pub returns-then-count-lines_sides-gt32767-clause-refused : goal.returns-then-count-lines_sides-gt32767-clause-refused
returns-then-count-lines_sides-gt32767-clause-refused c =
    let m = c.args.map.now.tables in
    let d = c.args.door.now in
    let there : slice_get m.sectors d.sector ≡ Some c.in-Some.sector = ap (slice_get m.sectors) (sym c.from.ensures) ∙ sym c.sector.ensures.item ∙ c.in-Some.is in
    let absent = present m.sectors d.sector c.in-Some.sector there in
    let opens = list_any (λ (l : Line). is_some (opening m.sides d.sector l)) m.lines in
    let sides = length m.sides + lines_sides m d m.lines in
    let full : ltb item_limit sides ≡ true = ltb_yes item_limit sides (omega (arith, c.if-count-lines_sides-gt32767.true, c.count.ensures.number, c.lines_sides.ensures.value)) in
    inr (ap₂ (λ a b. cond {A = Option ℕ} a (Some 4) (cond b (Some 12) (cond (not opens) (Some 29) None))) absent full)

pub returns-then-not-has_opening-clause-refused : goal.returns-then-not-has_opening-clause-refused
returns-then-not-has_opening-clause-refused c =
    let m = c.args.map.now.tables in
    let d = c.args.door.now in
    let there : slice_get m.sectors d.sector ≡ Some c.in-Some.sector = ap (slice_get m.sectors) (sym c.from.ensures) ∙ sym c.sector.ensures.item ∙ c.in-Some.is in
    let absent = present m.sectors d.sector c.in-Some.sector there in
    let opens = list_any (λ (l : Line). is_some (opening m.sides d.sector l)) m.lines in
    let sides = length m.sides + lines_sides m d m.lines in
    let fits : ltb item_limit sides ≡ false = ltb_no item_limit sides (omega (arith, c.if-count-lines_sides-gt32767.false, c.count.ensures.number, c.lines_sides.ensures.value)) in
    let none : opens ≡ false = sym c.has_opening.ensures ∙ c.if-not-has_opening.true in
    inr (ap₂ (λ a b. cond {A = Option ℕ} a (Some 4) (cond b (Some 12) (cond (not opens) (Some 29) None))) absent fits
    ∙ ap (λ t. cond {A = Option ℕ} (not t) (Some 29) None) none)

pub returns-clause-ok : goal.returns-clause-ok
returns-clause-ok c =
    let m = c.args.map.now.tables in
    let d = c.args.door.now in
    let there : slice_get m.sectors d.sector ≡ Some c.in-Some.sector = ap (slice_get m.sectors) (sym c.from.ensures) ∙ sym c.sector.ensures.item ∙ c.in-Some.is in
    let absent = present m.sectors d.sector c.in-Some.sector there in
    let opens = list_any (λ (l : Line). is_some (opening m.sides d.sector l)) m.lines in
    let sides = length m.sides + lines_sides m d m.lines in
    let fits : ltb item_limit sides ≡ false = ltb_no item_limit sides (omega (arith, c.if-count-lines_sides-gt32767.false, c.count.ensures.number, c.lines_sides.ensures.value)) in
    let some : opens ≡ true = sym c.has_opening.ensures ∙ c.if-not-has_opening.false in (
      ap₂ (λ a b. cond {A = Option ℕ} a (Some 4) (cond b (Some 12) (cond (not opens) (Some 29) None))) absent fits
          ∙ ap (λ t. cond {A = Option ℕ} (not t) (Some 29) None) some,
      ap (option_map (door_commands m d)) there ∙ ap Some (sym c.in_ok-all_commands.ensures.commands),
    )

pub returns-clause-taken : goal.returns-clause-taken
returns-clause-taken c =
    let m = c.args.map.now.tables in
    let d = c.args.door.now in
    let there : slice_get m.sectors d.sector ≡ Some c.in-Some.sector = ap (slice_get m.sectors) (sym c.from.ensures) ∙ sym c.sector.ensures.item ∙ c.in-Some.is in
    let fits : length m.sides + lines_sides m d m.lines ≤ item_limit = omega (arith, c.if-count-lines_sides-gt32767.false, c.count.ensures.number, c.lines_sides.ensures.value) in
    let is = c.in_ok-all_commands.ensures.commands in
    subst (AreTaken m) (sym is) (door_taken m d c.in-Some.sector c.count.ensures.well_formed there fits (subst (All InRange) is c.in_ok-all_commands.ensures.range))
