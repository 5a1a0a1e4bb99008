use Rattle.std.proofs.Common.{◌≡◌, ℕ, ◌+◌, ◌<◌, ◌≤◌, List, ◌++◌, get_or, length, sym, ap, ◌∙◌, subst, arith}
use Rattle.std.specs.List.{enumerate_from}
use Rattle.std.specs.Prelude.{flat_map}
use Rattle.std.proofs.lemmas.List.{take_all}
use Rattle.std.proofs.lemmas.List.FromFn.{length-enumerate_from}
use Rattle.lump_records.specs.declared.records.Side.{Side}
use Rattle.map_plane.specs.declared.places.PlacedLine.{PlacedLine}
use Rattle.map_commands.specs.declared.command.Command.{Command}
use Rattle.map_areas.specs.Drawn.{LeadTo, RefusesOneOf}
use Rattle.map_areas.specs.Pillars.{edge_drawn, next_position, wall_drawn}
use Rattle.map_areas.proofs.InTurn.{LeadTo-item, noted_item, refuses_item}
use Rattle.map_areas.proofs.Pillars.{edge_at, some_pair, wall_counted}
use Rattle.map_areas.proofs.pillar_walls.add_walls.Goals as goal

-- the wall that is drawn is that of the edge
here : (side : Side) (vertices sides : ℕ) (es : List PlacedLine) (n next right : ℕ) → n < length es → next ≡ next_position (length es) n → right ≡ sides + n
    → wall_drawn side (vertices + n) (vertices + next) right ≡ edge_drawn side vertices sides (length es) (get_or (enumerate_from 0 es) n some_pair)
here side vertices sides es n next right lt is number =
    (λ i. wall_drawn side (vertices + n) (vertices + is i) (number i)) ∙ sym (edge_at side vertices sides es n some_pair lt)

within : (es : List PlacedLine) (n : ℕ) → n < length es → n < length (enumerate_from 0 es)
within es n lt = omega (arith, lt, length-enumerate_from 0 es)

past : (es : List PlacedLine) (n : ℕ) → length es ≤ n → length (enumerate_from 0 es) ≤ n
past es n le = omega (arith, le, length-enumerate_from 0 es)

pub returns-in-Err-clause-refused : goal.returns-in-Err-clause-refused
returns-in-Err-clause-refused c =
    let m = c.args.copy.now.tables in
    let mid = c.loop-n.copy.tables in
    let es = c.args.edges.now in
    let n = c.loop-n.n in
    refuses_item (edge_drawn c.args.side c.args.first (length m.sides) (length es)) (enumerate_from 0 es) n some_pair m mid c.in-Err.error
    (within es n c.loop-n-test.true) c.loop-n.invariant.led
    (subst (λ (cs : List Command). RefusesOneOf mid cs c.in-Err.error)
    (here c.args.side c.args.first (length m.sides) es n c.next_position-next.result (length mid.sides) c.loop-n-test.true c.next_position-next.ensures.next
    c.loop-n.invariant.sides)
    c.in-Err.ensures.refused)

pub loop-n-preserved : goal.loop-n-preserved
loop-n-preserved c =
    let m = c.args.copy.now.tables in
    let mid = c.loop-n.copy.tables in
    let new = c.add_wall.new.copy.tables in
    let es = c.args.edges.now in
    let n = c.loop-n.n in
    let lt = within es n c.loop-n-test.true in
    let one = here c.args.side c.args.first (length m.sides) es n c.next_position-next.result (length mid.sides) c.loop-n-test.true c.next_position-next.ensures.next
    c.loop-n.invariant.sides in
    let counted = wall_counted mid c.args.side (c.args.first + n) (c.args.first + c.next_position-next.result) (length mid.sides) new c.in-Ok.ensures.led in
    let before = c.loop-n.invariant.sides in
    record {
      led =
          LeadTo-item (edge_drawn c.args.side c.args.first (length m.sides) (length es)) (enumerate_from 0 es) n some_pair m mid new lt c.loop-n.invariant.led
          (subst (λ (cs : List Command). LeadTo mid cs new) one c.in-Ok.ensures.led);
      noted =
          noted_item (edge_drawn c.args.side c.args.first (length m.sides) (length es)) (enumerate_from 0 es) n some_pair c.args.commands.now.items
          c.loop-n.commands.items c.add_wall.new.commands.items lt c.loop-n.invariant.noted
          (c.in-Ok.ensures.noted ∙ ap (λ (cs : List Command). c.loop-n.commands.items ++ cs) one);
      sides = omega (arith, counted, before);
    }

pub returns-clause-led : goal.returns-clause-led
returns-clause-led c =
    let m = c.args.copy.now.tables in
    let es = c.args.edges.now in
    subst (λ (cs : List Command). LeadTo m cs c.loop-n.copy.tables)
    (ap (flat_map (edge_drawn c.args.side c.args.first (length m.sides) (length es))) (take_all c.loop-n.n (enumerate_from 0 es) (past es c.loop-n.n c.loop-n-test.false)))
    c.loop-n.invariant.led

pub returns-clause-noted : goal.returns-clause-noted
returns-clause-noted c =
    let m = c.args.copy.now.tables in
    let es = c.args.edges.now in
    c.loop-n.invariant.noted
    ∙ ap (λ (xs : List (ℕ × PlacedLine)). c.args.commands.now.items ++ flat_map (edge_drawn c.args.side c.args.first (length m.sides) (length es)) xs)
    (take_all c.loop-n.n (enumerate_from 0 es) (past es c.loop-n.n c.loop-n-test.false))
