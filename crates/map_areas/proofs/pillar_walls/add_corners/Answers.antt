use Rattle.std.proofs.Common.{List, ◌++◌, ap, ◌∙◌, subst}
use Rattle.std.specs.Prelude.{flat_map}
use Rattle.std.proofs.lemmas.List.{take_all}
use Rattle.std.proofs.lemmas.List.Concat.{flat_map_single}
use Rattle.map_commands.specs.declared.command.Command.{Command}
use Rattle.map_areas.specs.Drawn.{LeadTo, RefusesOneOf}
use Rattle.map_areas.specs.Pillars.{corner_drawn}
use Rattle.map_areas.proofs.InTurn.{LeadTo-item, noted_item, refuses_item}
use Rattle.map_areas.proofs.Pillars.{corner_alone}
use Rattle.map_areas.proofs.pillar_walls.add_corners.Goals as goal

pub returns-in-Err-clause-refused : goal.returns-in-Err-clause-refused
returns-in-Err-clause-refused c =
    let m = c.args.copy.now.tables in
    let es = c.args.edges.now in
    subst (λ (cs : List Command). RefusesOneOf m cs c.in-Err.error) (flat_map_single corner_drawn es)
    (refuses_item corner_alone es c.loop-edge.edge-index _ m c.loop-edge.copy.tables c.in-Err.error c.loop-edge-test.true c.loop-edge.invariant.led c.in-Err.ensures.refused)

pub loop-edge-preserved : goal.loop-edge-preserved
loop-edge-preserved c =
    let m = c.args.copy.now.tables in
    let es = c.args.edges.now in
    record {
      led =
          LeadTo-item corner_alone es c.loop-edge.edge-index _ m c.loop-edge.copy.tables c.add.new.copy.tables c.loop-edge-test.true c.loop-edge.invariant.led
          c.in-Ok.ensures.led;
      noted =
          noted_item corner_alone es c.loop-edge.edge-index _ c.args.commands.now.items c.loop-edge.commands.items c.add.new.commands.items c.loop-edge-test.true
          c.loop-edge.invariant.noted c.in-Ok.ensures.noted;
    }

pub returns-clause-led : goal.returns-clause-led
returns-clause-led c =
    subst (λ (cs : List Command). LeadTo c.args.copy.now.tables cs c.loop-edge.copy.tables)
    (ap (flat_map corner_alone) (take_all c.loop-edge.edge-index c.args.edges.now c.loop-edge-test.false) ∙ flat_map_single corner_drawn c.args.edges.now)
    c.loop-edge.invariant.led

pub returns-clause-noted : goal.returns-clause-noted
returns-clause-noted c =
    c.loop-edge.invariant.noted
    ∙ ap (λ (cs : List Command). c.args.commands.now.items ++ cs)
    (ap (flat_map corner_alone) (take_all c.loop-edge.edge-index c.args.edges.now c.loop-edge-test.false) ∙ flat_map_single corner_drawn c.args.edges.now)
