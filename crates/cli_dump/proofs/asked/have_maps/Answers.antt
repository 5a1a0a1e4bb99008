use Rattle.std.proofs.Common.{◌∙◌, sym, ap}
use Rattle.map_tables.specs.Projects.{project_of}
use Rattle.cli_dump.specs.Asked.{has_map_called}
use Rattle.cli_dump.proofs.AskedFor.{all_here, all_map, all_none}
use Rattle.cli_dump.proofs.asked.have_maps.Goals as goal

pub returns-then-not-has_map_called : goal.returns-then-not-has_map_called
returns-then-not-has_map_called c =
    let p = project_of c.args.maps.now in
    let fails = ap (has_map_called p) (sym c.as_bytes.ensures.value) ∙ sym c.if-not-has_map_called.ensures in
    sym (all_map _ (has_map_called p) c.args.names.now ∙ c.loop-name.invariant
    ∙ all_here _ c.args.names.now c.loop-name.name-index c.name-item.result c.loop-name-test.true (sym c.name-item.is) fails)

pub returns : goal.returns
returns c =
    let p = project_of c.args.maps.now in
    sym (all_map _ (has_map_called p) c.args.names.now ∙ c.loop-name.invariant ∙ all_none _ c.args.names.now c.loop-name.name-index c.loop-name-test.false)
