use Rattle.std.proofs.Common.{◌∙◌, sym, ap}
use Rattle.cli_dump.specs.Asked.{has_level_called}
use Rattle.cli_dump.proofs.AskedFor.{all_here, all_map, all_none}
use Rattle.cli_dump.proofs.asked.have_levels.Goals as goal

pub returns-then-not-has_level_called : goal.returns-then-not-has_level_called
returns-then-not-has_level_called c =
    let has = has_level_called c.args.wad.now c.args.levels.now in
    let fails = ap has (sym c.as_bytes.ensures.value) ∙ sym c.if-not-has_level_called.ensures in
    sym (all_map _ has c.args.names.now ∙ c.loop-name.invariant
    ∙ all_here _ c.args.names.now c.loop-name.name-index c.name-item.result c.loop-name-test.true (sym c.name-item.is) fails)

pub returns : goal.returns
returns c =
    let has = has_level_called c.args.wad.now c.args.levels.now in
    sym (all_map _ has c.args.names.now ∙ c.loop-name.invariant ∙ all_none _ c.args.names.now c.loop-name.name-index c.loop-name-test.false)
