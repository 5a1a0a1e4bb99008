use Rattle.std.proofs.Common.{◌∙◌, sym, ap}
use Rattle.wad_rebuild.specs.Rebuilt.{has_level}
use Rattle.wad_rebuild.proofs.WholeLemmas.{all_here, all_map, all_none}
use Rattle.wad_rebuild.proofs.levels.have_levels.Goals as goal

pub returns-then-not-is_level_name : goal.returns-then-not-is_level_name
returns-then-not-is_level_name c =
    let wad = c.args.wad.now in
    let fails = ap (has_level wad) (sym c.as_bytes.ensures.value) ∙ sym c.if-not-is_level_name.ensures in
    sym (all_map _ (has_level wad) c.args.names.now ∙ c.loop-name.invariant
    ∙ all_here _ c.args.names.now c.loop-name.name-index c.name-item.result c.loop-name-test.true (sym c.name-item.is) fails)

pub returns : goal.returns
returns c =
    let wad = c.args.wad.now in
    sym (all_map _ (has_level wad) c.args.names.now ∙ c.loop-name.invariant
    ∙ all_none _ c.args.names.now c.loop-name.name-index c.loop-name-test.false)
