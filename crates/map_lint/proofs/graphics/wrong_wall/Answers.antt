use Rattle.std.proofs.Common.{◌≡◌, ◌∙◌, Option, Some, None, false, ap, sym, arith, get_or}
use Rattle.std.specs.Prelude.{find, option_map}
use Rattle.std.proofs.lemmas.List.{take_all}
use Rattle.lump_records.specs.declared.records.Name8.{Name8}
use Rattle.map_lint.specs.declared.shown.Shown.{Shown}
use Rattle.map_lint.specs.declared.wall.Part.TheVariants.{Upper}
use Rattle.map_lint.specs.declared.wall.Surface.TheVariants.{OfLine}
use Rattle.map_lint.specs.declared.wall.Wall.{Wall}
use Rattle.map_lint.specs.Graphics.{wall_breaks, wall_shown}
use Rattle.map_lint.specs.Walls.{line_walls}
use Rattle.map_lint.proofs.GraphicSteps.{first_found, none_more}
use Rattle.map_lint.proofs.graphics.wrong_wall.Goals as goal

pub returns-then-wall_breaks : goal.returns-then-wall_breaks
returns-then-wall_breaks c =
    let m = c.args.map.now.tables in
    let l = c.args.line.now in
    let d : Wall = record { is_left = false; part = Upper } in
    let w : Wall = get_or line_walls c.loop-wall.wall-index d in
    let shown : Name8 → Option Shown = λ n. Some (record { surface = OfLine w; name = n }) in
    ap shown c.name_on.ensures
    ∙ sym
    (ap (option_map (wall_shown m l))
    (first_found (wall_breaks c.args.textures.now.textures.now m c.args.rule l) line_walls c.loop-wall.wall-index d (omega (arith, c.loop-wall-test.true))
    c.loop-wall.invariant (sym c.wall_breaks.ensures.breaks ∙ c.if-wall_breaks.true)))

pub loop-wall-preserved : goal.loop-wall-preserved
loop-wall-preserved c =
    none_more (wall_breaks c.args.textures.now.textures.now c.args.map.now.tables c.args.rule c.args.line.now) line_walls c.loop-wall.wall-index _
    (omega (arith, c.loop-wall-test.true)) c.loop-wall.invariant (sym c.wall_breaks.ensures.breaks ∙ c.if-wall_breaks.false)

pub returns : goal.returns
returns c =
    let m = c.args.map.now.tables in
    let l = c.args.line.now in
    let breaks = wall_breaks c.args.textures.now.textures.now m c.args.rule l in
    let none : find breaks line_walls ≡ None = sym (ap (find breaks) (take_all c.loop-wall.wall-index line_walls c.loop-wall-test.false)) ∙ c.loop-wall.invariant in
    sym (ap (option_map (wall_shown m l)) none)
