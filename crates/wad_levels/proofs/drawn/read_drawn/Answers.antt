use Rattle.std.proofs.Common.{◌∙◌, sym, inr, None}
use Rattle.wad_levels.specs.Drawn.{drawn_view}
use Rattle.wad_levels.proofs.DrawnLemmas.{by_lists, by_reading}
use Rattle.wad_levels.proofs.drawn.read_drawn.Goals as goal

pub returns-in-Err : goal.returns-in-Err
returns-in-Err c = by_reading c.args.wad.now c.args.level c.in-Err.hindrance c.in-Err.ensures

pub returns-in-Some : goal.returns-in-Some
returns-in-Some c =
    inr (by_lists c.args.wad.now c.args.level (drawn_view c.in-Ok.drawn) _ c.in-Ok.ensures.0 c.in-Ok.ensures.1
    (sym c.lists_hindrance.ensures ∙ c.in-Some.is))

pub returns-in-None : goal.returns-in-None
returns-in-None c = (
  by_lists c.args.wad.now c.args.level (drawn_view c.in-Ok.drawn) None c.in-Ok.ensures.0 c.in-Ok.ensures.1
      (sym c.lists_hindrance.ensures ∙ c.in-None.is),
  c.in-Ok.ensures.1,
)
