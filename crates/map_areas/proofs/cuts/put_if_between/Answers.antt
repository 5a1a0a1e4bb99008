use Rattle.std.proofs.Common.{sym, ◌∙◌}
use Rattle.std.proofs.lemmas.Result.{on_ok_weaker}
use Rattle.map_areas.proofs.Placing.{put_if, put_unless}
use Rattle.map_areas.proofs.cuts.put_if_between.Goals as goal

pub returns-then-not-is_between-clause-those : goal.returns-then-not-is_between-clause-those
returns-then-not-is_between-clause-those c = λ p.
    put_unless c.args.line.now c.args.places.now.items c.args.place p (sym c.is_between.ensures ∙ c.if-not-is_between.true)

pub returns-clause-those : goal.returns-clause-those
returns-clause-those c =
    on_ok_weaker c.put_along.result
    (λ h p. put_if c.args.line.now c.args.places.now.items c.args.place p _ (sym c.is_between.ensures ∙ c.if-not-is_between.false) (h p))
    c.put_along.ensures.those
