use Rattle.std.proofs.Common.{◌∙◌, List, ap, map}
use Rattle.run_canvas.specs.OriginFields.{item_origins}
use Rattle.run_canvas.proofs.Origins.{map-remove}
use Rattle.run_canvas.proofs.origin_draft.remove_map.Goals as goal

pub returns-then-number-len : goal.returns-then-number-len
returns-then-number-len c = ap (map item_origins) c.remove.ensures.items ∙ map-remove item_origins c.args.origins.now.items c.args.number
