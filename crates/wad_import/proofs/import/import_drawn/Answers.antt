use Rattle.std.proofs.Common.{◌∙◌, sym}
use Rattle.wad_levels.specs.Drawn.{drawn_view}
use Rattle.wad_import.proofs.FineLemmas.{fine, map_named}
use Rattle.wad_import.proofs.import.import_drawn.Goals as goal

pub named_maps-maps-requires : goal.named_maps-maps-requires
named_maps-maps-requires c = map_named c.args.name (drawn_view c.args.drawn.now) (sym c.import_refusal.ensures ∙ c.in_default.is)

pub fill-requires-clause-fine : goal.fill-requires-clause-fine
fill-requires-clause-fine c = fine c.args.name (drawn_view c.args.drawn.now) (sym c.import_refusal.ensures ∙ c.in_default.is)
