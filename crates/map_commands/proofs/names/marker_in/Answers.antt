use Rattle.std.proofs.Common.{sym, ◌∙◌}
use Rattle.map_commands.proofs.Padding.{found-marker}
use Rattle.map_commands.proofs.names.marker_in.Goals as goal

pub returns-then-is_marker-clause-found : goal.returns-then-is_marker-clause-found
returns-then-is_marker-clause-found c =
    found-marker c.args.word.now c.from_text.result c.from_text.ensures.name (sym c.is_marker.ensures ∙ c.if-is_marker.true)
