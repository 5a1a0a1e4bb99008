use Rattle.std.proofs.Common.{sym, ◌∙◌}
use Rattle.map_tables.specs.Faults.{is_place}
use Rattle.wad_import.proofs.OnceLemmas.{number_none, number_some}
use Rattle.wad_import.proofs.vertices.number_at.Goals as goal

pub returns-in-Some : goal.returns-in-Some
returns-in-Some c = number_some (is_place c.args.vertex) c.args.vertices.now c.in-Some.n (sym c.first_at.ensures ∙ c.in-Some.is)

pub returns-in-None : goal.returns-in-None
returns-in-None c = number_none (is_place c.args.vertex) c.args.vertices.now c.args.vertex (sym c.first_at.ensures ∙ c.in-None.is)
