-- The sides of a sector are those with its key.
use Rattle.std.proofs.Common.{◌∙◌, sym, ap}
use Rattle.std.specs.List.{list_any}
use Rattle.map_tables.specs.Faults.{in_sector}
use Rattle.map_tables.proofs.KeyedLemmas.{sides_in}
use Rattle.map_tables.proofs.map.Map.has_side_in.Goals as goal

pub returns : goal.returns
returns c =
    c.has_side_with.ensures
    ∙ sym (sides_in c.self.inside.sectors.keys c.args.n c.key_at.result c.self.inside.sides.items c.key_at.ensures.only)
    ∙ ap (λ v. list_any (in_sector c.args.n) v.tables.sides) c.self.view_is
