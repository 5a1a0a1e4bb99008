-- What each line names exists, since the tables are well-formed.
use Rattle.std.proofs.Common.{◌≡◌, ◌∙◌, sym, ap, subst, length}
use Rattle.std.proofs.lemmas.List.{length-map}
use Rattle.map_tables.specs.WellFormed.{WellFormed}
use Rattle.map_tables.specs.DraftFields.{drafted}
use Rattle.map_tables.specs.Keyed.{side_of}
use Rattle.map_tables.proofs.KeyedLemmas.{found_from}
use Rattle.map_tables.proofs.map.draft.Draft.to_map.Goals as goal

pub keyed_lines-requires-clause-found : goal.keyed_lines-requires-clause-found
keyed_lines-requires-clause-found c = λ k d h.
    let kept : WellFormed (drafted c.self.inside) = subst WellFormed (sym c.self.view_is) c.requires in
    let sides = c.in_ok-sides.ensures.sides ∙ c.deref-3.ensures.value in
    let many : length c.self.inside.sides.items ≡ length c.in_ok-sides.sides.items =
    sym (ap length sides) ∙ length-map c.in_ok-sides.sides.items (side_of c.in_ok-sectors.sectors.keys) in
    let within = rw c.deref-4.ensures.value at h in
    rw (c.in_ok-vertices.ensures.items, c.deref.ensures.value, c.deref-4.ensures.value)
    (found_from c.self.inside.vertices.items c.self.inside.sides.items _ _ many (kept.ends k d within) (kept.line_sides k d within))
