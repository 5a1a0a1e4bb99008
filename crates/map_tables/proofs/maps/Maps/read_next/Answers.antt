-- The map whose part comes first is appended to the others, or none can be.
use Rattle.std.proofs.Common.{◌∙◌, refl, sym, ap, arith}
use Rattle.map_tables.specs.Projects.{project_of, has_map}
use Rattle.map_tables.proofs.FramedLemmas.{refused_by}
use Rattle.map_tables.proofs.PartsLemmas.{none_begins, name_is_taken, none_fits, reads_next}
use Rattle.map_tables.proofs.maps.Maps.read_next.Goals as goal

pub returns-in_err-map-clause-refused : goal.returns-in_err-map-clause-refused
returns-in_err-map-clause-refused c =
    refused_by (none_begins (project_of c.args.self.now).maps c.args.bytes.now) c.from_residual.result c.in_err-map.field-0.0 c.from_residual.ensures.1 c.in_err-map.ensures.refused

pub returns-then-has_map-clause-refused : goal.returns-then-has_map-clause-refused
returns-then-has_map-clause-refused c =
    let q = project_of c.args.self.now in
    (refl, name_is_taken q c.in_ok-map.map.tables c.args.bytes.now c.in_ok-map.ensures.map (ap (has_map q) (sym c.name.ensures) ∙ sym c.has_map.ensures ∙ c.if-has_map.true))

pub returns-then-len-eq-MAP_LIMIT-clause-refused : goal.returns-then-len-eq-MAP_LIMIT-clause-refused
returns-then-len-eq-MAP_LIMIT-clause-refused c = (refl, none_fits (project_of c.args.self.now) c.args.bytes.now (omega (arith, c.len.ensures.value)))

pub returns-clause-next : goal.returns-clause-next
returns-clause-next c =
    rw c.part_len-len.ensures.value (reads_next (project_of c.args.self.now)
    (project_of c.push.new.self) c.in_ok-map.map.tables c.args.bytes.now c.in_ok-map.ensures.map c.push.ensures.project c.push.ensures.well_formed)
