use Rattle.std.proofs.Common.{◌≡◌, ◌∙◌, ap, sym, subst}
use Rattle.lump_records.specs.Names.{IsNamed, is_marker}
use Rattle.lump_records.specs.declared.records.Name8.{Name8}
use Rattle.map_tables.specs.Tables.{Tables}
use Rattle.map_dump.proofs.Written.{current_named}
use Rattle.map_dump.proofs.dump.write_selection.Goals as goal

pub write_name-requires : goal.write_name-requires
write_name-requires g c =
    let is : c.args.maps.now.tables.name ≡ c.name.result = sym (c.name.ensures ∙ ap (λ (t : Tables). t.name) c.current.ensures.tables) in
    subst (λ (n : Name8). IsNamed is_marker n) is (current_named c.args.maps.now c.len.ensures.well_formed)
