use Rattle.std.proofs.Common.{inl, sym, ◌∙◌}
use Rattle.map_tables.specs.Projects.{project_of}
use Rattle.store_project.proofs.project.group.copy_of.Goals as goal

-- a body is that of one project alone
pub returns-in-Ok-decode_body : goal.returns-in-Ok-decode_body
returns-in-Ok-decode_body c =
    sym (c.in-Ok-decode_body.ensures.project.only (project_of c.args.maps.now) c.in-Ok.ensures.well_formed (inl (sym (c.deref.ensures.value ∙ c.in-Ok.ensures.bytes))))
