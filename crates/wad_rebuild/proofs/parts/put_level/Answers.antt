use Rattle.wad_rebuild.proofs.parts.put_level.Goals as goal

pub returns-in-Made : goal.returns-in-Made
returns-in-Made c = rw c.in-Made.is c.put_made.ensures
