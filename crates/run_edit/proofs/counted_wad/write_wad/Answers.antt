use Rattle.run_edit.proofs.counted_wad.write_wad.Goals as goal

pub returns-in-Ok-clause-written : goal.returns-in-Ok-clause-written
returns-in-Ok-clause-written g c = (c.in-Ok.ensures.written.0, c.in-Ok.ensures.written.1, c.in-Ok.ensures.written.3)
