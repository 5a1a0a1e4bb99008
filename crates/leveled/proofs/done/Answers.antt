use Rattle.std.proofs.Common.{inl}
use Rattle.leveled.proofs.done.Goals as goal

pub returns-clause-done : goal.returns-clause-done
returns-clause-done g c = inl (c.perform.ensures.performed, c.perform.ensures.quiet, c.perform.ensures.told)
