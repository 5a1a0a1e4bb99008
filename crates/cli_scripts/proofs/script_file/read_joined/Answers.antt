use Rattle.std.proofs.Common.{inl, refl}
use Rattle.std.proofs.KnownBytes.{Keeps-refl}
use Rattle.cli_scripts.proofs.script_file.read_joined.Goals as goal

pub returns-in-Err-clause-refused : goal.returns-in-Err-clause-refused
returns-in-Err-clause-refused g c = inl (c.in-Err.refusal, refl, c.in-Err.ensures.refused, Keeps-refl (g.F.Write.contents c.args.faults.now))
