use Rattle.std.proofs.Common.{[], refl, arith}
use Rattle.std.proofs.lemmas.Bool.{false≢true}
use Rattle.store_salvage.proofs.Walking.{no_gate}
use Rattle.store_salvage.proofs.replaying.read_journal.Goals as goal

pub returns-clause-replayed : goal.returns-clause-replayed
returns-clause-replayed c = record {
  kept = [];
  lost = [];
  leads = refl;
  refused = tt;
  kept_count = refl;
  lost_count = refl;
  kept_to = omega arith;
  closed = λ e. absurd (false≢true e);
  broken = λ e. no_gate c.args.area c.min-end.result c.args.file.now (omega (arith, c.min-end.ensures)) (omega (arith, c.if-base-end.false));
}
