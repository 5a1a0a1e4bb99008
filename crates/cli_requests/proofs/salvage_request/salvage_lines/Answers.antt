use Rattle.std.proofs.Common.{ℕ, List, inr, subst}
use Rattle.cli_requests.specs.Salvaging.{IsSalvagedFrom}
use Rattle.cli_requests.proofs.Salvaging.{unread}
use Rattle.cli_requests.proofs.salvage_request.salvage_lines.Goals as goal

pub returns-in-Err-clause-salvaged : goal.returns-in-Err-clause-salvaged
returns-in-Err-clause-salvaged g c = unread g.D.Disk c.args.disk _ c.in-Err.error (g.W.Write.contents c.args.writer.now) c.in-Err.ensures.refused c.in-Err.ensures.count

pub returns-in-Err-clause-only_read : goal.returns-in-Err-clause-only_read
returns-in-Err-clause-only_read g c =
    let run = c.in-Err.ensures.reads in record { no_other = run.no_other; still = run.still; any_moment = run.any_moment }

pub returns-clause-salvaged : goal.returns-clause-salvaged
returns-clause-salvaged g c =
    inr (
      c.in-Ok.bytes.items,
      c.in-Ok.ensures.told,
      subst (λ (file : List ℕ). IsSalvagedFrom file c.write_salvaged-how.result (g.W.Write.contents c.args.writer.now) (g.W.Write.contents c.write_salvaged-how.new.writer))
          c.deref.ensures.value c.write_salvaged-how.ensures.salvaged,
    )

pub returns-clause-only_read : goal.returns-clause-only_read
returns-clause-only_read g c =
    let run = c.in-Ok.ensures.reads in record { no_other = run.no_other; still = run.still; any_moment = run.any_moment }
