use Rattle.std.proofs.Common.{subst, ℕ, List, None}
use Rattle.cli_requests.specs.Requests.{IsExamined}
use Rattle.cli_requests.proofs.Made.{examined_some}
use Rattle.cli_requests.proofs.examining.examine.Goals as goal

pub returns-in-Ok-clause-examined : goal.returns-in-Ok-clause-examined
returns-in-Ok-clause-examined g c =
    subst (λ (name : List ℕ). IsExamined name c.examine_read.result (g.W.Write.contents c.args.writer.now) (g.W.Write.contents c.examine_read.new.writer))
    c.as_bytes.ensures.value (examined_some _ c.examine_read.result None None _ _ c.examine_read.ensures.examined)
