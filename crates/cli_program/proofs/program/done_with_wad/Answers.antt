use Rattle.std.proofs.Common.{List, ℕ, subst}
use Rattle.std.proofs.KnownBytes.{Keeps-refl}
use Rattle.cli_requests.specs.Requests.{IsExamined}
use Rattle.cli_program.proofs.program.done_with_wad.Goals as goal

pub returns-in-Inspect-clause-performed : goal.returns-in-Inspect-clause-performed
returns-in-Inspect-clause-performed g c = λ reader.
    rw c.in-Inspect.is (
      subst (λ (name : List ℕ). IsExamined name c.examine.result (g.W.Write.contents c.args.writer.now) (g.W.Write.contents c.examine.new.writer))
          c.as_str-in-Inspect.ensures.value c.examine.ensures.examined,
      Keeps-refl reader,
    )
