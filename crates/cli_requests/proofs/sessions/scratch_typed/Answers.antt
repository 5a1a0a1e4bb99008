use Rattle.std.proofs.Common.{subst}
use Rattle.map_tables.specs.Projects.{ProjectMaps}
use Rattle.run_edit.specs.Answers.{RepliesInMemory}
use Rattle.cli_requests.specs.Typing.{Typed, longest_body}
use Rattle.cli_requests.proofs.sessions.scratch_typed.Goals as goal

pub returns-clause-typed : goal.returns-clause-typed
returns-clause-typed g c =
    let ran = c.run_typed.ensures in (
      c.run_typed.result,
      c.run_typed.new.partner,
      ran.0,
      c.typed_end.ensures.ended,
      subst (λ (p : ProjectMaps). Typed (RepliesInMemory longest_body) p c.run_typed.new.partner ran.0 c.run_typed.result (g.R.Read.remaining c.args.reader.now)
          (g.R.Read.remaining c.run_typed.new.reader) (g.W.Write.contents c.args.writer.now) (g.W.Write.contents c.run_typed.new.writer))
          c.new-drawing.ensures ran.1,
    )
