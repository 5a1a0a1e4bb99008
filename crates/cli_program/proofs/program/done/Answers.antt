use Rattle.std.proofs.Common.{List, ℕ, ap, map, string_bytes, subst}
use Rattle.std.proofs.KnownBytes.{Keeps-refl}
use Rattle.cli_rebuild.specs.Rebuilding.{IsRebuiltAt}
use Rattle.cli_program.proofs.Sources.{drawn_into_as, tried_as, tried_onto_as}
use Rattle.cli_program.proofs.SourceDone.{noted_with, performed_with, quiet_with}
use Rattle.cli_program.proofs.program.done.Goals as goal

pub returns-in-Draw-clause-performed : goal.returns-in-Draw-clause-performed
returns-in-Draw-clause-performed g c =
    rw c.in-Draw.is (drawn_into_as _ _ _ _ _ _ _ _ _ c.script_path-script.ensures c.draw_file.ensures.drawn)

pub returns-in-Some-clause-performed : goal.returns-in-Some-clause-performed
returns-in-Some-clause-performed g c =
    rw (c.in-TryScript.is, c.in-Some.is) (tried_onto_as _ _ _ _ _ _ _ _ c.as_str-path-in-TryScript.ensures.value c.try_onto.ensures.tried)

pub returns-in-None-clause-performed : goal.returns-in-None-clause-performed
returns-in-None-clause-performed g c =
    rw (c.in-TryScript.is, c.in-None.is) (tried_as _ _ _ _ _ _ _ _ c.as_str-path-in-TryScript.ensures.value c.try_file.ensures.tried)

pub returns-in-Rebuild-clause-performed : goal.returns-in-Rebuild-clause-performed
returns-in-Rebuild-clause-performed g c =
    let u = g.W.Write.contents c.args.writer.now in
    let w = g.W.Write.contents c.rebuild.new.writer in
    let d = g.F.Write.contents c.args.faults.now in
    let x = g.F.Write.contents c.rebuild.new.errors in
    rw c.in-Rebuild.is (
      (
        d,
        x,
        subst (λ (names : List (List ℕ)). IsRebuiltAt names c.rebuild.result u w d x) (ap (map string_bytes) c.deref.ensures.value) c.rebuild.ensures.rebuilt,
      ),
      Keeps-refl (g.R.Read.remaining c.args.reader.now),
    )

pub returns-in_default-clause-performed : goal.returns-in_default-clause-performed
returns-in_default-clause-performed g c =
    performed_with _ c.args.request.now c.done_with_source.result (g.R.Read.remaining c.args.reader.now) (g.R.Read.remaining c.done_with_source.new.input) (g.W.Write.contents c.args.writer.now)
    (g.W.Write.contents c.done_with_source.new.writer) (g.F.Write.contents c.args.faults.now) (g.F.Write.contents c.done_with_source.new.faults)
    c.done_with_source.ensures.done

pub returns-in_default-clause-quiet : goal.returns-in_default-clause-quiet
returns-in_default-clause-quiet g c = λ is.
    quiet_with c.args.request.now c.done_with_source.result (g.R.Read.remaining c.args.reader.now) (g.R.Read.remaining c.done_with_source.new.input) (g.W.Write.contents c.args.writer.now) (g.W.Write.contents c.done_with_source.new.writer)
    (g.F.Write.contents c.args.faults.now) (g.F.Write.contents c.done_with_source.new.faults) c.done_with_source.ensures.done is

pub returns-in_default-clause-told : goal.returns-in_default-clause-told
returns-in_default-clause-told g c =
    noted_with c.args.request.now c.done_with_source.result (g.R.Read.remaining c.args.reader.now) (g.R.Read.remaining c.done_with_source.new.input) (g.W.Write.contents c.args.writer.now) (g.W.Write.contents c.done_with_source.new.writer)
    (g.F.Write.contents c.args.faults.now) (g.F.Write.contents c.done_with_source.new.faults) c.done_with_source.ensures.done
