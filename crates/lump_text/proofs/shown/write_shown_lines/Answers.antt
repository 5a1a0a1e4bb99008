use Rattle.std.proofs.Common.{◌∙◌, ◌++◌, ap, append_assoc, arith, subst, sym}
use Rattle.std.proofs.KnownBytes.{Appends-trans}
use Rattle.lump_text.specs.Shown.{shown_line, shown_lines}
use Rattle.std.specs.Io.KnownBytes.{Appends}
use Rattle.lump_text.proofs.Lines.{told_all}
use Rattle.lump_text.proofs.shown.write_shown_lines.Goals as goal

pub loop-rest-preserved : goal.loop-rest-preserved
loop-rest-preserved g c =
    let told = c.loop-rest.invariant.0 in
    let line = shown_line c.next_line.result.0.now in (
      told ++ line,
      Appends-trans (g.W.Write.contents c.args.writer.now) (g.W.Write.contents c.loop-rest.writer) (g.W.Write.contents c.write_line.new.writer) told line
          c.loop-rest.invariant.1 c.in-Ok.ensures,
      append_assoc told line (shown_lines c.next_line.result.1.now)
          ∙ ap (λ rest. told ++ rest) (sym c.next_line.ensures.lines) ∙ c.loop-rest.invariant.2,
    )

pub returns : goal.returns
returns g c =
    subst (Appends (g.W.Write.contents c.args.writer.now) (g.W.Write.contents c.loop-rest.writer))
    (told_all c.loop-rest.invariant.0 c.loop-rest.rest.now (shown_lines c.args.text.now) (grind arith) c.loop-rest.invariant.2)
    c.loop-rest.invariant.1
