use Rattle.std.proofs.Common.{◌≡◌, ◌∙◌, ap, arith, length, sym}
use Rattle.map_script.proofs.LineTexts.{length_lines}
use Rattle.map_script.proofs.script.ScriptLines.line.Goals as goal

pub line_in-requires-clause-place : goal.line_in-requires-clause-place
line_in-requires-clause-place c =
    let same : length c.self.inside.ends.items ≡ length c.args.self.now =
    sym (length_lines c.self.inside.texts.items 0 c.self.inside.ends.items) ∙ ap length c.self.view_is in
    omega (arith, c.requires, same, ap length c.deref-2.ensures.value)
