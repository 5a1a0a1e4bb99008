use Rattle.std.proofs.Common.{◌≡◌, ◌∙◌, ap, length, rules, sym}
use Rattle.map_script.proofs.LineTexts.{length_lines}
use Rattle.map_script.proofs.script.ScriptLines.len.Goals as goal

pub returns-clause-count : goal.returns-clause-count
returns-clause-count c =
    let same : c.len.result ≡ length c.self.inside.ends.items = search rules in
    same ∙ sym (length_lines c.self.inside.texts.items 0 c.self.inside.ends.items) ∙ ap length c.self.view_is
