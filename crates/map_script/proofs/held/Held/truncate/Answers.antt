use Rattle.std.proofs.Common.{◌∙◌, ap, drop}
use Rattle.std.proofs.lemmas.List.{drop-drop}
use Rattle.map_script.proofs.held.Held.truncate.Goals as goal

pub loop-name-preserved : goal.loop-name-preserved
loop-name-preserved c = c.pop.ensures ∙ ap (drop 1) c.loop-name.invariant ∙ drop-drop 1 c.loop-name._name c.args.self.now
