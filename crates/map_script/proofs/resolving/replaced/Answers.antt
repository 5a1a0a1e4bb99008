use Rattle.std.proofs.Common.{◌≡◌, [], rules}
use Rattle.map_script.specs.Known.{scope_of}
use Rattle.map_script.specs.Words.{text_words}
use Rattle.map_script.proofs.Replacing.{replaced_all}
use Rattle.map_script.proofs.resolving.replaced.Goals as goal

pub returns-clause-ok : goal.returns-clause-ok
returns-clause-ok c =
    let rest = c.loop-word.rest.now in
    let none : text_words rest ≡ [] = search rules in
    replaced_all (scope_of c.args.names.now) c.args.map.now.tables c.loop-word.text.items rest c.args.command.now c.without_first.result.items
    none c.loop-word.invariant c.without_first.ensures
