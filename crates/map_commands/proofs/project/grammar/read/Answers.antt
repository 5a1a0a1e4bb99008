use Rattle.std.proofs.Common.{◌≡◌, ◌∷◌}
use Rattle.map_commands.specs.ProjectCommands.{map_word}
use Rattle.map_commands.specs.Views.{reading}
use Rattle.map_words.specs.Words.{parts}
use Rattle.map_commands.proofs.ProjectWords.{spelled}
use Rattle.map_commands.proofs.project.grammar.read.Goals as goal

pub returns-in-Some-clause-ok : goal.returns-in-Some-clause-ok
returns-in-Some-clause-ok c =
    let words : parts c.args.line.now ≡ map_word c.in-Some.head ∷ (reading c.new.result).words =
    rw (c.in-Some.ensures.text, c.new.ensures.words) c.next_part.ensures.parts in
    spelled _ _ c.map_command.result words c.map_command.ensures.ok

pub returns-in-None-clause-ok : goal.returns-in-None-clause-ok
returns-in-None-clause-ok c = spelled _ _ c.edit.result c.next_part.ensures.parts c.edit.ensures.ok
