use Rattle.std.proofs.Common.{rules, ap, sym, arith}
use Rattle.std.specs.Prelude.{codes}
use Rattle.std.proofs.lemmas.Slice.Eq.{text_from_reads}
use Rattle.map_commands.specs.ProjectGrammar.{map_head_of}
use Rattle.map_commands.proofs.project.grammar.map_head_in.Goals as goal

pub returns-in-100-clause-value : goal.returns-in-100-clause-value
returns-in-100-clause-value c =
    sym (ap map_head_of (text_from_reads c.args.word.now (codes "drop-map") (omega (arith, c.in-100.len_at_least, c.in-100.len_below)) (search rules, (search rules, (search rules, (search rules, (search rules, (search rules, (search rules, (search rules, tt))))))))))

pub returns-in-100-clause-text : goal.returns-in-100-clause-text
returns-in-100-clause-text c =
    sym (text_from_reads c.args.word.now (codes "drop-map") (omega (arith, c.in-100.len_at_least, c.in-100.len_below)) (search rules, (search rules, (search rules, (search rules, (search rules, (search rules, (search rules, (search rules, tt)))))))))
