use Rattle.std.proofs.Common.{rules, ap, sym, arith}
use Rattle.std.specs.Prelude.{codes}
use Rattle.std.proofs.lemmas.Slice.Eq.{text_from_reads}
use Rattle.map_commands.specs.Grammar.{head_of}
use Rattle.map_commands.proofs.grammar.head_in.Goals as goal

pub returns-in-vertex-clause-value : goal.returns-in-vertex-clause-value
returns-in-vertex-clause-value c =
    sym (ap head_of (text_from_reads c.args.word.now (codes "vertex") (omega (arith, c.in-vertex.len_at_least, c.in-vertex.len_below)) (search rules, (search rules, (search rules, (search rules, (search rules, (search rules, tt))))))))

pub returns-in-vertex-clause-text : goal.returns-in-vertex-clause-text
returns-in-vertex-clause-text c =
    sym (text_from_reads c.args.word.now (codes "vertex") (omega (arith, c.in-vertex.len_at_least, c.in-vertex.len_below)) (search rules, (search rules, (search rules, (search rules, (search rules, (search rules, tt)))))))

pub returns-in-sector-clause-value : goal.returns-in-sector-clause-value
returns-in-sector-clause-value c =
    sym (ap head_of (text_from_reads c.args.word.now (codes "sector") (omega (arith, c.in-sector.len_at_least, c.in-sector.len_below)) (search rules, (search rules, (search rules, (search rules, (search rules, (search rules, tt))))))))

pub returns-in-sector-clause-text : goal.returns-in-sector-clause-text
returns-in-sector-clause-text c =
    sym (text_from_reads c.args.word.now (codes "sector") (omega (arith, c.in-sector.len_at_least, c.in-sector.len_below)) (search rules, (search rules, (search rules, (search rules, (search rules, (search rules, tt)))))))

pub returns-in-115-2-clause-value : goal.returns-in-115-2-clause-value
returns-in-115-2-clause-value c =
    sym (ap head_of (text_from_reads c.args.word.now (codes "set-side") (omega (arith, c.in-115-2.len_at_least, c.in-115-2.len_below)) (search rules, (search rules, (search rules, (search rules, (search rules, (search rules, (search rules, (search rules, tt))))))))))

pub returns-in-115-2-clause-text : goal.returns-in-115-2-clause-text
returns-in-115-2-clause-text c =
    sym (text_from_reads c.args.word.now (codes "set-side") (omega (arith, c.in-115-2.len_at_least, c.in-115-2.len_below)) (search rules, (search rules, (search rules, (search rules, (search rules, (search rules, (search rules, (search rules, tt)))))))))

pub returns-in-115-3-clause-value : goal.returns-in-115-3-clause-value
returns-in-115-3-clause-value c =
    sym (ap head_of (text_from_reads c.args.word.now (codes "set-line") (omega (arith, c.in-115-3.len_at_least, c.in-115-3.len_below)) (search rules, (search rules, (search rules, (search rules, (search rules, (search rules, (search rules, (search rules, tt))))))))))

pub returns-in-115-3-clause-text : goal.returns-in-115-3-clause-text
returns-in-115-3-clause-text c =
    sym (text_from_reads c.args.word.now (codes "set-line") (omega (arith, c.in-115-3.len_at_least, c.in-115-3.len_below)) (search rules, (search rules, (search rules, (search rules, (search rules, (search rules, (search rules, (search rules, tt)))))))))

pub returns-in-115-4-clause-value : goal.returns-in-115-4-clause-value
returns-in-115-4-clause-value c =
    sym (ap head_of (text_from_reads c.args.word.now (codes "set-thing") (omega (arith, c.in-115-4.len_at_least, c.in-115-4.len_below)) (search rules, (search rules, (search rules, (search rules, (search rules, (search rules, (search rules, (search rules, (search rules, tt)))))))))))

pub returns-in-115-4-clause-text : goal.returns-in-115-4-clause-text
returns-in-115-4-clause-text c =
    sym (text_from_reads c.args.word.now (codes "set-thing") (omega (arith, c.in-115-4.len_at_least, c.in-115-4.len_below)) (search rules, (search rules, (search rules, (search rules, (search rules, (search rules, (search rules, (search rules, (search rules, tt))))))))))

pub returns-in-115-clause-value : goal.returns-in-115-clause-value
returns-in-115-clause-value c =
    sym (ap head_of (text_from_reads c.args.word.now (codes "set-sector") (omega (arith, c.in-115.len_at_least, c.in-115.len_below)) (search rules, (search rules, (search rules, (search rules, (search rules, (search rules, (search rules, (search rules, (search rules, (search rules, tt))))))))))))

pub returns-in-115-clause-text : goal.returns-in-115-clause-text
returns-in-115-clause-text c =
    sym (text_from_reads c.args.word.now (codes "set-sector") (omega (arith, c.in-115.len_at_least, c.in-115.len_below)) (search rules, (search rules, (search rules, (search rules, (search rules, (search rules, (search rules, (search rules, (search rules, (search rules, tt)))))))))))

pub returns-in-109-clause-value : goal.returns-in-109-clause-value
returns-in-109-clause-value c =
    sym (ap head_of (text_from_reads c.args.word.now (codes "move-vertex") (omega (arith, c.in-109.len_at_least, c.in-109.len_below))
    (search rules, (search rules, (search rules, (search rules, (search rules, (search rules, (search rules, (search rules, (search rules, (search rules, (search rules, tt)))))))))))))

pub returns-in-109-clause-text : goal.returns-in-109-clause-text
returns-in-109-clause-text c =
    sym (text_from_reads c.args.word.now (codes "move-vertex") (omega (arith, c.in-109.len_at_least, c.in-109.len_below)) (search rules, (search rules, (search rules, (search rules, (search rules, (search rules, (search rules, (search rules, (search rules, (search rules, (search rules, tt))))))))))))
