use Rattle.std.proofs.Common.{◌∙◌, arith, sym}
use Rattle.std.proofs.lemmas.Bool.{true≢false}
use Rattle.std.proofs.lemmas.Str.Pattern.{split_parts}
use Rattle.clap.proofs.CutLemmas.{list_any-Lacks}
use Rattle.std.specs.Prelude.{None}
use Rattle.cli_words.proofs.picture_words.first_coordinate.Goals as goal

pub returns-in_default-clause-none : goal.returns-in_default-clause-none
returns-in_default-clause-none c = λ n rest has.
    true≢false (sym has.comma ∙ list_any-Lacks 44 c.args.text.now (split_parts 44 c.args.text.now None c.in_default.ensures.cases (omega arith)))
