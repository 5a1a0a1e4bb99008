use Rattle.std.proofs.Common.{◌≡◌, ◌∙◌, Some, ap, pos}
use Rattle.clap.specs.declared.builder.value_parser.ValueParser.TheVariants as vp
use Rattle.cli_words.proofs.Built.{parser_set}
use Rattle.cli_words.proofs.app.journal.Goals as goal

pub returns : goal.returns
returns c =
    let given = c.value_parser-2.ensures.given in
    let start = c.new.ensures.start in
    let end = c.new.ensures.end in
    let made : c.range.result ≡ vp.Signed (pos 512) (pos 1048576) = rw (c.value_parser.ensures, start, end) at c.range.ensures in
    parser_set c.option.result c.value_parser-2.result _ (vp.Signed (pos 512) (pos 1048576)) c.option.ensures c.value_parser-2.ensures.others
    (given.1 ∙ ap Some (given.2 ∙ made))
