-- What the builders make of the program's command line.
use Rattle.std.proofs.Common.{◌≡◌, ◌∙◌, ◌||◌, Some, ap, ap₂}
use Rattle.clap.specs.Words.{AddsArg, AddsSubcommand, App, Rule, rule_of, with_rule, with_subcommand}
use Rattle.clap.specs.declared.builder.arg.Arg.{Arg}
use Rattle.clap.specs.declared.builder.command.Command.{Command}
use Rattle.clap.specs.declared.builder.value_parser.ValueParser.{ValueParser}
use Rattle.cli_words.specs.App.{IsArg, IsCommand}

pub arg_added : (old new : Command) (x : Arg) (a : App) (r : Rule) → AddsArg old x new → IsCommand old a → IsArg x r → IsCommand new (with_rule a r)
arg_added old new x a r adds before arg = record {
  app = adds.shape arg.local ∙ ap₂ with_rule before.app arg.rule;
  local = adds.globals ∙ ap₂ (λ p q. p || q) before.local arg.local;
}

pub sub_added : (old sub new : Command) (a s : App) → AddsSubcommand old sub new → IsCommand old a → IsCommand sub s → IsCommand new (with_subcommand a s.top)
sub_added old sub new a s adds before under = record {
  app = adds.shape under.local ∙ ap₂ with_subcommand before.app (ap (λ (p : App). p.top) under.app);
  local = adds.globals ∙ ap₂ (λ p q. p || q) before.local under.local;
}

-- an argument with this parser
pub parser_set : (c d : Arg) (r : Rule) (q : ValueParser) → IsArg c r → d ≡ record c { value_parser = d.value_parser }
    → d.value_parser ≡ Some q → IsArg d (record r { parser = Some q })
parser_set c d r q before others given =
    let rule : rule_of d ≡ record r { parser = Some q } =
    ap rule_of others ∙ ap₂ (λ (x : Rule) p. record x { parser = p }) before.rule given in
    record { rule = rule; local = ap (λ (x : Arg). x.global) others ∙ before.local }
