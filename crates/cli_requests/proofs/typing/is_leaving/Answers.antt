use Rattle.std.proofs.Common.{◌∙◌, ap}
use Rattle.cli_requests.specs.Typing.{quits}
use Rattle.cli_requests.proofs.TypedLines.{quits-front}
use Rattle.cli_requests.proofs.typing.is_leaving.Goals as goal

pub returns : goal.returns
returns c = λ part begun. c.quits.ensures ∙ ap quits (c.as_slice.ensures.bytes ∙ begun.front) ∙ quits-front part
