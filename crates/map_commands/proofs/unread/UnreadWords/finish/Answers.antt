use Rattle.std.proofs.Common.{rules}
use Rattle.map_words.proofs.LineParts.{parts-some}
use Rattle.map_commands.proofs.Readings.{left-over}
use Rattle.map_commands.proofs.unread.UnreadWords.finish.Goals as goal

pub returns-in-Some-default-clause-fault : goal.returns-in-Some-default-clause-fault
returns-in-Some-default-clause-fault c = search (rules, left-over, parts-some)
