use Rattle.map_words.proofs.LineParts.{parts-some}
use Rattle.map_commands.proofs.unread.UnreadWords.is_empty.Goals as goal

pub returns-in-Some : goal.returns-in-Some
returns-in-Some c = rw c.in-Some.is (parts-some c.in-Some.field-0.now)
