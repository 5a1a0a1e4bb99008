use Rattle.map_picture.proofs.PlacedApart.{page_apart, page_beside, page_counted, page_seen}
use Rattle.map_picture.proofs.laws.no_two_numbers_meet.Goals as goal

pub returns-clause-apart : goal.returns-clause-apart
returns-clause-apart c = page_apart

pub returns-clause-seen : goal.returns-clause-seen
returns-clause-seen c = page_seen

pub returns-clause-beside : goal.returns-clause-beside
returns-clause-beside c = page_beside

pub returns-clause-counted : goal.returns-clause-counted
returns-clause-counted c = page_counted
