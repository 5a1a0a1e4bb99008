use Rattle.tree_choice.proofs.BoxLemmas.{place_wider}
use Rattle.tree_choice.proofs.losses.with_places.Goals as goal

pub returns-clause-first : goal.returns-clause-first
returns-clause-first c = place_wider c.with_place.result c.with_place-2.result c.args.first c.with_place-2.ensures.wider c.with_place.ensures.holds
