use Rattle.std.proofs.Common.{◌≡◌, ◌∙◌, length}
use Rattle.std.proofs.lemmas.List.{with_items_is}
use Rattle.map_picture.proofs.longest.all_longest.Goals as goal

pub returns-clause-lines : goal.returns-clause-lines
returns-clause-lines c =
    let whole : length c.find_longest.new.longest ≡ c.in_ok-longest.longest.len = c.find_longest.auto.longest ∙ c.deref_mut.ensures.len in
    rw (with_items_is c.in_ok-longest.longest c.find_longest.new.longest whole) c.find_longest.ensures
