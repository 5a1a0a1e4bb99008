-- The set of the vertices has as many elements as there are vertices exactly if no two are at the same place.
use Rattle.std.proofs.Common.{ℕ, Ok}
use Rattle.std.specs.HashSet as bag
use Rattle.std.proofs.lemmas.Iterator.{YieldsList-from_slice}
use Rattle.std.proofs.lemmas.Iterator.Adapters.{fact_from_collect}
use Rattle.std.proofs.lemmas.Iterator.Consumers.{YieldsList-from_copied}
use Rattle.std.proofs.lemmas.Map.Made.{hash_set_len-Decides}
use Rattle.map_tables.proofs.PlaceLemmas.{same, same_decides, same_equiv}
use Rattle.map_tables.proofs.form.are_apart.Goals as goal

pub returns-clause-apart : goal.returns-clause-apart
returns-clause-apart c =
    let given = YieldsList-from_copied (YieldsList-from_slice c.args.vertices.now cc) in
    let made : bag.IsFromIterResult same c.args.vertices.now c.in_ok-places.places =
    fact_from_collect {E = ℕ} (bag.IsFromIterResult same)
    (Ok c.in_ok-places.places) c.in_ok-places.ensures.ran given in
    rw c.len.ensures.len (hash_set_len-Decides same_decides same_equiv c.args.vertices.now c.in_ok-places.places made)
