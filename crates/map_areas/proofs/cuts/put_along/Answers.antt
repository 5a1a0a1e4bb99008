use Rattle.std.proofs.Common.{◌≡◌, true, All, List, sym, ap, ◌∙◌, subst, take}
use Rattle.std.specs.List.{list_any, slice_get}
use Rattle.lump_records.specs.declared.records.Vertex.{Vertex}
use Rattle.map_plane.specs.Meeting.{is_at}
use Rattle.map_areas.proofs.Further.{between_far, first_is}
use Rattle.map_areas.proofs.Placing.{found_at, not_found, one_put, one_there, put_order}
use Rattle.map_areas.specs.Cuts.{are_cuts}
use Rattle.map_areas.specs.Stops.{comes_first}
use Rattle.map_areas.proofs.cuts.put_along.Goals as goal

pub returns-then-is_place_at-clause-those : goal.returns-then-is_place_at-clause-those
returns-then-is_place_at-clause-those c =
    let n = c.count_before-at.result in
    let x = c.args.place in
    λ p. one_there c.args.places.now.items n x p
    (ap (λ (vs : List Vertex). slice_get vs n) (sym c.deref-2.ensures.value)
    ∙ found_at (slice_get c.deref-2.result.now n) x (sym c.is_place_at.ensures ∙ c.if-is_place_at.true))

pub returns-clause-those : goal.returns-clause-those
returns-clause-those c = λ p.
    ap (list_any (is_at p)) c.in_ok-insert.ensures.items ∙ one_put c.args.places.now.items c.count_before-at.result c.args.place p

pub returns-clause-order : goal.returns-clause-order
returns-clause-order c = λ h.
    let l = c.args.line.now in
    let x = c.args.place in
    let n = c.count_before-at.result in
    let ps = c.args.places.now.items in
    subst (λ (vs : List Vertex). are_cuts l l.from vs ≡ true) (sym c.in_ok-insert.ensures.items)
    (put_order l x c.requires l.from ps n (first_is l l.from x (between_far l x c.requires).0)
    (subst (λ (vs : List Vertex). All (λ q. comes_first l q x ≡ true) (take n vs)) c.deref.ensures.value c.count_before-at.ensures.before)
    (λ q is. c.count_before-at.ensures.next q (ap (λ (vs : List Vertex). slice_get vs n) c.deref.ensures.value ∙ is))
    (λ is. not_found (slice_get c.deref-2.result.now n) x (sym c.is_place_at.ensures ∙ c.if-is_place_at.false)
    (ap (λ (vs : List Vertex). slice_get vs n) c.deref-2.ensures.value ∙ is))
    h)
