use Rattle.std.proofs.Common.{◌≡◌, ℕ, ◌+◌, List, [], ◌∷◌, ◌++◌, get_or, map, take, sym, ap, ◌∙◌, arith, zero-add}
use Rattle.std.specs.List.{enumerate_from, slice_get}
use Rattle.std.specs.Prelude.{Some}
use Rattle.std.proofs.lemmas.List.{take_more, take_all, map-append}
use Rattle.std.proofs.lemmas.List.FromFn.{length-enumerate_from, get_or-enumerate_from}
use Rattle.std.proofs.lemmas.Option.{slice_get_within, get_or_from_slice_get}
use Rattle.map_plane.specs.declared.places.PlacedLine.{PlacedLine}
use Rattle.map_areas.specs.Outlines.{edge_from}
use Rattle.map_areas.proofs.Copies.{is_there}
use Rattle.map_areas.proofs.polygon.outline_edges.Goals as goal

-- one more item with its number
numbered_more : {X Y : Type 0} (f : ℕ × X → Y) (xs : List X) (n : ℕ) (x : X) → slice_get xs n ≡ Some x
    → map f (take n (enumerate_from 0 xs)) ++ f (n, x) ∷ [] ≡ map f (take (n + 1) (enumerate_from 0 xs))
numbered_more f xs n x is =
    let es = enumerate_from 0 xs in
    let within = slice_get_within xs n x is in
    let at : get_or es n (n, x) ≡ (n, x) =
    get_or-enumerate_from 0 xs n (n, x) within ∙ (λ i. (zero-add n i, get_or_from_slice_get xs n x x is i)) in
    sym
    (ap (map f) (take_more es n (n, x) (omega (arith, within, length-enumerate_from 0 xs)))
    ∙ map-append f (take n es) (get_or es n (n, x) ∷ [])
    ∙ ap (λ e. map f (take n es) ++ f e ∷ []) at)

pub unwrap-corner-requires : goal.unwrap-corner-requires
unwrap-corner-requires c = is_there c.args.corners.now c.loop-n.n _ c.corner_at.ensures (omega arith)

pub loop-n-preserved : goal.loop-n-preserved
loop-n-preserved c =
    let cs = c.args.corners.now in
    c.in_ok-push.ensures.items
    ∙ ap (λ (ls : List PlacedLine). ls ++ c.edge_from.result ∷ []) c.loop-n.invariant
    ∙ ap (λ (l : PlacedLine). map (edge_from cs) (take c.loop-n.n (enumerate_from 0 cs)) ++ l ∷ []) c.edge_from.ensures
    ∙ numbered_more (edge_from cs) cs c.loop-n.n c.unwrap-corner.result (sym c.corner_at.ensures ∙ c.unwrap-corner.ensures)

pub returns-clause-edges : goal.returns-clause-edges
returns-clause-edges c =
    let cs = c.args.corners.now in
    c.loop-n.invariant
    ∙ ap (map (edge_from cs)) (take_all c.loop-n.n (enumerate_from 0 cs) (omega (arith, length-enumerate_from 0 cs, c.loop-n-test.false)))
