use Rattle.std.proofs.Common.{◌≡◌, ◌<◌, List, [], ◌∷◌, ◌++◌, Some, length, map, take, sym, ap, ◌∙◌, arith}
use Rattle.std.specs.List.{enumerate_from, slice_get}
use Rattle.std.specs.Prelude.{slice_index_or}
use Rattle.std.proofs.lemmas.List.{take_all}
use Rattle.std.proofs.lemmas.List.FromFn.{length-enumerate_from}
use Rattle.std.proofs.lemmas.Option.{slice_get-get_or}
use Rattle.lump_records.specs.declared.records.Line.{Line}
use Rattle.map_plane.specs.Places.{placed}
use Rattle.map_plane.specs.declared.places.PlacedLine.{PlacedLine}
use Rattle.map_areas.proofs.Copies.{numbered_more}
use Rattle.map_areas.proofs.lists.placed_by_lists.Goals as goal

pub loop-n-preserved : goal.loop-n-preserved
loop-n-preserved c =
    let m = c.args.map.now.tables in
    let ls = c.args.lines.now in
    let n = c.loop-n.n in
    let none : Line = record { v1 = 0; v2 = 0; flags = 0; special = 0; tag = 0; right = 0; left = 0 } in
    let within : n < length ls = omega (arith, ap (λ (xs : List Line). length xs) c.requires.lines, c.loop-n-test.true, c.count-n-end.ensures.number) in
    let is : slice_get m.lines n ≡ Some (slice_index_or ls n none) = ap (λ (xs : List Line). slice_get xs n) (sym c.requires.lines) ∙ slice_get-get_or ls n none within in
    c.in_ok-push.ensures.items
    ∙ ap (λ (ps : List PlacedLine). ps ++ c.placed_by.result ∷ []) c.loop-n.invariant
    ∙ ap (λ (p : PlacedLine). map (placed m) (take n (enumerate_from 0 m.lines)) ++ p ∷ []) c.placed_by.ensures
    ∙ numbered_more (placed m) m.lines n (slice_index_or ls n none) is

pub returns : goal.returns
returns c =
    let m = c.args.map.now.tables in
    c.loop-n.invariant
    ∙ ap (map (placed m))
    (take_all c.loop-n.n (enumerate_from 0 m.lines) (omega (arith, length-enumerate_from 0 m.lines, c.count-n-end.ensures.number, c.loop-n-test.false)))
