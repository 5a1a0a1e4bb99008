-- Room in lists: what is kept of one more item fits where all that is kept does.
use Rattle.std.proofs.Common.{◌≡◌, refl, sym, ap, ◌∙◌, ℕ, ◌+◌, ◌<◌, ◌≤◌, List, [], ◌∷◌, ◌++◌, length, map, get_or, drop, Option, Some, arith, All, slice_get}
use Rattle.std.specs.Prelude.{filter_map}
use Rattle.std.proofs.lemmas.List.{length-append, length-map}
use Rattle.tree_pieces.specs.declared.edge.Edge.{Edge}
use Rattle.tree_pieces.specs.Pieces.{IsPiece, first_end, last_end}
use Rattle.tree_choice.specs.declared.ends.EndedList.{EndedList}
use Rattle.tree_choice.specs.declared.ends.EndedPieces.{EndedPieces}
use Rattle.tree_choice.specs.Candidates.{AreEnded}
use Rattle.tree_choice.specs.Columns.{IsEnded}
use Rattle.tree_choice.proofs.Ended.{ended_in}
use Rattle.tree_choice.specs.declared.floors.Floor.{Floor}
use Rattle.tree_nodes.specs.declared.placed.PlacedPieces.{PlacedPieces}
use Rattle.tree_nodes.specs.Placed.{HasPieceRoom, CanTake, IsEmptyList, IsPlacedList}
use Rattle.tree_nodes.proofs.KeptEnds.{gained}

-- room for more is room for less
pub less_room : (n m : ℕ) (list : EndedList) → n ≤ m → HasPieceRoom m list → HasPieceRoom n list
less_room n m list l h = record {
  pieces = let r = h.pieces in omega (arith, l, r);
  firsts = let r = h.firsts in omega (arith, l, r);
  lasts = let r = h.lasts in omega (arith, l, r);
}

-- the columns are as long as the list, so there is room in them too
pub can_take : (lines : List Edge) (list : EndedList) → IsEnded lines list → HasPieceRoom (length list.pieces.items + 1) list → CanTake list
can_take lines list h r =
    let f = ap length h.firsts_are ∙ length-map list.pieces.items (first_end lines) in
    let l = ap length h.lasts_are ∙ length-map list.pieces.items (last_end lines) in
    let p = r.pieces in
    let q = r.firsts in
    let s = r.lasts in
    record {
      pieces = omega (arith, p, list.pieces.ok.0);
      firsts = omega (arith, f, q, list.firsts.ok.0);
      lasts = omega (arith, l, s, list.lasts.ok.0);
    }

-- what is kept of the next item still fits
pub room_for_one : {X Y : Type 0} {all : List Y} (f : X → Option Y) (xs : List X) (n : ℕ) (d : X) (old : List Y) → n < length xs
    → old ++ filter_map f (drop n xs) ≡ all → length old + length (filter_map f (get_or xs n d ∷ [])) ≤ length all
room_for_one f xs n d old h k =
    let one = filter_map f (get_or xs n d ∷ []) in
    let rest = filter_map f (drop (n + 1) xs) in
    let e = ap length (gained f xs n d old (old ++ one) h refl k) in
    let a = length-append (old ++ one) rest in
    let b = length-append old one in
    omega (arith, e, a, b)

-- nothing has ends
pub nothing_ended : (lines : List Edge) (count : ℕ) (list : PlacedPieces) → IsEmptyList count list → IsEnded lines list.ended
nothing_ended lines count list h = record {
  firsts_are = h.firsts ∙ ap (map (first_end lines)) (sym h.pieces);
  lasts_are = h.lasts ∙ ap (map (last_end lines)) (sym h.pieces);
}

-- pieces that were put down in an empty list: no order, and nothing known of them
pub filled : (lines : List Edge) (count : ℕ) (list : PlacedPieces) (ended : EndedList) → IsEmptyList count list
    → All (IsPiece lines) ended.pieces.items → IsEnded lines ended → IsPlacedList lines (record list { ended = ended })
filled lines count list ended h each own = record {
  ended = own;
  placed = rw h.order tt;
  known = record { pieces = each; known = record { each = λ k q f _ b. absurd (none list.floors.items h.floors k f b) } };
}
  where
    none : (fs : List Floor) → fs ≡ [] → (k : ℕ) (f : Floor) → slice_get fs k ≡ Some f → ⊥
    none [] e k f b = cc
    none (g ∷ fs) e k f b = cc

-- slices of a list are pieces with their ends
pub slices_ended : (lines : List Edge) (slices : EndedPieces) (list : PlacedPieces) → IsPlacedList lines list → slices.pieces.now ≡ list.ended.pieces.items
    → slices.firsts.now ≡ list.ended.firsts.items → slices.lasts.now ≡ list.ended.lasts.items → AreEnded lines slices
slices_ended lines slices list h = ended_in lines slices list.ended h.known.pieces h.ended
