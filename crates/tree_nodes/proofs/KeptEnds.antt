-- Rounded ends beside pieces: a piece that isn't split keeps its own, and one more part is put down with its ends.
use Rattle.std.proofs.Common.{◌≡◌, refl, sym, ap, ◌∙◌, subst, ℕ, ◌+◌, ◌<◌, Bool, true, false, ◌&&◌, List, [], ◌∷◌, ◌++◌, append_assoc, length, get_or, drop, Option, Some, None, add-one, drop-cons}
use Rattle.std.specs.Prelude.{pos, int_lt, filter_map, option_to_list, is_some, IfSome, if◌then◌else◌}
use Rattle.std.specs.List.{cons_option}
use Rattle.lump_records.specs.declared.records.Vertex.{Vertex}
use Rattle.tree_pieces.specs.declared.edge.Edge.{Edge}
use Rattle.tree_pieces.specs.declared.frac.Frac.{Frac}
use Rattle.tree_pieces.specs.declared.piece.Piece.{Piece}
use Rattle.tree_pieces.specs.declared.piece.Ends.{Ends}
use Rattle.tree_pieces.specs.declared.piece.Parts.{Parts}
use Rattle.tree_pieces.specs.declared.piece.Place.{Place}
use Rattle.tree_pieces.specs.declared.piece.Place.TheVariants.{Right, Left, Across}
use Rattle.tree_pieces.specs.Fractions.{point_at, crossing}
use Rattle.tree_pieces.specs.Pieces.{IsPiece, edge_of, ray_of, first_end, last_end, ends_of, same_place}
use Rattle.tree_pieces.specs.Division.{parts_of, parts_by, place_of_piece, value_by, cut_at, right_parts, left_parts, IsDivided}
use Rattle.tree_pieces.proofs.Division.{same_vertex_is}
use Rattle.std.proofs.lemmas.List.{map-append}
use Rattle.std.specs.Prelude.{map}
use Rattle.tree_choice.specs.declared.ends.EndedList.{EndedList}
use Rattle.tree_choice.specs.Columns.{IsEnded}

-- ---- a piece that isn't split
-- the part of a piece whose other part is left out has the piece's ends
abbrev HasEnds : List Edge → Ends → Option Piece → Type 0
HasEnds lines b o = IfSome o (λ q. b ≡ ends_of lines q)

abbrev is_split : Parts → Bool
is_split x = is_some x.right && is_some x.left

-- the ends of a piece are those of its parts where it isn't split
record KeepEnds (lines : List Edge) (b : Ends) (x : Parts) : Type 0 where
  right : HasEnds lines b x.right
  left : HasEnds lines b x.left

module _ (lines : List Edge) (p : Piece) (b : Ends) (own : b ≡ ends_of lines p) where
  abbrev start : Vertex
  start = point_at (edge_of lines p) p.from

  abbrev end : Vertex
  end = point_at (edge_of lines p) p.to

  abbrev made : Vertex → Vertex → Ends
  made u v = record { first = u; last = v }

  before_has : (at : Frac) → same_place (point_at (edge_of lines p) at) end ≡ true → b ≡ ends_of lines (record p { to = at })
  before_has at e = own ∙ ap (made start) (sym (same_vertex_is (point_at (edge_of lines p) at) end e))

  after_has : (at : Frac) → same_place start (point_at (edge_of lines p) at) ≡ true → b ≡ ends_of lines (record p { from = at })
  after_has at e = own ∙ ap (λ (v : Vertex). made v end) (same_vertex_is start (point_at (edge_of lines p) at) e)

  by_start : (at : Frac) (right : Bool) → is_split (cut_at lines p at right) ≡ false → KeepEnds lines b (cut_at lines p at right)
  by_start at true = tests (same_place start (point_at (edge_of lines p) at)) (same_place (point_at (edge_of lines p) at) end) refl refl
    where
      tests : (x y : Bool) → same_place start (point_at (edge_of lines p) at) ≡ x → same_place (point_at (edge_of lines p) at) end ≡ y →
          (is_some (if x then None else Some (record p { to = at })) && is_some (if y then None else Some (record p { from = at }))) ≡ false →
          KeepEnds lines b (record { right = (if x then None else Some (record p { to = at })); left = (if y then None else Some (record p { from = at })) })
      tests true true e f h = record { right = tt; left = tt }
      tests true false e f h = record { right = tt; left = after_has at e }
      tests false true e f h = record { right = before_has at f; left = tt }
      tests false false e f h = cc
  by_start at false = tests (same_place start (point_at (edge_of lines p) at)) (same_place (point_at (edge_of lines p) at) end) refl refl
    where
      tests : (x y : Bool) → same_place start (point_at (edge_of lines p) at) ≡ x → same_place (point_at (edge_of lines p) at) end ≡ y →
          (is_some (if y then None else Some (record p { from = at })) && is_some (if x then None else Some (record p { to = at }))) ≡ false →
          KeepEnds lines b (record { right = (if y then None else Some (record p { from = at })); left = (if x then None else Some (record p { to = at })) })
      tests true true e f h = record { right = tt; left = tt }
      tests true false e f h = record { right = after_has at e; left = tt }
      tests false true e f h = record { right = tt; left = before_has at f }
      tests false false e f h = cc

  unsplit_by : (partition : Piece) (place : Place) → is_split (parts_by lines partition p place) ≡ false → KeepEnds lines b (parts_by lines partition p place)
  unsplit_by partition Right h = record { right = own; left = tt }
  unsplit_by partition Left h = record { right = tt; left = own }
  unsplit_by partition Across h = by_start (crossing (ray_of lines partition) (edge_of lines p)) (int_lt (pos 0) (value_by lines partition p p.from)) h

  unsplit : (partition : Piece) (parts : Parts) → parts ≡ parts_of lines partition p → (is_some parts.right && is_some parts.left) ≡ false → KeepEnds lines b parts
  unsplit partition parts e h = subst (KeepEnds lines b) (sym e) (unsplit_by partition (place_of_piece lines partition p) (subst (λ (x : Parts). is_split x ≡ false) e h))

  pub right_keeps : (partition : Piece) (parts : Parts) → parts ≡ parts_of lines partition p → (is_some parts.right && is_some parts.left) ≡ false → IfSome parts.right (λ q. b ≡ ends_of lines q)
  right_keeps partition parts e h = (unsplit partition parts e h).right

  pub left_keeps : (partition : Piece) (parts : Parts) → parts ≡ parts_of lines partition p → (is_some parts.right && is_some parts.left) ≡ false → IfSome parts.left (λ q. b ≡ ends_of lines q)
  left_keeps partition parts e h = (unsplit partition parts e h).left

-- the parts of a division are pieces
if_some_by : {X : Type 0} (P Q : X → Type 0) → ((x : X) → P x → Q x) → (o : Option X) → IfSome o P → IfSome o Q
if_some_by P Q f None h = tt
if_some_by P Q f (Some x) h = f x h

pub right_piece : (lines : List Edge) (partition p : Piece) (parts : Parts) → IsDivided lines partition p parts → IfSome parts.right (IsPiece lines)
right_piece lines partition p parts d = if_some_by _ (IsPiece lines) (λ q h. h.0.piece) parts.right d.right

pub left_piece : (lines : List Edge) (partition p : Piece) (parts : Parts) → IsDivided lines partition p parts → IfSome parts.left (IsPiece lines)
left_piece lines partition p parts d = if_some_by _ (IsPiece lines) (λ q h. h.0.piece) parts.left d.left

-- ---- one more
consed : {X : Type 0} (o : Option X) → cons_option o [] ≡ option_to_list o
consed None = refl
consed (Some x) = refl

-- the parts of a single piece
pub one_right : (lines : List Edge) (partition p : Piece) (parts : Parts) → parts ≡ parts_of lines partition p → option_to_list parts.right ≡ right_parts lines partition (p ∷ [])
one_right lines partition p parts e = ap (λ (x : Parts). option_to_list x.right) e ∙ sym (consed (parts_of lines partition p).right)

pub one_left : (lines : List Edge) (partition p : Piece) (parts : Parts) → parts ≡ parts_of lines partition p → option_to_list parts.left ≡ left_parts lines partition (p ∷ [])
one_left lines partition p parts e = ap (λ (x : Parts). option_to_list x.left) e ∙ sym (consed (parts_of lines partition p).left)

-- what is kept so far with what is kept of the next item, and what the items behind it will add
pub gained : {X Y : Type 0} {all : List Y} (f : X → Option Y) (xs : List X) (n : ℕ) (d : X) (old new : List Y) → n < length xs
    → new ≡ old ++ filter_map f (get_or xs n d ∷ []) → old ++ filter_map f (drop n xs) ≡ all → new
    ++ filter_map f (drop (n + 1) xs) ≡ all
gained {X} {Y} {all} f xs n d old new h e k =
    let q = get_or xs n d in
    let s : drop n xs ≡ q ∷ drop (n + 1) xs = drop-cons xs n d h ∙ ap (λ (i : ℕ). q ∷ drop i xs) (sym (add-one n)) in
    ap (λ (x : List Y). x ++ filter_map f (drop (n + 1) xs)) e
    ∙ append_assoc old (filter_map f (q ∷ [])) (filter_map f (drop (n + 1) xs))
    ∙ ap (λ (x : List Y). old ++ x) (front (f q) (filter_map f (drop (n + 1) xs)))
    ∙ ap (λ (x : List X). old ++ filter_map f x) (sym s) ∙ k
  where
    front : (o : Option Y) (ys : List Y) → cons_option o [] ++ ys ≡ cons_option o ys
    front None ys = refl
    front (Some y) ys = refl

-- a piece goes to one side whole, and the other one gains nothing
pub nothing_more : (xs : List Piece) → xs ≡ xs ++ []
nothing_more [] = refl
nothing_more (x ∷ xs) = ap (λ (l : List Piece). x ∷ l) (nothing_more xs)

-- one more piece is put down with its ends
pub ends_more : (lines : List Edge) (list list' : EndedList) (q : Piece) (e : Ends) → IsEnded lines list → e ≡ ends_of lines q
    → list'.pieces.items ≡ list.pieces.items ++ q ∷ [] → list'.firsts.items ≡ list.firsts.items ++ e.first ∷ []
    → list'.lasts.items ≡ list.lasts.items ++ e.last ∷ [] → IsEnded lines list'
ends_more lines list list' q e h own p f l =
    let ps = list.pieces.items in
    record {
      firsts_are = f ∙ ap (λ (x : Ends). list.firsts.items ++ x.first ∷ []) own ∙ ap (λ (xs : List Vertex). xs ++ first_end lines q ∷ []) h.firsts_are
          ∙ sym (map-append (first_end lines) ps (q ∷ [])) ∙ ap (map (first_end lines)) (sym p);
      lasts_are = l ∙ ap (λ (x : Ends). list.lasts.items ++ x.last ∷ []) own ∙ ap (λ (xs : List Vertex). xs ++ last_end lines q ∷ []) h.lasts_are
          ∙ sym (map-append (last_end lines) ps (q ∷ [])) ∙ ap (map (last_end lines)) (sym p);
    }
