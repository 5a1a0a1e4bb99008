-- The losses of a list: what a partition makes of those that a box on one side of it holds, and blocks of them in turn.
use Rattle.std.proofs.Common.{◌≡◌, refl, sym, ap, ◌∙◌, subst, ℕ, suc, ◌+◌, ◌-◌, ◌<◌, ◌≤◌, ◌&&◌, inl, inr, List, [], ◌∷◌, ◌++◌, length, length-append, take, drop, get_or, Option, Some, None, arith, All}
use Rattle.std.proofs.lemmas.List.{take_more, append_assoc, append-nil, take-append-drop}
use Rattle.std.proofs.lemmas.List.Elements.{All-nil, All-cons, All-head, All-tail}
use Rattle.std.proofs.lemmas.List.Sums.{sum_by-append}
use Rattle.std.proofs.lemmas.List.Sorted.{sum_by-IsPermutation}
use Rattle.std.specs.List.{cons_option, sum_by}
use Rattle.std.specs.List.Sorted.{IsPermutation}
use Rattle.std.specs.Prelude.{pos, ◌<ℤ◌, is_some, IfSome}
use Rattle.lump_records.specs.declared.records.Bounds.{Bounds}
use Rattle.lump_records.specs.declared.records.Vertex.{Vertex}
use Rattle.tree_pieces.specs.declared.edge.Edge.{Edge}
use Rattle.tree_pieces.specs.declared.frac.Frac.{Frac}
use Rattle.tree_pieces.specs.declared.edge.Facing.{Facing}
use Rattle.tree_pieces.specs.declared.piece.Piece.{Piece}
use Rattle.tree_pieces.specs.Boxes.{IsWellIn, least_value, greatest_value}
use Rattle.tree_pieces.specs.Pieces.{IsPiece, ray_of, first_end, last_end}
use Rattle.tree_pieces.specs.Division.{parts_of}
use Rattle.tree_pieces.proofs.Boxes.{box_right, box_left}
use Rattle.tree_pieces.proofs.Stops.{rights_append, lefts_append, splits_append}
use Rattle.tree_choice.specs.declared.counts.Counts.{Counts}
use Rattle.tree_choice.specs.declared.losses.Change.{Change}
use Rattle.tree_choice.specs.declared.losses.Loss.{Loss}
use Rattle.tree_choice.specs.declared.losses.LossBlock.{LossBlock}
use Rattle.tree_choice.specs.Blocks.{IsWithinBox, HoldsPlace}
use Rattle.tree_choice.specs.Counts.{AreCounts}
use Rattle.tree_choice.specs.Floors.{IsExchanged}
use Rattle.tree_choice.specs.Losses.{IsChange, IsLoss, IsRestOf, HoldsGone, wholes, rests, losses_in}
use Rattle.tree_choice.proofs.BoxLemmas.{no_piece, place_wider, one_more}
use Rattle.tree_choice.proofs.Exchanged.{rights_too, lefts_too, splits_too}
use Rattle.tree_choice.proofs.OneMore.{one, piece_counts}
use Rattle.tree_choice.proofs.RestLemmas.{HasSameParts, well_right, well_left, ends_on_right, ends_on_left, begins_on_right, begins_on_left}

-- ---- the lists of losses
pub wholes_length : (ls : List Loss) → length (wholes ls) ≡ length ls
wholes_length [] = refl
wholes_length (l ∷ ls) = ap suc (wholes_length ls)

pub rests_length : (ls : List Loss) → length (rests ls) ≤ length ls
rests_length [] = omega arith
rests_length (l ∷ ls) = by_rest l.rest (rests_length ls)
  where
    by_rest : (o : Option Piece) → length (rests ls) ≤ length ls → length (cons_option o (rests ls)) ≤ suc (length ls)
    by_rest None h = omega arith
    by_rest (Some q) h = omega arith

-- ---- a piece and its rest
-- a rest that begins or ends where its piece does is the piece but for its other end
ends_elsewhere : (p q : Piece) → p.line ≡ q.line → p.side ≡ q.side → p.from ≡ q.from → record p { to = q.to } ≡ q
ends_elsewhere p q l s f =
    let made : ℕ → Facing → Frac → Piece = λ n side from. record { line = n; side = side; from = from; to = q.to } in
    ap (λ (n : ℕ). made n p.side p.from) l ∙ ap (λ (x : Facing). made q.line x p.from) s ∙ ap (made q.line q.side) f

begins_elsewhere : (p q : Piece) → p.line ≡ q.line → p.side ≡ q.side → p.to ≡ q.to → record p { from = q.from } ≡ q
begins_elsewhere p q l s t =
    let made : ℕ → Facing → Frac → Piece = λ n side to. record { line = n; side = side; from = q.from; to = to } in
    ap (λ (n : ℕ). made n p.side p.to) l ∙ ap (λ (x : Facing). made q.line x p.to) s ∙ ap (made q.line q.side) t

module _ (lines : List Edge) (partition : Piece) (b : Bounds) (p q : Piece) (ok : IsPiece lines p) (rest : IsRestOf lines p q) where
  pub rest_right : pos 0 <ℤ least_value (ray_of lines partition) b → HoldsGone (IsWellIn b) lines p (Some q) → HasSameParts lines partition p q
  rest_right h (inl k) =
      let r = ray_of lines partition in
      let e = ends_elsewhere p q rest.line rest.side k.0 in
      subst (HasSameParts lines partition p) e
      (ends_on_right lines partition p q.to ok (subst (IsPiece lines) (sym e) rest.piece) (well_right r b (last_end lines p) k.1.0 h)
      (well_right r b _ (subst (λ (x : Piece). IsWellIn b (last_end lines x)) (sym e) k.1.1) h))
  rest_right h (inr k) =
      let r = ray_of lines partition in
      let e = begins_elsewhere p q rest.line rest.side k.0 in
      subst (HasSameParts lines partition p) e
      (begins_on_right lines partition p q.from ok (subst (IsPiece lines) (sym e) rest.piece) (well_right r b (first_end lines p) k.1.0 h)
      (well_right r b _ (subst (λ (x : Piece). IsWellIn b (first_end lines x)) (sym e) k.1.1) h))

  pub rest_left : greatest_value (ray_of lines partition) b <ℤ pos 0 → HoldsGone (IsWellIn b) lines p (Some q) → HasSameParts lines partition p q
  rest_left h (inl k) =
      let r = ray_of lines partition in
      let e = ends_elsewhere p q rest.line rest.side k.0 in
      subst (HasSameParts lines partition p) e
      (ends_on_left lines partition p q.to ok (subst (IsPiece lines) (sym e) rest.piece) (well_left r b (last_end lines p) k.1.0 h)
      (well_left r b _ (subst (λ (x : Piece). IsWellIn b (last_end lines x)) (sym e) k.1.1) h))
  rest_left h (inr k) =
      let r = ray_of lines partition in
      let e = begins_elsewhere p q rest.line rest.side k.0 in
      subst (HasSameParts lines partition p) e
      (begins_on_left lines partition p q.from ok (subst (IsPiece lines) (sym e) rest.piece) (well_left r b (first_end lines p) k.1.0 h)
      (well_left r b _ (subst (λ (x : Piece). IsWellIn b (first_end lines x)) (sym e) k.1.1) h))

-- ---- changes
-- so many pieces are lost on one side, and nothing else
abbrev pub none : Counts
none = record { splits = 0; right = 0; left = 0 }

abbrev pub lost_right : ℕ → Change
lost_right n = record { lost = record { splits = 0; right = n; left = 0 }; gained = none }

abbrev pub lost_left : ℕ → Change
lost_left n = record { lost = record { splits = 0; right = 0; left = n }; gained = none }

module _ (lines : List Edge) (partition : Piece) where
  -- two changes one after another
  pub both_change : (xs ys xs' ys' : List Piece) (c d both : Change) → IsChange lines partition xs ys c → IsChange lines partition xs' ys' d
      → both.lost.splits ≡ c.lost.splits + d.lost.splits → both.lost.right ≡ c.lost.right + d.lost.right → both.lost.left ≡ c.lost.left + d.lost.left
      → both.gained.splits ≡ c.gained.splits + d.gained.splits → both.gained.right ≡ c.gained.right + d.gained.right → both.gained.left ≡ c.gained.left + d.gained.left
      → IsChange lines partition (xs ++ xs') (ys ++ ys') both
  both_change xs ys xs' ys' c d both x y ls lr ll gs gr gl =
      let rx = rights_append lines partition xs xs' in
      let ry = rights_append lines partition ys ys' in
      let lx = lefts_append lines partition xs xs' in
      let ly = lefts_append lines partition ys ys' in
      let sx = splits_append lines partition xs xs' in
      let sy = splits_append lines partition ys ys' in
      let xr = x.right in
      let xl = x.left in
      let xs'' = x.splits in
      let yr = y.right in
      let yl = y.left in
      let ys'' = y.splits in
      record { splits = omega arith; right = omega arith; left = omega arith }

  -- both lists are counted
  pub counted_change : (xs ys : List Piece) (c d : Counts) → AreCounts lines partition xs c → AreCounts lines partition ys d → IsChange lines partition xs ys (record { lost = c; gained = d })
  counted_change xs ys c d x y =
      let xr = x.right in
      let xl = x.left in
      let xs' = x.splits in
      let yr = y.right in
      let yl = y.left in
      let ys' = y.splits in
      record { splits = omega arith; right = omega arith; left = omega arith }

  -- of one piece and its rest
  same_change : (p q : Piece) → HasSameParts lines partition p q → IsChange lines partition (p ∷ []) (q ∷ []) (record { lost = none; gained = none })
  same_change p q h =
      let x = parts_of lines partition p in
      let y = parts_of lines partition q in
      let c : Counts = record { splits = one (is_some x.right && is_some x.left); right = one (is_some x.right); left = one (is_some x.left) } in
      let a = piece_counts lines partition p x c refl refl refl refl in
      let b = piece_counts lines partition q y c refl (ap one h.right) (ap one h.left) (ap (λ z. one (z && is_some x.left)) h.right ∙ ap (λ z. one (is_some y.right && z)) h.left) in
      let ar = a.right in
      let al = a.left in
      let as' = a.splits in
      let br = b.right in
      let bl = b.left in
      let bs = b.splits in
      record { splits = omega arith; right = omega arith; left = omega arith }

  gone_right : (p : Piece) → parts_of lines partition p ≡ record { right = Some p; left = None } → IsChange lines partition (p ∷ []) [] (lost_right 1)
  gone_right p e =
      let a = piece_counts lines partition p (record { right = Some p; left = None }) (record { splits = 0; right = 1; left = 0 }) (sym e) refl refl refl in
      counted_change (p ∷ []) [] (record { splits = 0; right = 1; left = 0 }) none a (record { splits = refl; right = refl; left = refl })

  gone_left : (p : Piece) → parts_of lines partition p ≡ record { right = None; left = Some p } → IsChange lines partition (p ∷ []) [] (lost_left 1)
  gone_left p e =
      let a = piece_counts lines partition p (record { right = None; left = Some p }) (record { splits = 0; right = 0; left = 1 }) (sym e) refl refl refl in
      counted_change (p ∷ []) [] (record { splits = 0; right = 0; left = 1 }) none a (record { splits = refl; right = refl; left = refl })

  module _ (b : Bounds) where
    abbrev Held : Loss → Type 0
    Held l = HoldsGone (IsWellIn b) lines l.piece l.rest

    -- of losses that a box on the right holds
    pub all_right : pos 0 <ℤ least_value (ray_of lines partition) b → (ls : List Loss) (n : ℕ) → All (IsLoss lines) ls → All Held ls → n + length (rests ls) ≡ length ls
        → IsChange lines partition (wholes ls) (rests ls) (lost_right n)
    all_right h [] n each held e = record { splits = refl; right = omega arith; left = refl }
    all_right h (l ∷ ls) n each held e =
        by_rest l.rest (All-head (IsLoss lines) l ls each).rest (All-head Held l ls held) e (λ m. all_right h ls m (All-tail (IsLoss lines) l ls each) (All-tail Held l ls held))
      where
        ok : IsPiece lines l.piece
        ok = (All-head (IsLoss lines) l ls each).piece

        by_rest : (o : Option Piece) → IfSome o (IsRestOf lines l.piece) → HoldsGone (IsWellIn b) lines l.piece o → n + length (cons_option o (rests ls)) ≡ suc (length ls)
            → ((m : ℕ) → m + length (rests ls) ≡ length ls → IsChange lines partition (wholes ls) (rests ls) (lost_right m))
            → IsChange lines partition (l.piece ∷ wholes ls) (cons_option o (rests ls)) (lost_right n)
        by_rest None r k s others =
            let m = n - 1 in
            let z = rests_length ls in
            both_change (l.piece ∷ []) [] (wholes ls) (rests ls) (lost_right 1) (lost_right m) (lost_right n)
            (gone_right l.piece (box_right lines partition l.piece b ok (record { first = k.0; last = k.1 }) h))
            (others m (omega arith)) refl (omega arith) refl refl refl refl
        by_rest (Some q) r k s others =
            both_change (l.piece ∷ []) (q ∷ []) (wholes ls) (rests ls) (record { lost = none; gained = none }) (lost_right n) (lost_right n)
            (same_change l.piece q (rest_right lines partition b l.piece q ok r h k))
            (others n (omega arith)) refl (omega arith) refl refl refl refl

    -- and on the left
    pub all_left : greatest_value (ray_of lines partition) b <ℤ pos 0 → (ls : List Loss) (n : ℕ) → All (IsLoss lines) ls → All Held ls → n + length (rests ls) ≡ length ls
        → IsChange lines partition (wholes ls) (rests ls) (lost_left n)
    all_left h [] n each held e = record { splits = refl; right = refl; left = omega arith }
    all_left h (l ∷ ls) n each held e =
        by_rest l.rest (All-head (IsLoss lines) l ls each).rest (All-head Held l ls held) e (λ m. all_left h ls m (All-tail (IsLoss lines) l ls each) (All-tail Held l ls held))
      where
        ok : IsPiece lines l.piece
        ok = (All-head (IsLoss lines) l ls each).piece

        by_rest : (o : Option Piece) → IfSome o (IsRestOf lines l.piece) → HoldsGone (IsWellIn b) lines l.piece o → n + length (cons_option o (rests ls)) ≡ suc (length ls)
            → ((m : ℕ) → m + length (rests ls) ≡ length ls → IsChange lines partition (wholes ls) (rests ls) (lost_left m))
            → IsChange lines partition (l.piece ∷ wholes ls) (cons_option o (rests ls)) (lost_left n)
        by_rest None r k s others =
            let m = n - 1 in
            let z = rests_length ls in
            both_change (l.piece ∷ []) [] (wholes ls) (rests ls) (lost_left 1) (lost_left m) (lost_left n)
            (gone_left l.piece (box_left lines partition l.piece b ok (record { first = k.0; last = k.1 }) h))
            (others m (omega arith)) refl refl (omega arith) refl refl refl
        by_rest (Some q) r k s others =
            both_change (l.piece ∷ []) (q ∷ []) (wholes ls) (rests ls) (record { lost = none; gained = none }) (lost_left n) (lost_left n)
            (same_change l.piece q (rest_left lines partition b l.piece q ok r h k))
            (others n (omega arith)) refl refl (omega arith) refl refl refl

  -- the losses of a list change its counts as those of the pieces and the rests do
  pub change_of_all : (ps part gone new : List Piece) (c : Change) → IsExchanged ps part gone new → IsChange lines partition gone new c → IsChange lines partition ps part c
  change_of_all ps part gone new c x k =
      let r = rights_too lines partition ps part gone new x in
      let l = lefts_too lines partition ps part gone new x in
      let s = splits_too lines partition ps part gone new x in
      let kr = k.right in
      let kl = k.left in
      let ks = k.splits in
      record { splits = omega arith; right = omega arith; left = omega arith }

-- ---- lists of losses
pub wholes_append : (xs ys : List Loss) → wholes (xs ++ ys) ≡ wholes xs ++ wholes ys
wholes_append [] ys = refl
wholes_append (x ∷ xs) ys = ap (λ (ps : List Piece). x.piece ∷ ps) (wholes_append xs ys)

pub rests_append : (xs ys : List Loss) → rests (xs ++ ys) ≡ rests xs ++ rests ys
rests_append [] ys = refl
rests_append (x ∷ xs) ys = ap (cons_option x.rest) (rests_append xs ys) ∙ pulled x.rest (rests xs) (rests ys)
  where
    pulled : (o : Option Piece) (ps qs : List Piece) → cons_option o (ps ++ qs) ≡ cons_option o ps ++ qs
    pulled None ps qs = refl
    pulled (Some p) ps qs = refl

-- the next loss
pub wholes_more : (ls : List Loss) (n : ℕ) (d : Loss) → n < length ls → wholes (take (n + 1) ls) ≡ wholes (take n ls) ++ (get_or ls n d).piece ∷ []
wholes_more ls n d h = ap wholes (take_more ls n d h) ∙ wholes_append (take n ls) (get_or ls n d ∷ [])

pub rests_more : (ls : List Loss) (n : ℕ) (d : Loss) (o : Option Piece) → n < length ls → (get_or ls n d).rest ≡ o → rests (take (n + 1) ls) ≡ rests (take n ls) ++ cons_option o []
rests_more ls n d o h e = ap rests (take_more ls n d h) ∙ rests_append (take n ls) (get_or ls n d ∷ []) ∙ ap (λ (x : Option Piece). rests (take n ls) ++ cons_option x []) e

pub rests_counted : (ps : List Piece) (p : Piece) (qs : List Piece) → qs ≡ ps ++ p ∷ [] → length qs ≡ length ps + 1
rests_counted ps p qs e = ap length e ∙ length-append ps (p ∷ [])

-- a number for each piece, summed over the losses
abbrev rest_weight : (Piece → ℕ) → Option Piece → ℕ
rest_weight w None = 0
rest_weight w (Some p) = w p

wholes_sum : (w : Piece → ℕ) (ls : List Loss) → sum_by w (wholes ls) ≡ sum_by (λ l. w l.piece) ls
wholes_sum w [] = refl
wholes_sum w (l ∷ ls) =
    let a = sum_by-append w (l.piece ∷ []) (wholes ls) in
    let b = sum_by-append (λ (x : Loss). w x.piece) (l ∷ []) ls in
    let c : sum_by w (l.piece ∷ []) ≡ 0 + w l.piece = refl in
    let d : sum_by (λ (x : Loss). w x.piece) (l ∷ []) ≡ 0 + w l.piece = refl in
    let e = wholes_sum w ls in
    omega arith

one_rest : (w : Piece → ℕ) (o : Option Piece) (ps : List Piece) → sum_by w (cons_option o ps) ≡ rest_weight w o + sum_by w ps
one_rest w None ps = let z : rest_weight w None ≡ 0 = refl in let y : sum_by w (cons_option {X = Piece} None ps) ≡ sum_by w ps = refl in omega arith
one_rest w (Some p) ps =
    let a = sum_by-append w (p ∷ []) ps in
    let c : sum_by w (p ∷ []) ≡ 0 + w p = refl in
    let z : rest_weight w (Some p) ≡ w p = refl in
    omega arith

rests_sum : (w : Piece → ℕ) (ls : List Loss) → sum_by w (rests ls) ≡ sum_by (λ l. rest_weight w l.rest) ls
rests_sum w [] = refl
rests_sum w (l ∷ ls) =
    let a = one_rest w l.rest (rests ls) in
    let b = sum_by-append (λ (x : Loss). rest_weight w x.rest) (l ∷ []) ls in
    let d : sum_by (λ (x : Loss). rest_weight w x.rest) (l ∷ []) ≡ 0 + rest_weight w l.rest = refl in
    let e = rests_sum w ls in
    omega arith

-- losses in another order are exchanged for the same part
pub exchanged_in_order : (ps part : List Piece) (xs ys : List Loss) → IsPermutation xs ys → IsExchanged ps part (wholes xs) (rests xs) → IsExchanged ps part (wholes ys) (rests ys)
exchanged_in_order ps part xs ys h x = record {
  sums = λ w.
      let a = wholes_sum w xs in let b = wholes_sum w ys in let c = sum_by-IsPermutation (λ (l : Loss). w l.piece) xs ys h in
      let d = rests_sum w xs in let e = rests_sum w ys in let f = sum_by-IsPermutation (λ (l : Loss). rest_weight w l.rest) xs ys h in
      let g = x.sums w in omega arith;
}

-- ---- blocks of losses
pub losses_append : (xs ys : List LossBlock) → losses_in (xs ++ ys) ≡ losses_in xs ++ losses_in ys
losses_append [] ys = refl
losses_append (x ∷ xs) ys = ap (λ (ls : List Loss). x.losses.items ++ ls) (losses_append xs ys) ∙ sym (append_assoc x.losses.items (losses_in xs) (losses_in ys))

-- ---- the pieces of losses
pub each_whole : (lines : List Edge) (ls : List Loss) → All (IsLoss lines) ls → All (IsPiece lines) (wholes ls)
each_whole lines [] h = All-nil (IsPiece lines)
each_whole lines (l ∷ ls) h = All-cons (IsPiece lines) l.piece (wholes ls) (All-head (IsLoss lines) l ls h).piece (each_whole lines ls (All-tail (IsLoss lines) l ls h))

pub each_rest : (lines : List Edge) (ls : List Loss) → All (IsLoss lines) ls → All (IsPiece lines) (rests ls)
each_rest lines [] h = All-nil (IsPiece lines)
each_rest lines (l ∷ ls) h = by_rest l.rest (All-head (IsLoss lines) l ls h).rest (each_rest lines ls (All-tail (IsLoss lines) l ls h))
  where
    by_rest : (o : Option Piece) → IfSome o (IsRestOf lines l.piece) → All (IsPiece lines) (rests ls) → All (IsPiece lines) (cons_option o (rests ls))
    by_rest None r k = k
    by_rest (Some q) r k = All-cons (IsPiece lines) q (rests ls) r.piece k

-- ---- the box of a block
-- what is read where a list has no loss
abbrev pub no_loss : Loss
no_loss = record { piece = no_piece; rest = None }

-- what is gone of one more piece in the box round the first ones
gone_wider : (lines : List Edge) (a b : Bounds) → IsWithinBox a b → (p : Piece) (o : Option Piece) → HoldsGone (HoldsPlace a) lines p o → HoldsGone (HoldsPlace b) lines p o
gone_wider lines a b w p None h = (place_wider a b _ w h.0, place_wider a b _ w h.1)
gone_wider lines a b w p (Some q) (inl h) = inl (h.0, (place_wider a b _ w h.1.0, place_wider a b _ w h.1.1))
gone_wider lines a b w p (Some q) (inr h) = inr (h.0, (place_wider a b _ w h.1.0, place_wider a b _ w h.1.1))

pub one_more_held : (lines : List Edge) (a b : Bounds) (ls : List Loss) (n : ℕ) (d : Loss) → IsWithinBox a b → n < length ls
    → All (λ l. HoldsGone (HoldsPlace a) lines l.piece l.rest) (take n ls) → HoldsGone (HoldsPlace b) lines (get_or ls n d).piece (get_or ls n d).rest
    → All (λ l. HoldsGone (HoldsPlace b) lines l.piece l.rest) (take (n + 1) ls)
one_more_held lines a b ls n d w h all k =
    one_more (λ (l : Loss). HoldsGone (HoldsPlace a) lines l.piece l.rest) (λ (l : Loss). HoldsGone (HoldsPlace b) lines l.piece l.rest)
    (λ l. gone_wider lines a b w l.piece l.rest) ls n d h all k

gone_well : (lines : List Edge) (a b : Bounds) → ((v : Vertex) → HoldsPlace a v → IsWellIn b v) → (p : Piece) (o : Option Piece) → HoldsGone (HoldsPlace a) lines p o → HoldsGone (IsWellIn b) lines p o
gone_well lines a b f p None h = (f _ h.0, f _ h.1)
gone_well lines a b f p (Some q) (inl h) = inl (h.0, (f _ h.1.0, f _ h.1.1))
gone_well lines a b f p (Some q) (inr h) = inr (h.0, (f _ h.1.0, f _ h.1.1))

-- a wider box holds it well in it
pub all_held_well : (lines : List Edge) (a b : Bounds) → ((v : Vertex) → HoldsPlace a v → IsWellIn b v) → (ls : List Loss)
    → All (λ l. HoldsGone (HoldsPlace a) lines l.piece l.rest) ls → All (λ l. HoldsGone (IsWellIn b) lines l.piece l.rest) ls
all_held_well lines a b f ls all = λ k d h. gone_well lines a b f (get_or ls k d).piece (get_or ls k d).rest (all k d h)

-- ---- blocks in turn
-- the losses of one more block
pub losses_more : (bs : List LossBlock) (n : ℕ) (b : LossBlock) → n < length bs → b ≡ get_or bs n b → losses_in (take (n + 1) bs) ≡ losses_in (take n bs) ++ b.losses.items
losses_more bs n b h e =
    ap losses_in (take_more bs n b h) ∙ losses_append (take n bs) (get_or bs n b ∷ [])
    ∙ ap (λ (ls : List Loss). losses_in (take n bs) ++ ls) (append-nil (get_or bs n b).losses.items)
    ∙ ap (λ (x : LossBlock). losses_in (take n bs) ++ x.losses.items) (sym e)

-- the first blocks have at most as many losses as all
pub losses_within : (bs : List LossBlock) (n : ℕ) → length (losses_in (take n bs)) ≤ length (losses_in bs)
losses_within bs n =
    let e = ap (λ (xs : List LossBlock). length (losses_in xs)) (take-append-drop n bs) in
    let f = ap length (losses_append (take n bs) (drop n bs)) in
    let g = length-append (losses_in (take n bs)) (losses_in (drop n bs)) in
    omega arith
