-- The blocks of a list are sorted one after another, and the open ones counted one after another.
use Rattle.std.proofs.Common.{◌≡◌, refl, sym, ap, ◌∙◌, subst, ℕ, zero, suc, ◌+◌, ◌*◌, ◌<◌, ◌≤◌, List, [], ◌∷◌, ◌++◌, length, take, drop, set, get_or, drop-cons, arith, All}
use Rattle.std.proofs.lemmas.List.{length-take, length-append, length-set, take-set, append-nil, append_assoc, take_all, take_more_set, get_or-take, drop_all}
use Rattle.std.proofs.lemmas.List.Elements.{All-nil, All-cons, All-append, All-get_or}
use Rattle.tree_pieces.specs.declared.edge.Edge.{Edge}
use Rattle.tree_pieces.specs.declared.piece.Piece.{Piece}
use Rattle.tree_pieces.proofs.Stops.{rights, lefts, splits, rights_append, lefts_append, splits_append, Counted, block_counted}
use Rattle.tree_pieces.proofs.BlockCounts.{Contributes}
use Rattle.tree_choice.specs.declared.sorting.Sorted.{Sorted}
use Rattle.tree_choice.specs.declared.counts.Counts.{Counts}
use Rattle.tree_choice.specs.Counts.{AreCounts}
use Rattle.tree_choice.specs.Sorting.{pieces_in, IsSorted}
use Rattle.tree_choice.proofs.BlockSteps.{counts_at_most}

-- the first pieces, and the part behind them
nothing : {X : Type 0} (j : ℕ) → take {A = X} j [] ≡ []
nothing zero = refl
nothing (suc j) = refl

pub front : {X : Type 0} (n j : ℕ) (xs : List X) → take n xs ++ take j (drop n xs) ≡ take (n + j) xs
front zero j xs = ap (λ (i : ℕ). take i xs) (omega arith)
front {X} (suc n) j [] = nothing {X = X} j ∙ sym (nothing {X = X} (suc n + j))
front (suc n) j (x ∷ xs) = let e : suc (n + j) ≡ suc n + j = omega arith in ap (λ (ys : List _). x ∷ ys) (front n j xs) ∙ ap (λ (i : ℕ). take i (x ∷ xs)) e

-- the pieces of one more block
pub one_more_in : (ps : List Piece) (ks : List ℕ) (k : ℕ) → pieces_in ps (ks ++ (k ∷ [])) ≡ pieces_in ps ks ++ take 16 (drop (16 * k) ps)
one_more_in ps [] k = append-nil (take 16 (drop (16 * k) ps))
one_more_in ps (j ∷ ks) k = ap (λ (qs : List Piece). take 16 (drop (16 * j) ps) ++ qs) (one_more_in ps ks k)
    ∙ sym (append_assoc (take 16 (drop (16 * j) ps)) (pieces_in ps ks) (take 16 (drop (16 * k) ps)))

module _ (lines : List Edge) (p : Piece) where
  -- the counts of a block that lies whole on one side
  pub counts_are : (block : List Piece) (a a' b b' : ℕ) → Contributes lines p block a b → a ≡ a' → b ≡ b' → AreCounts lines p block (record { splits = 0; right = a'; left = b' })
  counts_are block a a' b b' k e f = record { splits = sym k.splits; right = sym (k.right ∙ e); left = sym (k.left ∙ f) }

  pub contributes : (block : List Piece) (a b : ℕ) → AreCounts lines p block (record { splits = 0; right = a; left = b }) → Contributes lines p block a b
  contributes block a b k = record { right = sym k.right; left = sym k.left; splits = sym k.splits }

module _ (lines : List Edge) (p : Piece) (ps : List Piece) where
  -- the same by equal numbers
  pub same_sorted : (n n' : ℕ) (r r' l l' m m' : ℕ) (noted noted' : List ℕ)
      → IsSorted lines p ps n (record { right = r; left = l; count = m }) noted → n' ≡ n → r' ≡ r → l' ≡ l → m' ≡ m
      → noted' ≡ noted → IsSorted lines p ps n' (record { right = r'; left = l'; count = m' }) noted'
  same_sorted n n' r r' l l' m m' noted noted' h a b c d e = rw (a, b, c, d, e) h

  -- what stands behind the open blocks is no matter
  pub spare_sorted : (n r l m k : ℕ) (noted : List ℕ) → IsSorted lines p ps n (record { right = r; left = l; count = m }) noted
      → IsSorted lines p ps n (record { right = r; left = l; count = m }) (set noted m k)
  spare_sorted n r l m k noted h =
      let t = take-set noted m k in
      let w = length-set noted m k in
      let f = h.few in
      record { right = rw t h.right; left = rw t h.left; splits = rw t h.splits; others = rw t h.others; begin = rw t h.begin; few = omega arith; fewer = h.fewer }

  -- a part that goes to one side whole
  pub part_sorted : (n j : ℕ) (r l m a b : ℕ) (noted : List ℕ)
      → IsSorted lines p ps n (record { right = r; left = l; count = m }) noted
      → Contributes lines p (take j (drop n ps)) a b → a + b ≡ length (take j (drop n ps))
      → IsSorted lines p ps (n + j) (record { right = r + a; left = l + b; count = m }) noted
  part_sorted n j r l m a b noted h c whole =
      let e = front n j ps in
      let er = ap (rights lines p) e in
      let el = ap (lefts lines p) e in
      let es = ap (splits lines p) e in
      let en = ap (λ (qs : List Piece). length qs) e in
      let ar = rights_append lines p (take n ps) (take j (drop n ps)) in
      let al = lefts_append lines p (take n ps) (take j (drop n ps)) in
      let asp = splits_append lines p (take n ps) (take j (drop n ps)) in
      let an = length-append (take n ps) (take j (drop n ps)) in
      let hr = h.right in
      let hl = h.left in
      let hs = h.splits in
      let hn = h.others in
      let cr = c.right in
      let cl = c.left in
      let cs = c.splits in
      let f = h.few in
      let g = h.fewer in
      record { right = omega arith; left = omega arith; splits = omega arith; others = omega arith; begin = h.begin; few = f; fewer = omega arith }

  -- an open block
  pub open_sorted : (k : ℕ) (r l m : ℕ) (noted : List ℕ)
      → IsSorted lines p ps (16 * k) (record { right = r; left = l; count = m }) noted → m < length noted
      → 16 * k < length ps → IsSorted lines p ps (16 * k + 16) (record { right = r; left = l; count = m + 1 })
      (set noted m k)
  open_sorted k r l m noted h room within =
      let block = take 16 (drop (16 * k) ps) in
      let before = take (16 * k) ps in
      let others = pieces_in ps (take m noted) in
      let t = take_more_set noted m k room in
      let q : pieces_in ps (take (m + 1) (set noted m k)) ≡ others ++ block = ap (pieces_in ps) t ∙ one_more_in ps (take m noted) k in
      let e = front (16 * k) 16 ps in
      let er = ap (rights lines p) e in
      let el = ap (lefts lines p) e in
      let es = ap (splits lines p) e in
      let en = ap (λ (qs : List Piece). length qs) e in
      let ar = rights_append lines p before block in
      let al = lefts_append lines p before block in
      let asp = splits_append lines p before block in
      let an = length-append before block in
      let qr = ap (rights lines p) q in
      let ql = ap (lefts lines p) q in
      let qs = ap (splits lines p) q in
      let qn = ap (λ (xs : List Piece). length xs) q in
      let br = rights_append lines p others block in
      let bl = lefts_append lines p others block in
      let bs = splits_append lines p others block in
      let bn = length-append others block in
      let hr = h.right in
      let hl = h.left in
      let hs = h.splits in
      let hn = h.others in
      let f = h.few in
      let g = h.fewer in
      let w = length-set noted m k in
      record {
        right = omega arith;
        left = omega arith;
        splits = omega arith;
        others = omega arith;
        begin = subst (All (λ (j : ℕ). 16 * j < length ps)) (sym t)
            (All-append (λ (j : ℕ). 16 * j < length ps) (take m noted) (k ∷ []) h.begin
            (All-cons (λ (j : ℕ). 16 * j < length ps) k [] within (All-nil (λ (j : ℕ). 16 * j < length ps))));
        few = omega arith;
        fewer = omega arith;
      }

  -- ---- the open blocks are counted
  -- what isn't counted is in the open blocks
  pub open_left : (s : Sorted) (noted : List ℕ) → IsSorted lines p ps (length ps) s noted → Counted lines p ps (pieces_in ps (take s.count noted)) s.right s.left 0
  open_left s noted h =
      let e = sym (take_all (length ps) ps (omega arith)) in
      let hs = h.splits in
      let es = ap (splits lines p) e in
      record { right = ap (rights lines p) e ∙ h.right; left = ap (lefts lines p) e ∙ h.left; splits = omega arith }

  pub all_length : (s : Sorted) (noted : List ℕ) → IsSorted lines p ps (length ps) s noted → length ps ≡ s.right + s.left + length (pieces_in ps (take s.count noted))
  all_length s noted h = sym (ap (λ (qs : List Piece). length qs) (take_all (length ps) ps (omega arith))) ∙ h.others

  -- no count is longer than the list
  pub record AreFew (r l s : ℕ) : Type 0 where
    pub right : r ≤ length ps
    pub left : l ≤ length ps
    pub splits : s ≤ length ps

  pub counted_few : (qs : List Piece) (r l s : ℕ) → Counted lines p ps qs r l s → AreFew r l s
  counted_few qs r l s k =
      let c : Counts = record { splits = splits lines p ps; right = rights lines p ps; left = lefts lines p ps } in
      let m = counts_at_most lines p ps c (length ps) (omega arith) (record { splits = refl; right = refl; left = refl }) in
      let mr = m.right in
      let ml = m.left in
      let ms = m.splits in
      let kr = k.right in
      let kl = k.left in
      let ks = k.splits in
      record { right = omega arith; left = omega arith; splits = omega arith }

  -- the next open block, and those behind it
  pub next_open : (m n : ℕ) (noted : List ℕ) → n < m → m ≤ length noted → pieces_in ps (drop n (take m noted)) ≡ take 16 (drop (16 * get_or noted n 0) ps) ++ pieces_in ps (drop (n + 1) (take m noted))
  next_open m n noted h room =
      let w = length-take m noted in
      let e : suc n ≡ n + 1 = omega arith in
      ap (pieces_in ps) (drop-cons (take m noted) n 0 (omega arith)
      ∙ ap (λ (k : ℕ). k ∷ drop (suc n) (take m noted)) (get_or-take m noted n 0 h)
      ∙ ap (λ (i : ℕ). get_or noted n 0 ∷ drop i (take m noted)) e)

  -- an open block begins in the list
  pub begins : (n : ℕ) (s : Sorted) (noted : List ℕ) → IsSorted lines p ps (length ps) s noted → n < s.count → 16 * get_or noted n 0 < length ps
  begins n s noted h k =
      let w = length-take s.count noted in
      let f = h.few in
      subst (λ (j : ℕ). 16 * j < length ps) (get_or-take s.count noted n 0 k) (All-get_or (λ (j : ℕ). 16 * j < length ps) (take s.count noted) n 0 (omega arith) h.begin)

  -- it is counted
  pub open_counted : (m n : ℕ) (noted : List ℕ) (r l s : ℕ) (c : Counts) → n < m → m ≤ length noted
      → Counted lines p ps (pieces_in ps (drop n (take m noted))) r l s
      → AreCounts lines p (take 16 (drop (16 * get_or noted n 0) ps)) c
      → Counted lines p ps (pieces_in ps (drop (n + 1) (take m noted))) (r + c.right) (l + c.left) (s + c.splits)
  open_counted m n noted r l s c h room k a =
      let k' = subst (λ (qs : List Piece). Counted lines p ps qs r l s) (next_open m n noted h room) k in
      block_counted lines p ps (take 16 (drop (16 * get_or noted n 0) ps)) (pieces_in ps (drop (n + 1) (take m noted))) r l s c.right c.left c.splits k' (sym a.right) (sym a.left) (sym a.splits)

  -- so many are left
  pub open_rest : (m n : ℕ) (noted : List ℕ) → n < m → m ≤ length noted → length (pieces_in ps (drop n (take m noted)))
      ≡ length (take 16 (drop (16 * get_or noted n 0) ps)) + length (pieces_in ps (drop (n + 1) (take m noted)))
  open_rest m n noted h room = ap (λ (qs : List Piece). length qs) (next_open m n noted h room) ∙ length-append (take 16 (drop (16 * get_or noted n 0) ps)) (pieces_in ps (drop (n + 1) (take m noted)))

  -- behind the last one all is counted
  pub none_open : (m n : ℕ) (noted : List ℕ) → m ≤ n → pieces_in ps (drop n (take m noted)) ≡ []
  none_open m n noted h = let w = length-take m noted in ap (pieces_in ps) (drop_all n (take m noted) (omega arith))
