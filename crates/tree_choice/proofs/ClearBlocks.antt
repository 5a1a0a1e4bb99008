-- A run of whole blocks: those whose boxes lie on one side are counted, the others are flagged, and then noted.
use Rattle.std.proofs.Common.{◌≡◌, refl, sym, ap, ◌∙◌, subst, ℕ, ◌+◌, ◌*◌, ◌<◌, ◌≤◌, Bool, true, false, ◌||◌, List, [], ◌∷◌, ◌++◌, length, take, drop, set, get_or, arith, All}
use Rattle.std.proofs.lemmas.List.{length-take, length-drop, length-append, append-nil, append_assoc, take_more, take_more_set, take-set, drop-drop}
use Rattle.std.proofs.lemmas.List.Elements.{All-nil, All-cons, All-append}
use Rattle.std.proofs.lemmas.List.Concat.{flat_map-append}
use Rattle.std.specs.Prelude.{not, nat_eq, bit_or}
use mir.Val.{bool_byte}
use Rattle.tree_pieces.specs.declared.edge.Edge.{Edge}
use Rattle.tree_pieces.specs.declared.piece.Piece.{Piece}
use Rattle.tree_pieces.proofs.Stops.{rights, lefts, splits, rights_append, lefts_append, splits_append}
use Rattle.tree_pieces.proofs.BlockCounts.{Contributes}
use Rattle.tree_choice.specs.Clear.{AreCountsBut}
use Rattle.tree_choice.specs.Sorting.{pieces_in, IsSorted, flagged_numbers, AreClearBlocks}
use Rattle.tree_choice.proofs.OpenBlocks.{front, one_more_in}

-- ---- the numbers of flagged blocks
more_flags : (k : ℕ) (fs : List Bool) (b : Bool) → flagged_numbers k (fs ++ (b ∷ [])) ≡ flagged_numbers k fs ++ flagged_numbers (k + length fs) (b ∷ [])
more_flags k [] b = let e : k ≡ k + 0 = omega arith in ap (λ (j : ℕ). flagged_numbers j (b ∷ [])) e
more_flags k (true ∷ fs) b =
    let e : k + 1 + length fs ≡ k + length (true ∷ fs) = omega arith in
    ap (λ (ks : List ℕ). k ∷ ks) (more_flags (k + 1) fs b ∙ ap (λ (j : ℕ). flagged_numbers (k + 1) fs ++ flagged_numbers j (b ∷ [])) e)
more_flags k (false ∷ fs) b =
    let e : k + 1 + length fs ≡ k + length (false ∷ fs) = omega arith in
    more_flags (k + 1) fs b ∙ ap (λ (j : ℕ). flagged_numbers (k + 1) fs ++ flagged_numbers j (b ∷ [])) e

one_more : (from n : ℕ) (flags : List Bool) (b : Bool) → n ≤ length flags
    → flagged_numbers from (take n flags ++ (b ∷ [])) ≡ flagged_numbers from (take n flags) ++ flagged_numbers (from + n) (b ∷ [])
one_more from n flags b h =
    let l = length-take n flags in
    let e : from + length (take n flags) ≡ from + n = omega arith in
    more_flags from (take n flags) b ∙ ap (λ (j : ℕ). flagged_numbers from (take n flags) ++ flagged_numbers j (b ∷ [])) e

-- one more block is noted where it is flagged
pub noted_step : (front : List ℕ) (from n next : ℕ) (flags : List Bool) (noted : List ℕ) (b : Bool) → n < length flags → get_or flags n false ≡ b
    → next < length noted → take next noted ≡ front ++ flagged_numbers from (take n flags)
    → take (next + bool_byte b) (set noted next (from + n)) ≡ front ++ flagged_numbers from (take (n + 1) flags)
noted_step front from n next flags noted b h e room is = by_flag b e
  where
    whole : flagged_numbers from (take (n + 1) flags) ≡ flagged_numbers from (take n flags) ++ flagged_numbers (from + n) (get_or flags n false ∷ [])
    whole = ap (flagged_numbers from) (take_more flags n false h) ∙ one_more from n flags (get_or flags n false) (omega arith)

    by_flag : (b : Bool) → get_or flags n false ≡ b → take (next + bool_byte b) (set noted next (from + n)) ≡ front ++ flagged_numbers from (take (n + 1) flags)
    by_flag true f =
        take_more_set noted next (from + n) room
        ∙ ap (λ (ks : List ℕ). ks ++ ((from + n) ∷ [])) is
        ∙ append_assoc front (flagged_numbers from (take n flags)) ((from + n) ∷ [])
        ∙ sym (ap (λ (ks : List ℕ). front ++ ks) (whole ∙ ap (λ (x : Bool). flagged_numbers from (take n flags) ++ flagged_numbers (from + n) (x ∷ [])) f))
    by_flag false f =
        let z : next + 0 ≡ next = omega arith in
        ap (λ (i : ℕ). take i (set noted next (from + n))) z ∙ take-set noted next (from + n) ∙ is
        ∙ sym (ap (λ (ks : List ℕ). front ++ ks)
        (whole ∙ ap (λ (x : Bool). flagged_numbers from (take n flags) ++ flagged_numbers (from + n) (x ∷ [])) f ∙ append-nil (flagged_numbers from (take n flags))))

-- a flag by the two tests as numbers
pub flag_is : (a b : Bool) → nat_eq (bit_or (bool_byte a) (bool_byte b)) 0 ≡ not (a || b)
flag_is true true = refl
flag_is true false = refl
flag_is false true = refl
flag_is false false = refl

pub at_most_one : (b : Bool) → bool_byte b ≤ 1
at_most_one true = omega arith
at_most_one false = omega arith

-- each of them begins in the list
pub numbers_begin : (ps : List Piece) (from : ℕ) (fs : List Bool) → 16 * (from + length fs) ≤ length ps → All (λ k. 16 * k < length ps) (flagged_numbers from fs)
numbers_begin ps from [] h = All-nil (λ (k : ℕ). 16 * k < length ps)
numbers_begin ps from (true ∷ fs) h = All-cons (λ (k : ℕ). 16 * k < length ps) from (flagged_numbers (from + 1) fs) (omega arith) (numbers_begin ps (from + 1) fs (omega arith))
numbers_begin ps from (false ∷ fs) h = numbers_begin ps (from + 1) fs (omega arith)

module _ (lines : List Edge) (p : Piece) where
  -- the same of equal lists, by equal numbers
  same_but : (xs xs' rest rest' : List Piece) (r r' l l' : ℕ) → AreCountsBut lines p xs rest (record { splits = 0; right = r; left = l })
      → xs' ≡ xs → rest' ≡ rest → r' ≡ r → l' ≡ l → AreCountsBut lines p xs' rest' (record { splits = 0; right = r'; left = l' })
  same_but xs xs' rest rest' r r' l l' h a b c d = rw (a, b, c, d) h

  -- one more block lies whole on one side
  block_whole : (xs rest block : List Piece) (r l a b : ℕ) → AreCountsBut lines p xs rest (record { splits = 0; right = r; left = l })
      → Contributes lines p block a b → a + b ≡ length block → AreCountsBut lines p (xs ++ block) rest (record { splits = 0; right = r + a; left = l + b })
  block_whole xs rest block r l a b k c whole =
      let ar = rights_append lines p xs block in
      let al = lefts_append lines p xs block in
      let asp = splits_append lines p xs block in
      let an = length-append xs block in
      let kr = k.right in
      let kl = k.left in
      let ks = k.splits in
      let ko = k.others in
      let cr = c.right in
      let cl = c.left in
      let cs = c.splits in
      record { splits = omega arith; right = omega arith; left = omega arith; others = omega arith }

  -- or is open
  block_open : (xs rest block : List Piece) (r l : ℕ) → AreCountsBut lines p xs rest (record { splits = 0; right = r; left = l })
      → AreCountsBut lines p (xs ++ block) (rest ++ block) (record { splits = 0; right = r; left = l })
  block_open xs rest block r l k =
      let ar = rights_append lines p xs block in
      let al = lefts_append lines p xs block in
      let asp = splits_append lines p xs block in
      let an = length-append xs block in
      let br = rights_append lines p rest block in
      let bl = lefts_append lines p rest block in
      let bs = splits_append lines p rest block in
      let bn = length-append rest block in
      let kr = k.right in
      let kl = k.left in
      let ks = k.splits in
      let ko = k.others in
      record { splits = omega arith; right = omega arith; left = omega arith; others = omega arith }

  pub no_blocks : (ps : List Piece) (from : ℕ) (flags : List Bool) → AreClearBlocks lines p ps from 0 (take 0 flags) 0 0
  no_blocks ps from flags = record { splits = refl; right = refl; left = refl; others = refl }

  pub blocks_step : (ps : List Piece) (from n right left : ℕ) (flags : List Bool) (a b : Bool) → n < length flags → 16 * (from + (n + 1)) ≤ length ps
      → (a ≡ true → Contributes lines p (take 16 (drop (16 * (from + n)) ps)) (length (take 16 (drop (16 * (from + n)) ps))) 0)
      → (b ≡ true → Contributes lines p (take 16 (drop (16 * (from + n)) ps)) 0 (length (take 16 (drop (16 * (from + n)) ps))))
      → AreClearBlocks lines p ps from n (take n flags) right left
      → AreClearBlocks lines p ps from (n + 1) (take (n + 1) (set flags n (not (a || b)))) (right + bool_byte a) (left + bool_byte b)
  blocks_step ps from n right left flags a b h within on_right on_left k = by_sides a b on_right on_left
    where
      block : List Piece
      block = take 16 (drop (16 * (from + n)) ps)

      before : List Piece
      before = take (16 * n) (drop (16 * from) ps)

      size : length block ≡ 16
      size =
          let lt = length-take 16 (drop (16 * (from + n)) ps) in
          let ld = length-drop (16 * (from + n)) ps in
          omega arith

      all : take (16 * (n + 1)) (drop (16 * from) ps) ≡ before ++ block
      all =
          let d : 16 * from + 16 * n ≡ 16 * (from + n) = omega arith in
          let s : 16 * (n + 1) ≡ 16 * n + 16 = omega arith in
          ap (λ (i : ℕ). take i (drop (16 * from) ps)) s
          ∙ sym (front (16 * n) 16 (drop (16 * from) ps))
          ∙ ap (λ (qs : List Piece). before ++ take 16 qs) (drop-drop (16 * n) (16 * from) ps ∙ ap (λ (i : ℕ). drop i ps) d)

      numbers : (f : Bool) → flagged_numbers from (take (n + 1) (set flags n f)) ≡ flagged_numbers from (take n flags) ++ flagged_numbers (from + n) (f ∷ [])
      numbers f = ap (flagged_numbers from) (take_more_set flags n f h) ∙ one_more from n flags f (omega arith)

      rest_open : pieces_in ps (flagged_numbers from (take (n + 1) (set flags n true))) ≡ pieces_in ps (flagged_numbers from (take n flags)) ++ block
      rest_open = ap (pieces_in ps) (numbers true) ∙ one_more_in ps (flagged_numbers from (take n flags)) (from + n)

      rest_whole : pieces_in ps (flagged_numbers from (take (n + 1) (set flags n false))) ≡ pieces_in ps (flagged_numbers from (take n flags))
      rest_whole = ap (pieces_in ps) (numbers false ∙ append-nil (flagged_numbers from (take n flags)))

      by_sides : (a b : Bool) → (a ≡ true → Contributes lines p block (length block) 0) → (b ≡ true → Contributes lines p block 0 (length block))
          → AreClearBlocks lines p ps from (n + 1) (take (n + 1) (set flags n (not (a || b)))) (right + bool_byte a) (left + bool_byte b)
      by_sides true true f g =
          let x = (f refl).right in
          let y = (g refl).right in
          let s = size in
          absurd (omega arith)
      by_sides true false f g =
          let z : length block + 0 ≡ length block = omega arith in
          same_but _ _ _ _ (16 * right + length block) (16 * (right + 1)) (16 * left + 0) (16 * (left + 0))
          (block_whole before (pieces_in ps (flagged_numbers from (take n flags))) block (16 * right) (16 * left) (length block) 0 k (f refl) z)
          all rest_whole (let s = size in omega arith) (omega arith)
      by_sides false true f g =
          let z : 0 + length block ≡ length block = omega arith in
          same_but _ _ _ _ (16 * right + 0) (16 * (right + 0)) (16 * left + length block) (16 * (left + 1))
          (block_whole before (pieces_in ps (flagged_numbers from (take n flags))) block (16 * right) (16 * left) 0 (length block) k (g refl) z)
          all rest_whole (omega arith) (let s = size in omega arith)
      by_sides false false f g =
          same_but _ _ _ _ (16 * right) (16 * (right + 0)) (16 * left) (16 * (left + 0))
          (block_open before (pieces_in ps (flagged_numbers from (take n flags))) block (16 * right) (16 * left) k)
          all rest_open (omega arith) (omega arith)

  -- the run is sorted once its open blocks are noted
  pub blocks_sorted : (ps : List Piece) (n j r l m a b m' : ℕ) (noted noted' ks : List ℕ)
      → IsSorted lines p ps n (record { right = r; left = l; count = m }) noted
      → AreCountsBut lines p (take j (drop n ps)) (pieces_in ps ks) (record { splits = 0; right = a; left = b })
      → take m' noted' ≡ take m noted ++ ks → All (λ k. 16 * k < length ps) ks → m' ≤ length noted' → 16 * m' ≤ n + j + 15
      → IsSorted lines p ps (n + j) (record { right = r + a; left = l + b; count = m' }) noted'
  blocks_sorted ps n j r l m a b m' noted noted' ks h c t begin few fewer =
      let others = pieces_in ps (take m noted) in
      let e = front n j ps in
      let er = ap (rights lines p) e in
      let el = ap (lefts lines p) e in
      let es = ap (splits lines p) e in
      let en = ap (λ (qs : List Piece). length qs) e in
      let ar = rights_append lines p (take n ps) (take j (drop n ps)) in
      let al = lefts_append lines p (take n ps) (take j (drop n ps)) in
      let asp = splits_append lines p (take n ps) (take j (drop n ps)) in
      let an = length-append (take n ps) (take j (drop n ps)) in
      let q : pieces_in ps (take m' noted') ≡ others ++ pieces_in ps ks =
      ap (pieces_in ps) t ∙ flat_map-append (λ (k : ℕ). take 16 (drop (16 * k) ps)) (take m noted) ks in
      let qr = ap (rights lines p) q in
      let ql = ap (lefts lines p) q in
      let qs = ap (splits lines p) q in
      let qn = ap (λ (xs : List Piece). length xs) q in
      let br = rights_append lines p others (pieces_in ps ks) in
      let bl = lefts_append lines p others (pieces_in ps ks) in
      let bs = splits_append lines p others (pieces_in ps ks) in
      let bn = length-append others (pieces_in ps ks) in
      let hr = h.right in
      let hl = h.left in
      let hs = h.splits in
      let hn = h.others in
      let cr = c.right in
      let cl = c.left in
      let cs = c.splits in
      let cn = c.others in
      record {
        right = omega arith;
        left = omega arith;
        splits = omega arith;
        others = omega arith;
        begin = subst (All (λ (i : ℕ). 16 * i < length ps)) (sym t) (All-append (λ (i : ℕ). 16 * i < length ps) (take m noted) ks h.begin begin);
        few = few;
        fewer = fewer;
      }
