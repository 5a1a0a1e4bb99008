-- A level has no fault exactly if every reference is in range.
use Rattle.std.proofs.Common.{◌≡◌, refl, sym, ap, ◌∙◌, subst, ℕ, zero, suc, ◌+◌, ◌-◌, ◌<◌, ◌≤◌, Bool, true, false, not, cond, ◌&&◌, List, [], ◌∷◌, ◌++◌, length, get_or, take, drop, ◌⊎◌, inl, inr, arith, None, Some}
use Rattle.std.specs.Prelude.{◌↔◌, ◌≢◌, All, nat_lt, ◌==◌, ◌||◌, sum_by}
use Rattle.std.specs.Bool.{Decides}
use Rattle.std.specs.List.{range_with_len, enumerate_from}
use Rattle.std.specs.Option.{option_map}
use Rattle.std.proofs.lemmas.List.Sums.{sum_by-cons}
use Rattle.std.proofs.lemmas.Bool.Decides.{Decides-like, Decides-and, Decides-or, Decides-not, Decides-ltb, Decides-eqb}
use Rattle.std.proofs.lemmas.List.Elements.{All-nil, All-cons, All-head, All-tail, All-weaker}
use Rattle.std.proofs.lemmas.Option.{slice_get-get_or, slice_get_within}
use Rattle.lump_records.specs.declared.records.Line.{Line}
use Rattle.lump_records.specs.declared.records.Seg.{Seg}
use Rattle.lump_records.specs.declared.records.Sub.{Sub}
use Rattle.lump_records.specs.declared.records.Node.{Node}
use Rattle.wad_build.specs.Words.{words}
use Rattle.tree_blocks.specs.Layout.{list_end, greatest_offset, HasWordsAt}
use Rattle.wad_levels.specs.Levels.{Lumps}
use Rattle.lump_records.specs.Sides.{no_side, is_two_sided}
use Rattle.wad_build.specs.Endings.{is_line, ends_in_lines}
use Rattle.wad_build.specs.Reject.{reject_size}
use Rattle.tree_nodes.specs.InRange.{IsIn, HasSide, SegInRange, Tiles, ChildInRange, greatest_number, sub_bit, times_sub, times_node}
use Rattle.wad_build.specs.Range.{LineInRange, ListInRange, IsInRange, blocks_in}
use Rattle.wad_build.specs.Audit.{first_wrong, is_in_range, line_vertices, line_sides, line_of_seg, seg_vertices, seg_side, sub_range, after_counts, child_right, node_children, block_list, level_faults, first_fault}
use Rattle.wad_build.proofs.Nones.{no_wrong, map_none, unless_none, first_some-none, Decides-leb, Decides-is_in}

-- ---- lines
record VerticesIn (l : Lumps) (x : Line) : Type 0 where
  v1 : IsIn l.vertices x.v1
  v2 : IsIn l.vertices x.v2

record SidesIn (l : Lumps) (x : Line) : Type 0 where
  right : IsIn l.sides x.right
  left : x.left ≢ no_side → IsIn l.sides x.left
  two_sided : is_two_sided x ≡ true → x.left ≢ no_side

vertices_in : (l : Lumps) (x : Line) → Decides (line_vertices l x) (VerticesIn l x)
vertices_in l x = Decides-like (line_vertices l x) (λ p. record { v1 = p.0; v2 = p.1 }) (λ i. (i.v1, i.v2)) (Decides-and _ _ (Decides-is_in l.vertices x.v1) (Decides-is_in l.vertices x.v2))

-- an existing left side is in range; a line without one isn't two-sided
left_in : (e t i : Bool) (E I : Type 0) → Decides e E → Decides i I → Decides (cond e (not t) i) (((E → ⊥) → I) × (t ≡ true → E → ⊥))
left_in true true i E I de di = (λ h. cc, λ p. absurd (p.1 refl (de.0 refl)))
left_in true false i E I de di = (λ h. (λ n. absurd (n (de.0 refl)), λ t. cc), λ p. refl)
left_in false t i E I de di = (λ h. (λ n. di.0 h, λ u e. let f = de.1 e in cc), λ p. di.1 (p.0 (λ e. let f = de.1 e in cc)))

sides_in : (l : Lumps) (x : Line) → Decides (line_sides l x) (SidesIn l x)
sides_in l x =
    Decides-like (line_sides l x) (λ p. record { right = p.0; left = p.1.0; two_sided = p.1.1 }) (λ i. (i.right, (i.left, i.two_sided)))
    (Decides-and _ _ (Decides-is_in l.sides x.right)
    (left_in (x.left == no_side) (is_two_sided x) (is_in_range l.sides x.left) (x.left ≡ no_side) (IsIn l.sides x.left) (Decides-eqb x.left no_side) (Decides-is_in l.sides x.left)))

-- ---- segs
record EndsIn (l : Lumps) (s : Seg) : Type 0 where
  first : IsIn l.vertices s.first
  second : IsIn l.vertices s.second

ends_in : (l : Lumps) (s : Seg) → Decides (seg_vertices l s) (EndsIn l s)
ends_in l s =
    Decides-like (seg_vertices l s) (λ p. record { first = p.0; second = p.1 }) (λ i. (i.first, i.second)) (Decides-and _ _ (Decides-is_in l.vertices s.first) (Decides-is_in l.vertices s.second))

abbrev SideThere : Lumps → Seg → Type 0
SideThere l s = (s.side ≡ 0) ⊎ ((s.side ≡ 1) × ((line_of_seg l s).left ≢ no_side))

side_there : (l : Lumps) (s : Seg) → Decides (seg_side l s) (SideThere l s)
side_there l s =
    Decides-or _ _ (Decides-eqb s.side 0) (Decides-and _ _ (Decides-eqb s.side 1) (Decides-not _ (Decides-eqb (line_of_seg l s).left no_side)))

abbrev no_line : Line
no_line = record { v1 = 0; v2 = 0; flags = 0; special = 0; tag = 0; right = 0; left = no_side }

has_side : (l : Lumps) (s : Seg) → SideThere l s → HasSide l.lines s.line s.side
has_side l s (inl right) = inl right
has_side l s (inr one) =
    inr (
      one.0,
      λ x at e.
          let there = slice_get-get_or l.lines s.line no_line (slice_get_within l.lines s.line x at) in
          let same : line_of_seg l s ≡ x = cc in
          one.1 (ap (λ (y : Line). y.left) same ∙ e),
    )

side_is_there : (l : Lumps) (s : Seg) → IsIn l.lines s.line → HasSide l.lines s.line s.side → SideThere l s
side_is_there l s r (inl right) = inl right
side_is_there l s r (inr one) = inr (one.0, one.1 (line_of_seg l s) (slice_get-get_or l.lines s.line no_line r.among))

-- ---- subsectors
record SubFollows (p : ℕ × Sub) : Type 0 where
  some : 0 < p.1.count
  begins : p.1.first ≡ p.0
  small : p.1.first ≤ greatest_number

sub_follows : (p : ℕ × Sub) → Decides (sub_range p) (SubFollows p)
sub_follows p =
    Decides-like (sub_range p) (λ h. record { some = h.0.0; begins = h.0.1; small = h.1 }) (λ i. ((i.some, i.begins), i.small))
    (Decides-and _ _ (Decides-and _ _ (Decides-ltb 0 p.1.count) (Decides-eqb p.1.first p.0)) (Decides-leb p.1.first greatest_number))

-- ---- what is counted by numbers
range_all : (P : ℕ → Type 0) (a n : ℕ) → All P (range_with_len a n) → (k : ℕ) → k < n → P (a + k)
range_all P a zero h k lt = absurd (omega arith)
range_all P a (suc n) h zero lt = let e : a ≡ a + 0 = omega arith in subst P e (All-head P a (range_with_len (a + 1) n) h)
range_all P a (suc n) h (suc k) lt =
    let e : a + 1 + k ≡ a + suc k = omega arith in subst P e (range_all P (a + 1) n (All-tail P a (range_with_len (a + 1) n) h) k (omega arith))

all_range : (P : ℕ → Type 0) (a n : ℕ) → ((k : ℕ) → k < n → P (a + k)) → All P (range_with_len a n)
all_range P a zero h = All-nil P
all_range P a (suc n) h =
    let e : a + 0 ≡ a = omega arith in
    All-cons P a (range_with_len (a + 1) n) (subst P e (h 0 (omega arith))) (all_range P (a + 1) n (λ k lt. let e2 : a + suc k ≡ a + 1 + k = omega arith in subst P e2 (h (suc k) (omega arith))))

-- ---- numbered nodes
numbered_all : (P : ℕ × Node → Type 0) (a : ℕ) (nodes : List Node) → All P (enumerate_from a nodes) → (i : ℕ) → i < length nodes → (n : Node) → get_or nodes i n ≡ n → P (a + i, n)
numbered_all P a [] h i lt n e = absurd (omega arith)
numbered_all P a (m ∷ nodes) h zero lt n e =
    let k : a ≡ a + 0 = omega arith in
    subst (λ (x : Node). P (a + 0, x)) e (subst (λ (x : ℕ). P (x, m)) k (All-head P (a, m) (enumerate_from (a + 1) nodes) h))
numbered_all P a (m ∷ nodes) h (suc i) lt n e =
    let k : a + 1 + i ≡ a + suc i = omega arith in
    subst (λ (x : ℕ). P (x, n)) k (numbered_all P (a + 1) nodes (All-tail P (a, m) (enumerate_from (a + 1) nodes) h) i (omega arith) n e)

all_numbered : (P : ℕ × Node → Type 0) (a : ℕ) (nodes : List Node) → ((i : ℕ) → i < length nodes → (n : Node) → get_or nodes i n ≡ n → P (a + i, n)) → All P (enumerate_from a nodes)
all_numbered P a [] h = All-nil P
all_numbered P a (m ∷ nodes) h =
    let k : a + 0 ≡ a = omega arith in
    All-cons P (a, m) (enumerate_from (a + 1) nodes) (subst (λ (x : ℕ). P (x, m)) k (h 0 (omega arith) m refl))
    (all_numbered P (a + 1) nodes (λ i lt n e. let k2 : a + suc i ≡ a + 1 + i = omega arith in subst (λ (x : ℕ). P (x, n)) k2 (h (suc i) (omega arith) n e)))

child_by : (b below inside : Bool) (B L I : Type 0) → Decides b B → Decides below L → Decides inside I → Decides (cond b below inside) ((B → L) × ((B → ⊥) → I))
child_by true below inside B L I db dl di = (λ h. (λ _. dl.0 h, λ n. absurd (n (db.0 refl))), λ p. dl.1 (p.0 (db.0 refl)))
child_by false below inside B L I db dl di = (λ h. (λ p. let e = db.1 p in cc, λ n. di.0 h), λ p. di.1 (p.1 (λ q. let e = db.1 q in cc)))

child_in : (l : Lumps) (i c : ℕ) → Decides (child_right l i c) (ChildInRange l.subs i c)
child_in l i c =
    Decides-like (child_right l i c) (λ p. record { node = p.0; sub = λ h. p.1 (λ k. omega arith) })
    (λ r. (r.node, λ n. r.sub (above n)))
    (child_by (nat_lt c sub_bit) (nat_lt c i) (is_in_range l.subs (c - sub_bit)) (c < sub_bit) (c < i) (IsIn l.subs (c - sub_bit)) (Decides-ltb c sub_bit) (Decides-ltb c i)
    (Decides-is_in l.subs (c - sub_bit)))
  where
    above : (c < sub_bit → ⊥) → sub_bit ≤ c
    above n = grind arith

children_in : (l : Lumps) (p : ℕ × Node) → Decides (node_children l p) (ChildInRange l.subs p.0 p.1.right × ChildInRange l.subs p.0 p.1.left)
children_in l p = Decides-and _ _ (child_in l p.0 p.1.right) (child_in l p.0 p.1.left)

-- ---- the words of a block's list
record Ending (l : Lumps) (xs : List ℕ) : Type 0 where
  list : List ℕ
  stands : HasWordsAt xs 0 (list ++ list_end ∷ [])
  lines : All (IsIn l.lines) list

or_true : (b c : Bool) → b ≡ true → (b || c) ≡ true
or_true true c e = refl
or_true false c e = cc

or_false : (b c : Bool) → b ≡ false → (b || c) ≡ c
or_false true c e = cc
or_false false c e = refl

ending : (l : Lumps) (xs : List ℕ) → Decides (ends_in_lines (length l.lines) xs) (Ending l xs)
ending l [] = (λ h. cc, λ e. absurd (no_end e.list e.stands))
  where
    no_end : (list : List ℕ) → take (length (list ++ list_end ∷ [])) (drop 0 []) ≡ list ++ list_end ∷ [] → ⊥
    no_end [] e = cc
    no_end (y ∷ ys) e = cc
ending l (x ∷ xs) = by_test (ending l xs) (x == list_end) refl
  where
    by_test : Decides (ends_in_lines (length l.lines) xs) (Ending l xs) → (b : Bool) → (x == list_end) ≡ b → Decides (ends_in_lines (length l.lines) (x ∷ xs)) (Ending l (x ∷ xs))
    by_test d true e =
        let k = (Decides-eqb x list_end).0 e in (
          λ h. record { list = []; stands = ap (λ (y : ℕ). y ∷ []) k; lines = All-nil (IsIn l.lines) },
          λ r. or_true (x == list_end) _ e,
        )
    by_test d false e =
        let t = or_false (x == list_end) (is_line (length l.lines) x && ends_in_lines (length l.lines) xs) e in
        let w = Decides-and (is_line (length l.lines) x) (ends_in_lines (length l.lines) xs) (Decides-is_in l.lines x) d in
        (λ h. longer (w.0 (sym t ∙ h)), λ r. t ∙ w.1 (shorter r.list r.stands r.lines))
      where
        longer : IsIn l.lines x × Ending l xs → Ending l (x ∷ xs)
        longer p = record { list = x ∷ p.1.list; stands = ap (λ (ys : List ℕ). x ∷ ys) p.1.stands; lines = All-cons (IsIn l.lines) x p.1.list p.0 p.1.lines }

        shorter : (list : List ℕ) → take (length (list ++ list_end ∷ [])) (x ∷ xs) ≡ list ++ list_end ∷ [] → All (IsIn l.lines) list → IsIn l.lines x × Ending l xs
        shorter [] s a =
            let k : x ≡ list_end = ap (λ (ys : List ℕ). get_or ys 0 0) s in
            let f = (Decides-eqb x list_end).1 k in
            cc
        shorter (y ∷ ys) s a =
            let k : x ≡ y = ap (λ (zs : List ℕ). get_or zs 0 0) s in
            let t = ap (λ (zs : List ℕ). drop 1 zs) s in (
              subst (IsIn l.lines) (sym k) (All-head (IsIn l.lines) y ys a),
              record { list = ys; stands = t; lines = All-tail (IsIn l.lines) y ys a },
            )

list_in : (l : Lumps) (ws : List ℕ) (at : ℕ) → Decides (block_list l ws at) (ListInRange l ws at)
list_in l ws at =
    Decides-like (block_list l ws at)
    (λ p. record { inside = p.0.0; small = p.0.1; list = p.1.list; stands = p.1.stands; lines = p.1.lines })
    (λ r. ((r.inside, r.small), record { list = r.list; stands = r.stands; lines = r.lines }))
    (Decides-and _ _ (Decides-and _ _ (Decides-ltb at (length ws)) (Decides-leb at greatest_offset)) (ending l (drop at ws)))

-- ---- the runs of the subsectors
tiles_in : (at : ℕ) (subs : List Sub) (to : ℕ) → All SubFollows (after_counts at subs) → at + sum_by (λ s. s.count) subs ≡ to → Tiles at subs to
tiles_in at [] to a e = omega arith
tiles_in at (s ∷ subs) to a e =
    let h = All-head SubFollows (at, s) (after_counts (at + s.count) subs) a in
    let c = sum_by-cons (λ (x : Sub). x.count) s subs in
    (h.some, h.begins, h.small, tiles_in (at + s.count) subs to (All-tail SubFollows (at, s) (after_counts (at + s.count) subs) a) (omega arith))

in_tiles : (at : ℕ) (subs : List Sub) (to : ℕ) → Tiles at subs to → All SubFollows (after_counts at subs) × (at + sum_by (λ s. s.count) subs ≡ to)
in_tiles at [] to t = (All-nil SubFollows, omega arith)
in_tiles at (s ∷ subs) to t =
    let r = in_tiles (at + s.count) subs to t.3 in
    let c = sum_by-cons (λ (x : Sub). x.count) s subs in
    let q = r.1 in
    (All-cons SubFollows (at, s) (after_counts (at + s.count) subs) (record { some = t.0; begins = t.1; small = t.2 }) r.0, omega arith)

all_both : {X : Type 0} (P Q R : X → Type 0) → ((x : X) → P x → Q x → R x) → (xs : List X) → All P xs → All Q xs → All R xs
all_both P Q R f [] a b = All-nil R
all_both P Q R f (x ∷ xs) a b = All-cons R x xs (f x (All-head P x xs a) (All-head Q x xs b)) (all_both P Q R f xs (All-tail P x xs a) (All-tail Q x xs b))

listed : {X F : Type 0} (fault : ℕ → F) (right : X → Bool) (P : X → Type 0) → ((x : X) → Decides (right x) (P x)) → (xs : List X) → (option_map fault (first_wrong right xs) ≡ None) ↔ All P xs
listed fault right P each xs =
    let m = map_none fault (first_wrong right xs) in
    let n = no_wrong right P each xs in
    (λ h. n.0 (m.0 h), λ a. m.1 (n.1 a))

-- ---- the law
pub no_fault-in_range : (l : Lumps) → first_fault l ≡ None → IsInRange l
no_fault-in_range l h =
    let n = (first_some-none (level_faults l)).0 h in
    let lv = (listed _ (line_vertices l) (VerticesIn l) (vertices_in l) l.lines).0 n.0 in
    let ls = (listed _ (line_sides l) (SidesIn l) (sides_in l) l.lines).0 n.1.0 in
    let ss = (listed _ (λ s. is_in_range l.sectors s.sector) (λ s. IsIn l.sectors s.sector) (λ s. Decides-is_in l.sectors s.sector) l.sides).0 n.1.1.0 in
    let sv = (listed _ (seg_vertices l) (EndsIn l) (ends_in l) l.segs).0 n.1.1.1.0 in
    let sl = (listed _ (λ s. is_in_range l.lines s.line) (λ s. IsIn l.lines s.line) (λ s. Decides-is_in l.lines s.line) l.segs).0 n.1.1.1.1.0 in
    let sd = (listed _ (seg_side l) (SideThere l) (side_there l) l.segs).0 n.1.1.1.1.1.0 in
    let sr = (listed _ sub_range SubFollows sub_follows (after_counts 0 l.subs)).0 n.1.1.1.1.1.1.0 in
    let st = (unless_none _ (sum_by (λ s. s.count) l.subs ≡ length l.segs) _ (Decides-eqb _ (length l.segs))).0 n.1.1.1.1.1.1.1.0 in
    let nc = (listed _ (node_children l) (λ p. ChildInRange l.subs p.0 p.1.right × ChildInRange l.subs p.0 p.1.left) (children_in l) (enumerate_from 0 l.nodes)).0 n.1.1.1.1.1.1.1.1.0 in
    let so = (unless_none _ (0 < length l.subs) _ (Decides-ltb 0 (length l.subs))).0 n.1.1.1.1.1.1.1.1.1.0 in
    let sn = (listed _ (λ s. times_sub l.nodes s == 1) (λ s. times_sub l.nodes s ≡ 1) (λ s. Decides-eqb (times_sub l.nodes s) 1) (range_with_len 0 (length l.subs))).0 n.1.1.1.1.1.1.1.1.1.1.0 in
    let no = (listed _ (λ i. times_node l.nodes i == 1) (λ i. times_node l.nodes i ≡ 1) (λ i. Decides-eqb (times_node l.nodes i) 1) (range_with_len 0 (length l.nodes - 1))).0 n.1.1.1.1.1.1.1.1.1.1.1.0
    in
    let rj = (unless_none _ (reject_size (length l.sectors) ≤ length l.reject) _ (Decides-leb (reject_size (length l.sectors)) (length l.reject))).0 n.1.1.1.1.1.1.1.1.1.1.1.1.0 in
    let bh = (unless_none _ (4 + blocks_in (words l.blockmap) ≤ length (words l.blockmap)) _ (Decides-leb (4 + blocks_in (words l.blockmap)) (length (words l.blockmap)))).0
    n.1.1.1.1.1.1.1.1.1.1.1.1.1.0 in
    let bl = (listed _ (block_list l (words l.blockmap)) (ListInRange l (words l.blockmap)) (list_in l (words l.blockmap)) (take (blocks_in (words l.blockmap)) (drop 4 (words l.blockmap)))).0
    n.1.1.1.1.1.1.1.1.1.1.1.1.1.1.0 in
    record {
      lines = all_both (VerticesIn l) (SidesIn l) (LineInRange l) (λ x p q. record { v1 = p.v1; v2 = p.v2; right = q.right; left = q.left; two_sided = q.two_sided }) l.lines lv ls;
      sides = ss;
      tree = record {
        segs = all_both (EndsIn l) (λ s. IsIn l.lines s.line × SideThere l s) (SegInRange l.vertices l.lines)
            (λ x p q. record { first = p.first; second = p.second; line = q.0; side = has_side l x q.1 }) l.segs sv
            (all_both (λ s. IsIn l.lines s.line) (SideThere l) (λ s. IsIn l.lines s.line × SideThere l s) (λ x p q. (p, q)) l.segs sl sd);
        tiles = tiles_in 0 l.subs (length l.segs) sr (omega arith);
        node_children = λ i x at.
            let lt = slice_get_within l.nodes i x at in
            let there = slice_get-get_or l.nodes i x lt in
            let same : get_or l.nodes i x ≡ x = cc in
            let k : 0 + i ≡ i = omega arith in
            subst (λ (j : ℕ). ChildInRange l.subs j x.right × ChildInRange l.subs j x.left) k
            (numbered_all (λ p. ChildInRange l.subs p.0 p.1.right × ChildInRange l.subs p.0 p.1.left) 0 l.nodes nc i lt x same);
        some_sub = so;
        subs_once = λ s lt. let k : 0 + s ≡ s = omega arith in subst (λ (j : ℕ). times_sub l.nodes j ≡ 1) k (range_all (λ j. times_sub l.nodes j ≡ 1) 0 (length l.subs) sn s lt);
        nodes_once = λ i lt. let k : 0 + i ≡ i = omega arith in subst (λ (j : ℕ). times_node l.nodes j ≡ 1) k (range_all (λ j. times_node l.nodes j ≡ 1) 0 (length l.nodes - 1) no i (omega arith));
      };
      reject = rj;
      header = bh;
      lists = bl;
    }

pub in_range-no_fault : (l : Lumps) → IsInRange l → first_fault l ≡ None
in_range-no_fault l r =
    let t = in_tiles 0 l.subs (length l.segs) r.tree.tiles in
    let e = t.1 in
    (first_some-none (level_faults l)).1 (
      (listed _ (line_vertices l) (VerticesIn l) (vertices_in l) l.lines).1 (All-weaker (LineInRange l) (VerticesIn l) (λ x p. record { v1 = p.v1; v2 = p.v2 }) l.lines r.lines),
      (
        (listed _ (line_sides l) (SidesIn l) (sides_in l) l.lines).1
            (All-weaker (LineInRange l) (SidesIn l) (λ x p. record { right = p.right; left = p.left; two_sided = p.two_sided }) l.lines r.lines),
        (
          (listed _ (λ s. is_in_range l.sectors s.sector) (λ s. IsIn l.sectors s.sector) (λ s. Decides-is_in l.sectors s.sector) l.sides).1 r.sides,
          (
            (listed _ (seg_vertices l) (EndsIn l) (ends_in l) l.segs).1
                (All-weaker (SegInRange l.vertices l.lines) (EndsIn l) (λ x p. record { first = p.first; second = p.second }) l.segs r.tree.segs),
            (
              (listed _ (λ s. is_in_range l.lines s.line) (λ s. IsIn l.lines s.line) (λ s. Decides-is_in l.lines s.line) l.segs).1
                  (All-weaker (SegInRange l.vertices l.lines) (λ s. IsIn l.lines s.line) (λ x p. p.line) l.segs r.tree.segs),
              (
                (listed _ (seg_side l) (SideThere l) (side_there l) l.segs).1 (All-weaker (SegInRange l.vertices l.lines) (SideThere l) (λ x p. side_is_there l x p.line p.side) l.segs r.tree.segs),
                (
                  (listed _ sub_range SubFollows sub_follows (after_counts 0 l.subs)).1 t.0,
                  (
                    (unless_none _ (sum_by (λ s. s.count) l.subs ≡ length l.segs) _ (Decides-eqb _ (length l.segs))).1 (omega arith),
                    (
                      (listed _ (node_children l) (λ p. ChildInRange l.subs p.0 p.1.right × ChildInRange l.subs p.0 p.1.left) (children_in l) (enumerate_from 0 l.nodes)).1
                          (all_numbered (λ p. ChildInRange l.subs p.0 p.1.right × ChildInRange l.subs p.0 p.1.left) 0 l.nodes
                          (λ i lt x q. let k : i ≡ 0 + i = omega arith
                          in subst (λ (j : ℕ). ChildInRange l.subs j x.right × ChildInRange l.subs j x.left) k (r.tree.node_children i x (slice_get-get_or l.nodes i x lt ∙ ap Some q)))),
                      (
                        (unless_none _ (0 < length l.subs) _ (Decides-ltb 0 (length l.subs))).1 r.tree.some_sub,
                        (
                          (listed _ (λ s. times_sub l.nodes s == 1) (λ s. times_sub l.nodes s ≡ 1) (λ s. Decides-eqb (times_sub l.nodes s) 1) (range_with_len 0 (length l.subs))).1
                              (all_range (λ j. times_sub l.nodes j ≡ 1) 0 (length l.subs)
                              (λ s lt. let k : s ≡ 0 + s = omega arith in subst (λ (j : ℕ). times_sub l.nodes j ≡ 1) k (r.tree.subs_once s lt))),
                          (
                            (listed _ (λ i. times_node l.nodes i == 1) (λ i. times_node l.nodes i ≡ 1) (λ i. Decides-eqb (times_node l.nodes i) 1) (range_with_len 0 (length l.nodes - 1))).1
                                (all_range (λ j. times_node l.nodes j ≡ 1) 0 (length l.nodes - 1)
                                (λ i lt. let k : i ≡ 0 + i = omega arith in subst (λ (j : ℕ). times_node l.nodes j ≡ 1) k (r.tree.nodes_once i (omega arith)))),
                            (
                              (unless_none _ (reject_size (length l.sectors) ≤ length l.reject) _ (Decides-leb (reject_size (length l.sectors)) (length l.reject))).1 r.reject,
                              (
                                (unless_none _ (4 + blocks_in (words l.blockmap) ≤ length (words l.blockmap)) _ (Decides-leb (4 + blocks_in (words l.blockmap)) (length (words l.blockmap)))).1
                                    r.header,
                                (
                                  (listed _ (block_list l (words l.blockmap)) (ListInRange l (words l.blockmap)) (list_in l (words l.blockmap))
                                      (take (blocks_in (words l.blockmap)) (drop 4 (words l.blockmap)))).1 r.lists,
                                  tt,
                                ),
                              ),
                            ),
                          ),
                        ),
                      ),
                    ),
                  ),
                ),
              ),
            ),
          ),
        ),
      ),
    )
