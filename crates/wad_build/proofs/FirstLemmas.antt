-- The first fault of several, and the first wrong item that a pass over a list finds.
use Rattle.std.proofs.Common.{◌≡◌, refl, sym, ap, ◌∙◌, subst, ℕ, zero, suc, ◌+◌, ◌-◌, ◌<◌, ◌≤◌, ◌⊎◌, inl, inr, Bool, true, false, not, cond, List, [], ◌∷◌, ◌++◌, length, get_or, take, Option, Some, None, zero-add, below_more, append_assoc, ◌≢◌, arith}
use Rattle.std.specs.Prelude.{nat_lt, sum_by, ◌==◌, flat_map, min, pos, nat_le, count_by, All, drop, ◌&&◌, ◌↔◌}
use Rattle.std.proofs.lemmas.List.Elements.{All-head, All-tail, All-from_get_or}
use Rattle.std.specs.Option.{option_map}
use Rattle.std.specs.List.{position_or_len, enumerate_from, range_with_len}
use Rattle.std.proofs.lemmas.List.FromFn.{get_or-enumerate_from, get_or-range_with_len, length-enumerate_from, length-range_with_len}
use Rattle.std.proofs.lemmas.Grind.{flat_map-append}
use Rattle.std.proofs.lemmas.Bool.{cases_eq, cases_lt}
use Rattle.lump_records.specs.declared.records.Node.{Node}
use Rattle.lump_records.specs.declared.records.Bounds.{Bounds}
use Rattle.wad_build.specs.Counts.{times_among}
use Rattle.wad_build.specs.Endings.{AreEndings, ends_in_lines}
use Rattle.tree_nodes.specs.InRange.{children, times_sub, times_node}
use Rattle.wad_build.specs.Range.{blocks_in, IsInRange}
use Rattle.wad_build.specs.Words.{words}
use Rattle.wad_build.proofs.AuditLemmas.{no_fault-in_range, in_range-no_fault}
use Rattle.std.proofs.lemmas.Bool.Decides.{nat_tests}
use Rattle.std.proofs.lemmas.List.Sums.{position_or_len_is, sum_by-cons, sum_by-append}
use Rattle.std.proofs.lemmas.List.{take_more, take_all, get_or_past}
use Rattle.lump_records.specs.declared.records.Sub.{Sub}
use Rattle.wad_build.specs.declared.fault.Fault.{Fault}
use Rattle.wad_build.specs.declared.fault.Fault.TheVariants.{SubRange, SubTotal, BlockList}
use Rattle.wad_levels.specs.Levels.{Lumps}
use Rattle.wad_build.specs.Audit.{first_some, first_wrong, fault_unless, sub_faults, sub_range, after_counts, node_children, list_faults, once_faults, lump_faults, first_fault, block_list, block_faults}

pub one_of : {X : Type 0} (o : Option X) → first_some (o ∷ []) ≡ o
one_of None = refl
one_of (Some x) = refl

-- the first of some, followed by others
pub first_append : {X : Type 0} (xs ys : List (Option X)) → first_some (xs ++ ys) ≡ first_some (first_some xs ∷ first_some ys ∷ [])
first_append [] ys = sym (one_of (first_some ys))
first_append (None ∷ xs) ys = first_append xs ys
first_append (Some x ∷ xs) ys = refl

-- the first n are right
abbrev pub IsBelow : {X : Type 0} → (X → Bool) → List X → ℕ → Type 0
IsBelow {X} right xs n = (k : ℕ) → k < n → (d : X) → right (get_or xs k d) ≡ true

pub wrong_found : {X : Type 0} (right : X → Bool) (xs : List X) (n : ℕ) (d : X) → n < length xs → IsBelow right xs n → right (get_or xs n d) ≡ false → first_wrong right xs ≡ Some n
wrong_found right xs n d h before here =
    let at = position_or_len_is (λ x. not (right x)) xs n d (omega arith) (λ k lt. ap not (before k lt d)) (λ _. ap not here) in
    let below : nat_lt n (length xs) ≡ true = grind (arith, nat_tests) in
    ap (λ (k : ℕ). cond (nat_lt k (length xs)) (Some k) None) at ∙ ap (λ (b : Bool). cond b (Some n) None) below

pub wrong_none : {X : Type 0} (right : X → Bool) (xs : List X) (d : X) → IsBelow right xs (length xs) → first_wrong right xs ≡ None
wrong_none right xs d all =
    let at = position_or_len_is (λ x. not (right x)) xs (length xs) d (omega arith) (λ k lt. ap not (all k lt d)) (λ lt. absurd (omega arith)) in
    let past : nat_lt (length xs) (length xs) ≡ false = grind (arith, nat_tests) in
    ap (λ (k : ℕ). cond (nat_lt k (length xs)) (Some k) None) at ∙ ap (λ (b : Bool). cond b (Some (length xs)) None) past

-- ---- subsectors

length_counts : (at : ℕ) (subs : List Sub) → length (after_counts at subs) ≡ length subs
length_counts at [] = refl
length_counts at (s ∷ subs) = ap suc (length_counts (at + s.count) subs)

-- the n-th subsector, paired with the sum of the counts before it
counts_at : (at : ℕ) (subs : List Sub) (n : ℕ) (d : ℕ × Sub) → n < length subs → get_or (after_counts at subs) n d ≡ (at + sum_by (λ s. s.count) (take n subs), get_or subs n d.1)
counts_at at [] n d h = absurd (omega arith)
counts_at at (s ∷ subs) zero d h = let e : at ≡ at + 0 = omega arith in ap (λ (k : ℕ). (k, s)) e
counts_at at (s ∷ subs) (suc n) d h =
    let c = sum_by-cons (λ (x : Sub). x.count) s (take n subs) in
    let e : at + s.count + sum_by (λ (x : Sub). x.count) (take n subs) ≡ at + sum_by (λ (x : Sub). x.count) (s ∷ take n subs) = omega (arith, c) in
    counts_at (at + s.count) subs n d (omega arith) ∙ ap (λ (k : ℕ). (k, get_or subs n d.1)) e

pub record SubsSoFar (subs : List Sub) (n at : ℕ) : Type 0 where
  pub at_is : at ≡ sum_by (λ s. s.count) (take n subs)
  pub small : at ≤ 98302
  pub before : IsBelow sub_range (after_counts 0 subs) n

begins : (at : ℕ) (s : Sub) → sub_range (at, s) ≡ true → at ≤ 32767
begins at s e = grind (arith, nat_tests)

here : (subs : List Sub) (n at : ℕ) (s : Sub) (d : ℕ × Sub) → n < length subs → get_or subs n d.1 ≡ s → at ≡ sum_by (λ s. s.count) (take n subs) → get_or (after_counts 0 subs) n d ≡ (at, s)
here subs n at s d h is e =
    let c = counts_at 0 subs n d h in
    let z : 0 + sum_by (λ (x : Sub). x.count) (take n subs) ≡ at = omega (arith, e) in
    c ∙ ap (λ (k : ℕ). (k, get_or subs n d.1)) z ∙ ap (λ (x : Sub). (at, x)) is

pub subs_more :
    (subs : List Sub) (n at : ℕ) (s : Sub) → n < length subs → ((d : Sub) → get_or subs n d ≡ s) → s.count < 65536 → sub_range (at, s) ≡ true → SubsSoFar subs n at
    → SubsSoFar subs (n + 1) (at + s.count)
subs_more subs n at s h is few right o =
    let t = take_more subs n s h ∙ ap (λ (x : Sub). take n subs ++ x ∷ []) (is s) in
    let e = o.at_is in
    let sum : sum_by (λ (x : Sub). x.count) (take (n + 1) subs)
    ≡ sum_by (λ (x : Sub). x.count) (take n subs)
    + s.count = ap (sum_by (λ (x : Sub). x.count)) t ∙ sum_by-append (λ (x : Sub). x.count) (take n subs) (s ∷ []) ∙ ap (λ (m : ℕ). sum_by (λ (x : Sub). x.count) (take n subs) + m)
    (zero-add s.count) in
    let b = begins at s right in
    record {
      at_is = omega (arith, e, sum);
      small = omega (arith, b, few);
      before = below_more (λ k. (d : ℕ × Sub) → sub_range (get_or (after_counts 0 subs) k d) ≡ true) n o.before (λ d. ap sub_range (here subs n at s d h (is d.1) o.at_is) ∙ right);
    }

pub sub_wrong :
    (l : Lumps) (n at : ℕ) (s : Sub) → n < length l.subs → ((d : Sub) → get_or l.subs n d ≡ s) → sub_range (at, s) ≡ false → SubsSoFar l.subs n at → Some (SubRange n) ≡ first_some (sub_faults l)
sub_wrong l n at s h is wrong o =
    let long = length_counts 0 l.subs in
    let e = wrong_found sub_range (after_counts 0 l.subs) n (0, s) (omega (arith, long, h)) o.before (ap sub_range (here l.subs n at s (0, s) h (is s) o.at_is) ∙ wrong) in
    ap (λ (o : Option ℕ). first_some (option_map SubRange o ∷ fault_unless (sum_by (λ (x : Sub). x.count) l.subs == length l.segs) SubTotal ∷ [])) (sym e)

none_wrong : (l : Lumps) (n at : ℕ) → length l.subs ≤ n → SubsSoFar l.subs n at → first_wrong sub_range (after_counts 0 l.subs) ≡ None
none_wrong l n at h o =
    let long = length_counts 0 l.subs in
    wrong_none sub_range (after_counts 0 l.subs) (0, record { count = 0; first = 0 }) (λ k lt d. o.before k (omega (arith, long, lt, h)) d)

total : (l : Lumps) (n at : ℕ) → length l.subs ≤ n → SubsSoFar l.subs n at → sum_by (λ s. s.count) l.subs ≡ at
total l n at h o = ap (sum_by (λ (x : Sub). x.count)) (sym (take_all n l.subs h)) ∙ sym o.at_is

pub total_wrong : (l : Lumps) (n at : ℕ) → length l.subs ≤ n → SubsSoFar l.subs n at → (at ≡ length l.segs → ⊥) → Some SubTotal ≡ first_some (sub_faults l)
total_wrong l n at h o ne =
    let t = total l n at h o in
    let b : (sum_by (λ (x : Sub). x.count) l.subs == length l.segs) ≡ false = unequal _ _ (λ e. ne (sym t ∙ e)) in
    ap (λ (c : Bool). first_some (option_map SubRange None ∷ fault_unless c SubTotal ∷ [])) (sym b)
    ∙ ap (λ (p : Option ℕ). first_some (option_map SubRange p ∷ fault_unless (sum_by (λ (x : Sub). x.count) l.subs == length l.segs) SubTotal ∷ [])) (sym (none_wrong l n at h o))
  where
    unequal : (a b : ℕ) → (a ≡ b → ⊥) → (a == b) ≡ false
    unequal a b ne = grind (arith, nat_tests)

pub subs_right : (l : Lumps) (n at : ℕ) → length l.subs ≤ n → SubsSoFar l.subs n at → at ≡ length l.segs → None ≡ first_some (sub_faults l)
subs_right l n at h o eq =
    let t = total l n at h o in
    let b : (sum_by (λ (x : Sub). x.count) l.subs == length l.segs) ≡ true = grind (arith, nat_tests, t, eq) in
    ap (λ (c : Bool). first_some (option_map SubRange None ∷ fault_unless c SubTotal ∷ [])) (sym b)
    ∙ ap (λ (p : Option ℕ). first_some (option_map SubRange p ∷ fault_unless (sum_by (λ (x : Sub). x.count) l.subs == length l.segs) SubTotal ∷ [])) (sym (none_wrong l n at h o))

-- ---- children

numbered : (nodes : List Node) (n : ℕ) (d : ℕ × Node) → n < length nodes → get_or (enumerate_from 0 nodes) n d ≡ (n, get_or nodes n d.1)
numbered nodes n d h = get_or-enumerate_from 0 nodes n d h ∙ ap (λ (k : ℕ). (k, get_or nodes n d.1)) (zero-add n)

-- the first node with a child out of range
pub child_wrong :
    (l : Lumps) (n : ℕ) (node : Node) → n < length l.nodes → get_or l.nodes n node ≡ node → IsBelow (node_children l) (enumerate_from 0 l.nodes) n → node_children l (n, node) ≡ false
    → Some n ≡ first_wrong (node_children l) (enumerate_from 0 l.nodes)
child_wrong l n node h is before wrong =
    let long = length-enumerate_from 0 l.nodes in
    sym (wrong_found (node_children l) (enumerate_from 0 l.nodes) n (0, node) (omega (arith, long, h)) before
    (ap (node_children l) (numbered l.nodes n (0, node) h ∙ ap (λ (m : Node). (n, m)) is) ∙ wrong))

pub child_more :
    (l : Lumps) (n : ℕ) (node : Node) → n < length l.nodes → ((d : Node) → get_or l.nodes n d ≡ node) → IsBelow (node_children l) (enumerate_from 0 l.nodes) n → node_children l (n, node) ≡ true
    → IsBelow (node_children l) (enumerate_from 0 l.nodes) (n + 1)
child_more l n node h is before right =
    below_more (λ k. (d : ℕ × Node) → node_children l (get_or (enumerate_from 0 l.nodes) k d) ≡ true) n before
    (λ d. ap (node_children l) (numbered l.nodes n d h ∙ ap (λ (m : Node). (n, m)) (is d.1)) ∙ right)

pub child_none : (l : Lumps) (n : ℕ) (node : Node) → length l.nodes ≤ n → IsBelow (node_children l) (enumerate_from 0 l.nodes) n → None ≡ first_wrong (node_children l) (enumerate_from 0 l.nodes)
child_none l n node h before =
    let long = length-enumerate_from 0 l.nodes in
    sym (wrong_none (node_children l) (enumerate_from 0 l.nodes) (0, node) (λ k lt d. before k (omega (arith, long, lt, h)) d))

-- how often numbers are children

times_at : (base end : ℕ) (cs : List ℕ) (len n d : ℕ) → n < len → (times_among base end cs (get_or (range_with_len 0 len) n d) == 1) ≡ (times_among base end cs n == 1)
times_at base end cs len n d h = ap (λ (k : ℕ). times_among base end cs k == 1) (get_or-range_with_len 0 len n d h ∙ zero-add n)

pub once_wrong :
    (base end : ℕ) (cs : List ℕ) (len n : ℕ) → n < len → IsBelow (λ n. times_among base end cs n == 1) (range_with_len 0 len) n → (times_among base end cs n == 1) ≡ false
    → Some n ≡ first_wrong (λ n. times_among base end cs n == 1) (range_with_len 0 len)
once_wrong base end cs len n h before wrong =
    let long = length-range_with_len 0 len in
    sym (wrong_found (λ n. times_among base end cs n == 1) (range_with_len 0 len) n 0 (omega (arith, long, h)) before (times_at base end cs len n 0 h ∙ wrong))

pub once_more :
    (base end : ℕ) (cs : List ℕ) (len n : ℕ) → n < len → IsBelow (λ n. times_among base end cs n == 1) (range_with_len 0 len) n → (times_among base end cs n == 1) ≡ true
    → IsBelow (λ n. times_among base end cs n == 1) (range_with_len 0 len) (n + 1)
once_more base end cs len n h before right =
    below_more (λ k. (d : ℕ) → (times_among base end cs (get_or (range_with_len 0 len) k d) == 1) ≡ true) n before (λ d. times_at base end cs len n d h ∙ right)

pub once_none :
    (base end : ℕ) (cs : List ℕ) (len n : ℕ) → len ≤ n → IsBelow (λ n. times_among base end cs n == 1) (range_with_len 0 len) n
    → None ≡ first_wrong (λ n. times_among base end cs n == 1) (range_with_len 0 len)
once_none base end cs len n h before =
    let long = length-range_with_len 0 len in
    sym (wrong_none (λ n. times_among base end cs n == 1) (range_with_len 0 len) 0 (λ k lt d. before k (omega (arith, long, lt, h)) d))

-- a count to 2 is 1 where the number is
pub counted_once : (count times : ℕ) → count ≡ min 2 times → count ≡ 1 → (times == 1) ≡ true
counted_once count times e is = grind (arith, nat_tests)

pub not_counted_once : (count times : ℕ) → count ≡ min 2 times → (count ≡ 1 → ⊥) → (times == 1) ≡ false
not_counted_once count times e not = by (cases_eq times 1)
  where
    by : (times ≡ 1) ⊎ (times ≢ 1) → (times == 1) ≡ false
    by (inl is) = absurd (not (omega (arith, e, is)))
    by (inr ne) = grind (arith, nat_tests)

abbrev pub both : Node → List ℕ
both m = m.right ∷ m.left ∷ []

pub children_more :
    (nodes : List Node) (n : ℕ) (node : Node) (all : List ℕ) → n < length nodes → get_or nodes n node ≡ node → all ≡ flat_map both (take n nodes)
    → (all ++ node.right ∷ []) ++ node.left ∷ [] ≡ flat_map both (take (n + 1) nodes)
children_more nodes n node all h is so_far =
    let more : take (n + 1) nodes ≡ take n nodes ++ node ∷ [] = take_more nodes n node h ∙ ap (λ (m : Node). take n nodes ++ m ∷ []) is in
    append_assoc all (node.right ∷ []) (node.left ∷ [])
    ∙ ap (λ (cs : List ℕ). cs ++ both node) so_far
    ∙ sym (flat_map-append both (take n nodes) (node ∷ []))
    ∙ ap (flat_map both) (sym more)

pub children_all : (nodes : List Node) (n : ℕ) (all : List ℕ) → 0 < length nodes → length nodes ≤ n → all ≡ flat_map both (take n nodes) → all ≡ children nodes
children_all [] n all some h so_far = absurd (omega arith)
children_all (node ∷ nodes) n all some h so_far = so_far ∙ ap (flat_map both) (take_all n (node ∷ nodes) h)

abbrev no_box : Bounds
no_box = record { top = pos 0; bottom = pos 0; left = pos 0; right = pos 0 }

abbrev pub no_node : Node
no_node = record { x = pos 0; y = pos 0; dx = pos 0; dy = pos 0; right_box = no_box; left_box = no_box; right = 0; left = 0 }

-- ---- the whole audit

pub found_first : {X : Type 0} (xs ys : List (Option X)) (f : X) → first_some xs ≡ Some f → first_some (xs ++ ys) ≡ Some f
found_first {X = X} xs ys f e = first_append xs ys ∙ ap (λ (o : Option X). first_some (o ∷ first_some ys ∷ [])) e

pub not_first : {X : Type 0} (xs ys : List (Option X)) → first_some xs ≡ None → first_some (xs ++ ys) ≡ first_some ys
not_first {X = X} xs ys e = first_append xs ys ∙ ap (λ (o : Option X). first_some (o ∷ first_some ys ∷ [])) e ∙ one_of (first_some ys)

pub in_lists : (l : Lumps) (f : Fault) → first_some (list_faults l) ≡ Some f → Some f ≡ first_fault l
in_lists l f e =
    sym (found_first (list_faults l ++ once_faults l) (lump_faults l) f (found_first (list_faults l) (once_faults l) f e))

pub in_once : (l : Lumps) (f : Fault) → first_some (list_faults l) ≡ None → first_some (once_faults l) ≡ Some f → Some f ≡ first_fault l
in_once l f n e =
    sym (found_first (list_faults l ++ once_faults l) (lump_faults l) f (not_first (list_faults l) (once_faults l) n ∙ e))

pub in_lumps : (l : Lumps) (o : Option Fault) → first_some (list_faults l) ≡ None → first_some (once_faults l) ≡ None → o ≡ first_some (lump_faults l) → o ≡ first_fault l
in_lumps l o n m e =
    e ∙ sym (not_first (list_faults l ++ once_faults l) (lump_faults l) (not_first (list_faults l) (once_faults l) n ∙ m))

pub sound_by : (l : Lumps) (o : Option Fault) → o ≡ first_fault l → (o ≡ None) ↔ IsInRange l
sound_by l o e = (λ h. no_fault-in_range l (sym e ∙ h), λ r. e ∙ in_range-no_fault l r)

-- ---- numbers of children

count_agree : {X : Type 0} (p q : X → Bool) (xs : List X) → All (λ x. p x ≡ q x) xs → count_by p xs ≡ count_by q xs
count_agree p q [] a = refl
count_agree p q (x ∷ xs) a =
    sum_by-cons (λ y. cond (p y) 1 0) x xs
    ∙ ap (λ (b : Bool). cond b 1 0 + count_by p xs) (All-head (λ x. p x ≡ q x) x xs a)
    ∙ ap (λ (m : ℕ). cond (q x) 1 0 + m) (count_agree p q xs (All-tail (λ x. p x ≡ q x) x xs a))
    ∙ sym (sum_by-cons (λ y. cond (q y) 1 0) x xs)

wrong_agree : {X : Type 0} (p q : X → Bool) → ((x : X) → p x ≡ q x) → (xs : List X) → first_wrong p xs ≡ first_wrong q xs
wrong_agree {X = X} p q h xs = ap (λ (k : ℕ). cond (nat_lt k (length xs)) (Some k) None) (same_place xs)
  where
    same_place : (xs : List X) → position_or_len (λ x. not (p x)) xs ≡ position_or_len (λ x. not (q x)) xs
    same_place [] = refl
    same_place (x ∷ xs) = ap (λ (b : Bool). cond (not (not b)) (1 + position_or_len (λ y. not (p y)) xs) 0) (h x) ∙ ap (λ (m : ℕ). cond (not (not (q x))) (1 + m) 0) (same_place xs)

below_all : (c s : ℕ) → c < 65536 → (nat_lt c 65536 && (c == (32768 + s))) ≡ (c == (32768 + s))
below_all c s h = let t : nat_lt c 65536 ≡ true = grind (arith, nat_tests) in ap (λ (b : Bool). b && (c == (32768 + s))) t

-- the first subsector that isn't a child once
pub sub_same :
    (l : Lumps) (cs : List ℕ) (len : ℕ) → ((i : ℕ) → get_or cs i 0 < 65536) → cs ≡ children l.nodes
    → first_wrong (λ s. times_among 32768 65536 cs s == 1) (range_with_len 0 len) ≡ first_wrong (λ s. times_sub l.nodes s == 1) (range_with_len 0 len)
sub_same l cs len fit e =
    wrong_agree (λ s. times_among 32768 65536 cs s == 1) (λ s. times_sub l.nodes s == 1) each (range_with_len 0 len)
  where
    each : (s : ℕ) → (times_among 32768 65536 cs s == 1) ≡ (times_sub l.nodes s == 1)
    each s =
        ap (λ (k : ℕ). k == 1)
        (count_agree (λ c. nat_lt c 65536 && (c == (32768 + s))) (λ c. c == (32768 + s)) cs
        (All-from_get_or (λ c. (nat_lt c 65536 && (c == (32768 + s))) ≡ (c == (32768 + s))) cs 0 (λ i h. below_all (get_or cs i 0) s (fit i)))
        ∙ ap (count_by (λ c. c == (32768 + s))) e)

-- the first node
pub node_same :
    (l : Lumps) (cs : List ℕ) (len : ℕ) → cs ≡ children l.nodes
    → first_wrong (λ i. times_among 0 32768 cs i == 1) (range_with_len 0 len) ≡ first_wrong (λ i. times_node l.nodes i == 1) (range_with_len 0 len)
node_same l cs len e =
    wrong_agree (λ i. times_among 0 32768 cs i == 1) (λ i. times_node l.nodes i == 1) each (range_with_len 0 len)
  where
    each : (i : ℕ) → (times_among 0 32768 cs i == 1) ≡ (times_node l.nodes i == 1)
    each i =
        ap (λ (k : ℕ). count_by (λ c. nat_lt c 32768 && (c == k)) cs == 1) (zero-add i)
        ∙ ap (λ (ds : List ℕ). count_by (λ c. nat_lt c 32768 && (c == i)) ds == 1) e

-- ---- blocks

pub flag_right : (l : Lumps) (ws : List ℕ) (flags : List Bool) → AreEndings (length l.lines) ws 0 flags → length flags ≡ min (length ws) 32768 → (at : ℕ) → get_or flags at false ≡ block_list l ws at
flag_right l ws flags a e at = by (cases_lt at (length flags))
  where
    both_in : nat_lt at (length ws) ≡ true → nat_le at 32767 ≡ true → ends_in_lines (length l.lines) (drop at ws) ≡ block_list l ws at
    both_in p q = rw (p, q) refl

    out : (b c r : Bool) → (b && c) ≡ false → false ≡ (b && c && r)
    out b c r e = rw e refl

    by : (at < length flags) ⊎ (length flags ≤ at) → get_or flags at false ≡ block_list l ws at
    by (inl h) =
        a.each at (omega arith) h
        ∙ both_in (let k : at < length ws = omega (arith, h, e) in grind (arith, nat_tests)) (let k : at ≤ 32767 = omega (arith, h, e) in grind (arith, nat_tests))
    by (inr h) =
        get_or_past flags at false h
        ∙ out (nat_lt at (length ws)) (nat_le at 32767) (ends_in_lines (length l.lines) (drop at ws)) (past (cases_lt at (length ws)))
      where
        past : (at < length ws) ⊎ (length ws ≤ at) → (nat_lt at (length ws) && nat_le at 32767) ≡ false
        past (inl k) = let m : 32767 < at = omega (arith, k, h, e) in let f : nat_le at 32767 ≡ false = grind (arith, nat_tests) in rw f (and_false (nat_lt at (length ws)))
          where
            and_false : (b : Bool) → (b && false) ≡ false
            and_false true = refl
            and_false false = refl
        past (inr k) = let f : nat_lt at (length ws) ≡ false = grind (arith, nat_tests) in rw f refl

pub blocks_same :
    (l : Lumps) (ws : List ℕ) (flags : List Bool) → AreEndings (length l.lines) ws 0 flags → length flags ≡ min (length ws) 32768 → (xs : List ℕ)
    → first_wrong (λ at. get_or flags at false) xs ≡ first_wrong (block_list l ws) xs
blocks_same l ws flags a e xs = wrong_agree (λ at. get_or flags at false) (block_list l ws) (flag_right l ws flags a e) xs

pub block_first :
    (l : Lumps) (lump : List ℕ) (lines blocks : ℕ) (flags shown : List Bool) (n : Option ℕ) → lump ≡ words l.blockmap → lines ≡ length l.lines → AreEndings lines lump 0 flags
    → length flags ≡ min (length lump) 32768 → shown ≡ flags → blocks ≡ blocks_in lump → n ≡ first_wrong (λ at. get_or shown at false) (take (4 + blocks - 4) (drop 4 lump))
    → option_map BlockList n ≡ first_some (block_faults l)
block_first l lump lines blocks flags shown n e k a len s b q =
    let ends : AreEndings (length l.lines) lump 0 flags = subst (λ (m : ℕ). AreEndings m lump 0 flags) k a in
    let same : 4 + blocks - 4 ≡ blocks_in lump = omega (arith, b) in
    let found : n ≡ first_wrong (block_list l lump) (take (blocks_in lump) (drop 4 lump)) =
    q
    ∙ ap (λ (fs : List Bool). first_wrong (λ at. get_or fs at false) (take (4 + blocks - 4) (drop 4 lump))) s
    ∙ ap (λ (m : ℕ). first_wrong (λ at. get_or flags at false) (take m (drop 4 lump))) same
    ∙ blocks_same l lump flags ends len (take (blocks_in lump) (drop 4 lump)) in
    ap (option_map BlockList) found
    ∙ ap (λ (ws : List ℕ). option_map BlockList (first_wrong (block_list l ws) (take (blocks_in ws) (drop 4 ws)))) e
    ∙ sym (one_of (option_map BlockList (first_wrong (block_list l (words l.blockmap)) (take (blocks_in (words l.blockmap)) (drop 4 (words l.blockmap))))))
