-- In the nodes of a tree each subsector and each node but the root is a child once.
use Rattle.std.proofs.Common.{◌≡◌, refl, sym, ap, ◌∙◌, ℕ, zero, suc, ◌+◌, ◌-◌, ◌≤◌, ◌<◌, ◌⊎◌, ⊎_elim, List, [], ◌∷◌, ◌++◌, Bool, cond, arith}
use Rattle.std.specs.Prelude.{count_by, nat_eq}
use Rattle.std.proofs.lemmas.Bool.{cases_eq, eq-eqb, ne_eqb}
use Rattle.std.proofs.lemmas.List.Sums.{sum_by-append, sum_by-cons}
use Rattle.lump_records.specs.declared.records.Node.{Node}
use Rattle.tree_pieces.specs.declared.edge.Edge.{Edge}
use Rattle.tree_pieces.specs.Tree.{Tree, Leaf, Branch}
use Rattle.tree_nodes.specs.InRange.{below_each}
use Rattle.tree_nodes.specs.References.{subsector, times_child}
use Rattle.tree_nodes.specs.TreeLists.{leaf_count, branch_count, child_of, HasNodes}

-- 1 where x is at least a, else 0
abbrev pub from_on : ℕ → ℕ → ℕ
from_on x a = (x + 1 - a) - (x - a)

-- 1 where x is one of the k numbers from a on
abbrev pub among : ℕ → ℕ → ℕ → ℕ
among x a k = from_on x a - from_on x (a + k)

pub among_none : (x a : ℕ) → among x a 0 ≡ 0
among_none x a = omega arith

pub among_more : (x a k l : ℕ) → among x a (k + l) ≡ among x a k + among x (a + k) l
among_more x a k l = omega arith

pub among_yes : (x a k : ℕ) → a ≤ x → x < a + k → among x a k ≡ 1
among_yes x a k h l = omega arith

pub among_no : (x a k : ℕ) → (x < a ⊎ a + k ≤ x) → among x a k ≡ 0
among_no x a k h = ⊎_elim (λ l. omega arith) (λ l. omega arith) h

one_test : (x y : ℕ) → cond (nat_eq x y) 1 0 ≡ among x y 1
one_test x y = ⊎_elim (λ e. ap (λ (b : Bool). cond b 1 0) (eq-eqb x y e) ∙ omega arith) (λ n. ap (λ (b : Bool). cond b 1 0) (ne_eqb x y n) ∙ differ (x - y) refl n) (cases_eq x y)
  where
    differ : (d : ℕ) → x - y ≡ d → (x ≡ y → ⊥) → 0 ≡ among x y 1
    differ zero e n = ⊎_elim (λ (s : y ≡ x). absurd (n (sym s))) (λ (m : y ≡ x → ⊥). by_less (y - x) refl m) (cases_eq y x)
      where
        by_less : (d : ℕ) → y - x ≡ d → (y ≡ x → ⊥) → 0 ≡ among x y 1
        by_less zero f m = absurd (m (omega arith))
        by_less (suc d) f m = omega arith
    differ (suc d) e n = omega arith

-- how often x is in a list
abbrev pub times : ℕ → List ℕ → ℕ
times x xs = count_by (nat_eq x) xs

pub times_cons : (x y : ℕ) (ys : List ℕ) → times x (y ∷ ys) ≡ among x y 1 + times x ys
times_cons x y ys = sum_by-cons (λ (z : ℕ). cond (nat_eq x z) 1 0) y ys ∙ ap (λ (n : ℕ). n + times x ys) (one_test x y)

pub times_append : (x : ℕ) (xs ys : List ℕ) → times x (xs ++ ys) ≡ times x xs + times x ys
times_append x xs ys = sum_by-append (λ (z : ℕ). cond (nat_eq x z) 1 0) xs ys

below_append : (ms bs : List Node) → below_each (ms ++ bs) ≡ below_each ms ++ below_each bs
below_append [] bs = refl
below_append (a ∷ ms) bs = ap (λ (ns : List ℕ). a.right ∷ a.left ∷ ns) (below_append ms bs)

-- the child that stands for a tree and the children in its nodes: each number of its subsectors and nodes once
pub once : (lines : List Edge) (t : Tree) (s n : ℕ) (nodes : List Node) (x : ℕ) → HasNodes lines t s n nodes
    → among x (child_of t s n) 1 + times_child nodes x ≡ among x (subsector s) (leaf_count t)
    + among x n (branch_count t)
once lines (Leaf ps) s n nodes x h =
    let e : times_child nodes x ≡ 0 = ap (λ (ns : List Node). times_child ns x) h in
    let z = among_none x n in
    omega arith
once lines (Branch p right left) s n nodes x h =
    let br = h.0 in
    let bl = h.1 in
    let node = h.2 in
    let a = branch_count right in
    let b = branch_count left in
    let c = leaf_count right in
    let d = leaf_count left in
    let all : times_child nodes x ≡ times x ((below_each br ++ below_each bl) ++ (node.right ∷ node.left ∷ [])) =
    ap (λ (ns : List Node). times x (below_each ns)) h.3 ∙ ap (times x) (below_append (br ++ bl) (node ∷ []) ∙ ap (λ (ns : List ℕ). ns ++ (node.right ∷ node.left ∷ [])) (below_append br bl)) in
    let s1 = times_append x (below_each br ++ below_each bl) (node.right ∷ node.left ∷ []) in
    let s2 = times_append x (below_each br) (below_each bl) in
    let s3 = times_cons x node.right (node.left ∷ []) in
    let s4 = times_cons x node.left [] in
    let r = once lines right s n br x h.4 in
    let l = once lines left (s + c) (n + a) bl x h.5 in
    let er = ap (λ (k : ℕ). among x k 1) h.7 in
    let el = ap (λ (k : ℕ). among x k 1) h.8 in
    let m1 = among_more x (subsector s) c d in
    let m2 = among_more x n (a + b) 1 in
    let m3 = among_more x n a b in
    let moved : among x (subsector (s + c)) d ≡ among x (subsector s + c) d = ap (λ (k : ℕ). among x k d) (omega arith) in
    let top : among x (n + a + b) 1 ≡ among x (n + (a + b)) 1 = ap (λ (k : ℕ). among x k 1) (omega arith) in
    summed (times_child nodes x) (times_child br x) (times_child bl x) (among x node.right 1) (among x node.left 1)
    (among x (child_of right s n) 1) (among x (child_of left (s + c) (n + a)) 1) (among x (subsector s) c)
    (among x (subsector (s + c)) d) (among x (subsector s + c) d) (among x (subsector s) (c + d)) (among x n a)
    (among x (n + a) b) (among x n (a + b)) (among x (n + (a + b)) 1) (among x (n + a + b) 1)
    (among x n (a + b + 1))
    (all ∙ s1 ∙ ap (λ (k : ℕ). k + times x (node.right ∷ node.left ∷ [])) s2
    ∙ ap (λ (k : ℕ). times x (below_each br) + times x (below_each bl) + k)
    (s3 ∙ ap (λ (k : ℕ). among x node.right 1 + k) s4)) r l er el m1 m2 m3 moved top
  where
    summed : (whole wr wl ar al cr cl u v v' uv i j ij k k' ijk : ℕ) → whole ≡ wr + wl + (ar + (al + 0)) → cr + wr ≡ u
        + i → cl + wl ≡ v + j → ar ≡ cr → al ≡ cl → uv ≡ u + v' → ijk ≡ ij + k → ij ≡ i + j → v ≡ v' → k' ≡ k → k'
        + whole ≡ uv + ijk
    summed whole wr wl ar al cr cl u v v' uv i j ij k k' ijk e1 e2 e3 e4 e5 e6 e7 e8 e9 e10 = omega arith
