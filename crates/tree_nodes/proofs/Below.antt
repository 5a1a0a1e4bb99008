-- The segs below a child are those of the tree that it stands for.
use Rattle.std.proofs.Common.{◌≡◌, refl, sym, ap, ◌∙◌, subst, ℕ, zero, suc, ◌+◌, ◌≤◌, ◌<◌, ◌⊎◌, inl, inr, ⊎_elim, List, [], ◌∷◌, length, Some, arith, slice_get}
use Rattle.std.proofs.lemmas.Bool.{cases_lt}
use Rattle.std.proofs.lemmas.List.{length-append}
use Rattle.lump_records.specs.declared.records.Sub.{Sub}
use Rattle.lump_records.specs.declared.records.Node.{Node}
use Rattle.tree_pieces.specs.declared.edge.Edge.{Edge}
use Rattle.tree_pieces.specs.declared.piece.Piece.{Piece}
use Rattle.tree_pieces.specs.Pieces.{ray_of}
use Rattle.tree_pieces.specs.Tree.{Tree, Leaf, Branch, pieces}
use Rattle.tree_pieces.specs.Segs.{InSub}
use Rattle.tree_pieces.specs.Nodes.{Below, in_sub, on_right, on_left, IsLeastBox, node_ray}
use Rattle.tree_nodes.specs.TreeLists.{leaf_count, branch_count, child_of, IsEndOf}

-- an element stands at each place
pub at_place : {X : Type 0} (xs : List X) (i : ℕ) → i < length xs → (x : X) × (slice_get xs i ≡ Some x)
at_place [] i h = absurd (omega arith)
at_place (x ∷ xs) zero h = (x, refl)
at_place (x ∷ xs) (suc i) h = at_place xs i (omega arith)

module _ (nodes : List Node) (subs : List Sub) where
  abbrev pub SubCase : ℕ → ℕ → Type 0
  SubCase c i = (n : ℕ) × (sub : Sub) × (c ≡ 32768 + n) × (slice_get subs n ≡ Some sub) × InSub sub i

  abbrev pub NodeCase : ℕ → ℕ → Type 0
  NodeCase c i = (node : Node) × (c < 32768) × (slice_get nodes c ≡ Some node) × (Below nodes subs node.right i ⊎ Below nodes subs node.left i)

  pub below_cases : {c i : ℕ} → Below nodes subs c i → SubCase c i ⊎ NodeCase c i
  below_cases (in_sub n i sub e h) = inl (n, sub, refl, e, h)
  below_cases (on_right node l e b) = inr (node, l, e, inl b)
  below_cases (on_left node l e b) = inr (node, l, e, inr b)

  module _ (lines : List Edge) where
    -- the node of a branch
    abbrev pub IsNodeOf : Piece → Tree → Tree → ℕ → ℕ → Node → Type 0
    IsNodeOf p right left s n node =
        (slice_get nodes (n + branch_count right + branch_count left) ≡ Some node) ×
        (node_ray node ≡ ray_of lines p) ×
        (node.right ≡ child_of right s n) ×
        (node.left ≡ child_of left (s + leaf_count right) (n + branch_count right)) ×
        IsLeastBox node.right_box (IsEndOf lines (pieces right)) ×
        IsLeastBox node.left_box (IsEndOf lines (pieces left))

    -- a tree's leaves and branches lie in the lists from the subsector s, the node n and the seg b on
    abbrev pub IsLaid : Tree → ℕ → ℕ → ℕ → Type 0
    IsLaid (Leaf ps) s n b = (sub : Sub) × (slice_get subs s ≡ Some sub) × (sub.first ≡ b) × (sub.count ≡ length ps)
    IsLaid (Branch p right left) s n b =
        IsLaid right s n b ×
        IsLaid left (s + leaf_count right) (n + branch_count right) (b + length (pieces right)) ×
        ((node : Node) × IsNodeOf p right left s n node)

    leaf_range : (ps : List Piece) (s b i : ℕ) (sub : Sub) → slice_get subs s ≡ Some sub → sub.first ≡ b → sub.count
        ≡ length ps → (m : ℕ) (other : Sub) → 32768 + s ≡ 32768 + m → slice_get subs m ≡ Some other → InSub other i
        → (b ≤ i) × (i < b + length ps)
    leaf_range ps s b i sub at first count m other e o h =
        let same : s ≡ m = omega arith in
        let u = ap (slice_get subs) same in
        let q : other ≡ sub = cc in
        let k = subst (λ (x : Sub). InSub x i) q h in
        let lo = k.0 in
        let hi = k.1 in (omega arith, omega arith)

    -- what is below a tree's child is a seg of the tree
    pub below_range : (t : Tree) (s n b i : ℕ) → n + branch_count t ≤ 32768 → IsLaid t s n b → Below nodes subs (child_of t s n) i → (b ≤ i) × (i < b + length (pieces t))
    below_range (Leaf ps) s n b i few h w =
        ⊎_elim (λ (c : SubCase (32768 + s) i). leaf_range ps s b i h.0 h.1 h.2 h.3 c.0 c.1 c.2 c.3 c.4) (λ (c : NodeCase (32768 + s) i). let l = c.1 in absurd (omega arith)) (below_cases w)
    below_range (Branch p right left) s n b i few h w =
        let l = length-append (pieces right) (pieces left) in
        ⊎_elim (λ (c : SubCase (n + branch_count right + branch_count left) i). let l = c.2 in absurd (omega arith))
        (λ (c : NodeCase (n + branch_count right + branch_count left) i).
        let u = c.2 in
        let v = h.2.1.0 in
        let q : c.0 ≡ h.2.0 = cc in
        ⊎_elim
        (λ r. let k = below_range right s n b i (omega arith) h.0
        (subst (λ (x : ℕ). Below nodes subs x i) (ap (λ (x : Node). x.right) q ∙ h.2.1.2) r) in let k0 =
        k.0 in let k1 = k.1 in (k0, omega arith))
        (λ r. let k = below_range left (s + leaf_count right) (n + branch_count right) (b + length (pieces right)) i
        (omega arith) h.1 (subst (λ (x : ℕ). Below nodes subs x i)
        (ap (λ (x : Node). x.left) q ∙ h.2.1.3) r) in let k0 = k.0 in let k1 = k.1 in (omega arith, omega arith))
        c.3)
        (below_cases w)

    -- and each seg of the tree is below
    pub below_there : (t : Tree) (s n b i : ℕ) → n + branch_count t ≤ 32768 → IsLaid t s n b → b ≤ i → i < b + length (pieces t) → Below nodes subs (child_of t s n) i
    below_there (Leaf ps) s n b i few h lo hi =
        let f = h.2 in
        let c = h.3 in
        in_sub s i h.0 h.1 (omega arith, omega arith)
    below_there (Branch p right left) s n b i few h lo hi =
        let l = length-append (pieces right) (pieces left) in
        ⊎_elim
        (λ k. on_right h.2.0 (omega arith) h.2.1.0 (subst (λ (x : ℕ). Below nodes subs x i) (sym h.2.1.2) (below_there right s n b i (omega arith) h.0 lo k)))
        (λ k. on_left h.2.0 (omega arith) h.2.1.0 (subst (λ (x : ℕ). Below nodes subs x i) (sym h.2.1.3)
        (below_there left (s + leaf_count right) (n + branch_count right) (b + length (pieces right)) i
        (omega arith) h.1 k (omega arith))))
        (cases_lt i (b + length (pieces right)))
