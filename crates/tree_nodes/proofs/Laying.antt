-- The lists of a tree lie where its numbers say.
use Rattle.std.proofs.Common.{◌≡◌, refl, ap, ◌∙◌, subst, ℕ, suc, ◌+◌, List, [], ◌∷◌, ◌++◌, length, Some, arith, slice_get}
use Rattle.std.proofs.lemmas.List.{length-append}
use Rattle.lump_records.specs.declared.records.Sub.{Sub}
use Rattle.lump_records.specs.declared.records.Node.{Node}
use Rattle.tree_pieces.specs.declared.edge.Edge.{Edge}
use Rattle.tree_pieces.specs.declared.piece.Piece.{Piece}
use Rattle.tree_pieces.specs.Tree.{Tree, Leaf, Branch, pieces, leaves, counts}
use Rattle.tree_nodes.specs.InRange.{Tiles}
use Rattle.tree_nodes.specs.References.{FollowsFrom}
use Rattle.tree_nodes.specs.Tiling.{count_list, total}
use Rattle.tree_nodes.specs.TreeLists.{leaf_count, branch_count, HasNodes}
use Rattle.tree_nodes.proofs.Counting.{counts_append, counts_many, nodes_many}
use Rattle.tree_nodes.proofs.Places.{get_left, get_right}
use Rattle.tree_nodes.proofs.Below.{IsLaid}

-- a list stands in another one from a place on
abbrev pub StandsAt : {X : Type 0} → List X → List X → ℕ → Type 0
StandsAt {X} xs whole n = (k : ℕ) (x : X) → slice_get xs k ≡ Some x → slice_get whole (n + k) ≡ Some x

pub stands_left : {X : Type 0} (xs ys whole : List X) (n : ℕ) → StandsAt (xs ++ ys) whole n → StandsAt xs whole n
stands_left xs ys whole n h = λ k x e. h k x (get_left xs ys k x e)

pub stands_right : {X : Type 0} (xs ys whole : List X) (n m : ℕ) → m ≡ n + length xs → StandsAt (xs ++ ys) whole n → StandsAt ys whole m
stands_right xs ys whole n m s h = λ k x e. let same : m + k ≡ n + (length xs + k) = omega arith in ap (slice_get whole) same ∙ h (length xs + k) x (get_right xs ys (length xs + k) k x refl e)

pub total_append : (xs ys : List ℕ) → total (xs ++ ys) ≡ total xs + total ys
total_append [] ys = omega arith
total_append (x ∷ xs) ys = let h = total_append xs ys in omega arith

-- the leaves' counts make up the pieces
pub counts_total : (t : Tree) → total (counts t) ≡ length (pieces t)
counts_total (Leaf ps) = omega arith
counts_total (Branch p right left) =
    let a = counts_total right in
    let b = counts_total left in
    let l = length-append (pieces right) (pieces left) in
    let c = ap total (counts_append (leaves right) (leaves left)) ∙ total_append (counts right) (counts left) in
    c ∙ omega arith

-- subsectors that follow one another tile what their counts make up
pub tiles_from : (at : ℕ) (us : List Sub) (to : ℕ) → FollowsFrom at us → at + total (count_list us) ≡ to → Tiles at us to
tiles_from at [] to f e = omega arith
tiles_from at (u ∷ us) to f e = (f.2, f.0, (let a = f.0 in let b = f.1 in omega arith), tiles_from (at + u.count) us to f.3 (omega arith))

pub record IsSplit (xs ys : List ℕ) (b : ℕ) (ts : List Sub) : Type 0 where
  pub us : List Sub
  pub vs : List Sub
  pub whole : ts ≡ us ++ vs
  pub us_counts : count_list us ≡ xs
  pub vs_counts : count_list vs ≡ ys
  pub us_follow : FollowsFrom b us
  pub vs_follow : FollowsFrom (b + total xs) vs

pub split_subs : (xs ys : List ℕ) (b : ℕ) (ts : List Sub) → count_list ts ≡ xs ++ ys → FollowsFrom b ts → IsSplit xs ys b ts
split_subs [] ys b ts e f =
    record {
      us = [];
      vs = ts;
      whole = refl;
      us_counts = refl;
      vs_counts = e;
      us_follow = tt;
      vs_follow = let z : b ≡ b
          + 0 = omega arith in subst (λ (k : ℕ). FollowsFrom k ts) z f;
    }
split_subs (x ∷ xs) ys b [] e f = cc
split_subs (x ∷ xs) ys b (t ∷ ts) e f =
    let c : t.count ≡ x = cc in
    let d : count_list ts ≡ xs ++ ys = cc in
    let r = split_subs xs ys (b + t.count) ts d f.3 in
    let z : b + t.count + total xs ≡ b + (x + total xs) = omega arith in
    record {
      us = t ∷ r.us;
      vs = r.vs;
      whole = ap (λ (l : List Sub). t ∷ l) r.whole;
      us_counts = ap (λ (l : List ℕ). t.count ∷ l) r.us_counts ∙ ap (λ (k : ℕ). k ∷ xs) c;
      vs_counts = r.vs_counts;
      us_follow = (f.0, f.1, f.2, r.us_follow);
      vs_follow = subst (λ (k : ℕ). FollowsFrom k r.vs) z r.vs_follow;
    }

pub counted : (ts : List Sub) (xs : List ℕ) → count_list ts ≡ xs → length ts ≡ length xs
counted [] [] e = refl
counted [] (x ∷ xs) e = cc
counted (t ∷ ts) [] e = cc
counted (t ∷ ts) (x ∷ xs) e = let d : count_list ts ≡ xs = cc in ap suc (counted ts xs d)

pub subs_many : (t : Tree) (ts : List Sub) → count_list ts ≡ counts t → length ts ≡ leaf_count t
subs_many t ts e = counted ts (counts t) e ∙ counts_many t

module _ (nodes : List Node) (subs : List Sub) (lines : List Edge) where
  laid_leaf : (ps : List Piece) (s n b : ℕ) (ts : List Sub) → count_list ts ≡ length ps ∷ [] → FollowsFrom b ts → StandsAt ts subs s → IsLaid nodes subs lines (Leaf ps) s n b
  laid_leaf ps s n b [] e f h = cc
  laid_leaf ps s n b (sub ∷ ts) e f h =
      let z : s ≡ s + 0 = omega arith in
      let c : sub.count ≡ length ps = cc in
      (sub, ap (slice_get subs) z ∙ h 0 sub refl, f.0, c)

  pub laid : (t : Tree) (s n b : ℕ) (ns : List Node) (ts : List Sub) → HasNodes lines t s n ns → StandsAt ns nodes n
      → count_list ts ≡ counts t → FollowsFrom b ts → StandsAt ts subs s → IsLaid nodes subs lines t s n b
  laid (Leaf ps) s n b ns ts h at e f g = laid_leaf ps s n b ts e f g
  laid (Branch p right left) s n b ns ts h at e f g =
      let d = split_subs (counts right) (counts left) b ts (e ∙ counts_append (leaves right) (leaves left)) f in
      let all : StandsAt (h.0 ++ h.1 ++ h.2 ∷ []) nodes n = subst (λ (l : List Node). StandsAt l nodes n) h.3 at in
      let whole : StandsAt (d.us ++ d.vs) subs s = subst (λ (l : List Sub). StandsAt l subs s) d.whole g in
      let a = nodes_many lines right s n h.0 h.4 in
      let c = nodes_many lines left (s + leaf_count right) (n + branch_count right) h.1 h.5 in
      let l = length-append h.0 h.1 in
      let m = subs_many right d.us d.us_counts in
      let tr = counts_total right in
      let z : b + total (counts right) ≡ b + length (pieces right) = omega arith in
      let below : StandsAt (h.0 ++ h.1) nodes n = stands_left (h.0 ++ h.1) (h.2 ∷ []) nodes n all in
      let last : StandsAt (h.2 ∷ []) nodes (n + branch_count right + branch_count left) = stands_right (h.0 ++ h.1) (h.2 ∷ []) nodes n (n + branch_count right + branch_count left) (omega arith) all in
      let y : n + branch_count right + branch_count left ≡ n + branch_count right + branch_count left + 0 = omega arith in (
        laid right s n b h.0 d.us h.4 (stands_left h.0 h.1 nodes n below) d.us_counts d.us_follow (stands_left d.us d.vs subs s whole),
        laid left (s + leaf_count right) (n + branch_count right) (b + length (pieces right)) h.1 d.vs h.5
            (stands_right h.0 h.1 nodes n (n + branch_count right) (omega arith) below) d.vs_counts
            (subst (λ (k : ℕ). FollowsFrom k d.vs) z d.vs_follow)
            (stands_right d.us d.vs subs s (s + leaf_count right) (omega arith) whole),
        (h.2, (ap (slice_get nodes) y ∙ last 0 h.2 refl, h.6, h.7, h.8, h.9, h.10)),
      )
