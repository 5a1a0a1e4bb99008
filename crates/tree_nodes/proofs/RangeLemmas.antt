-- A sound tree's references lie in their lists; what is built over a map's lines is built of the map.
use Rattle.std.proofs.Common.{◌≡◌, ◌≢◌, refl, sym, ap, ◌∙◌, subst, ℕ, zero, suc, ◌+◌, ◌<◌, ◌≤◌, ◌⊎◌, inl, inr, ⊎_elim, List, [], ◌∷◌, ◌++◌, length, map, Bool, true, false, Some, arith, slice_get, Result, Ok, Err, IfOk, IfErr}
use Rattle.std.specs.Prelude.{count_by, nat_eq, nat_lt, ◌==◌, ◌&&◌, not, IsTrue, AllPairs}
use Rattle.std.proofs.lemmas.Bool.{cases_eq, cases_lt, cases_order, eq-eqb, ne_eqb, lt-ltb}
use Rattle.std.proofs.lemmas.Option.{slice_get_within}
use Rattle.lump_records.specs.Sides.{no_side}
use Rattle.lump_records.specs.declared.records.Vertex.{Vertex}
use Rattle.lump_records.specs.declared.records.Line.{Line}
use Rattle.lump_records.specs.declared.records.Seg.{Seg}
use Rattle.lump_records.specs.declared.records.Sub.{Sub}
use Rattle.lump_records.specs.declared.records.Node.{Node}
use Rattle.map_tables.specs.Tables.{Tables}
use Rattle.tree_pieces.specs.declared.edge.Edge.{Edge}
use Rattle.tree_pieces.specs.Pieces.{edge_at}
use Rattle.tree_pieces.proofs.FirstList.{index_is}
use Rattle.tree_pieces.proofs.Lists.{All-at}
use Rattle.tree_pieces.specs.Edges.{edge_between, edges_in, edges_of}
use Rattle.tree_nodes.specs.References.{HasPlaces, IsChild, AreTree, times_child, subsector}
use Rattle.tree_nodes.specs.InRange.{sub_bit, SegInRange, ChildInRange, TreeInRange, times_sub, times_node, below_each}
use Rattle.tree_nodes.specs.Sound.{AllDiffer, AreNew, IsSound}
use Rattle.tree_nodes.specs.Built.{IsBuilt, IsBuiltOver, IsRefusalOver, IsTreeRefusal}
use Rattle.tree_nodes.specs.declared.built.Built.{Built}
use Rattle.tree_nodes.specs.declared.error.TreeError.{TreeError}
use Rattle.tree_nodes.specs.declared.error.TreeError.TheVariants.{NothingToBuild}
use Rattle.tree_nodes.proofs.Below.{at_place}
use Rattle.tree_nodes.proofs.Numbering.{old_or_new}
use Rattle.tree_nodes.proofs.Covering.{same_counts}
use Rattle.tree_nodes.proofs.Partings.{all_by}

-- ---- places differ
pub all_differ : (vs : List Vertex) → AllPairs (λ v w. v ≢ w) vs → AllDiffer vs
all_differ vs h i j v a b = by_order (cases_order i j)
  where
    apart : (i j : ℕ) → i < j → slice_get vs i ≡ Some v → slice_get vs j ≡ Some v → i ≡ j
    apart i j l a b = absurd (h i j v l (slice_get_within vs j v b) (index_is vs i v v a ∙ sym (index_is vs j v v b)))

    by_order : ((i ≡ j) ⊎ ((i < j) ⊎ (j < i))) → i ≡ j
    by_order o = ⊎_elim (λ e. e) (λ r. ⊎_elim (λ l. apart i j l a b) (λ l. sym (apart j i l b a)) r) o

-- ---- children
same_test : (c x : ℕ) → (c == x) ≡ nat_eq x c
same_test c x = ⊎_elim (λ e. eq-eqb c x e ∙ sym (eq-eqb x c (sym e))) (λ n. ne_eqb c x n ∙ sym (ne_eqb x c (λ e. n (sym e)))) (cases_eq c x)

node_test : (c i : ℕ) → i < sub_bit → (nat_lt c sub_bit && (c == i)) ≡ nat_eq i c
node_test c i l =
    ⊎_elim (λ e. ap (λ (b : Bool). b && (c == i)) (lt-ltb c sub_bit (omega arith)) ∙ same_test c i)
    (λ n. ap (λ (b : Bool). nat_lt c sub_bit && b) (ne_eqb c i n) ∙ nothing (nat_lt c sub_bit)
    ∙ sym (ne_eqb i c (λ e. n (sym e)))) (cases_eq c i)
  where
    nothing : (b : Bool) → (b && false) ≡ false
    nothing true = refl
    nothing false = refl

counts_by : (f g : ℕ → Bool) (xs : List ℕ) → ((c : ℕ) → f c ≡ g c) → count_by f xs ≡ count_by g xs
counts_by f g xs h = same_counts f g xs xs refl (λ i y x a b. let e : x ≡ y = cc in h x ∙ ap g e)

subs_times : (ns : List Node) (s : ℕ) → 0 < length ns → times_sub ns s ≡ times_child ns (subsector s)
subs_times [] s h = absurd (omega arith)
subs_times (n ∷ ns) s h = counts_by (λ c. c == (sub_bit + s)) (nat_eq (subsector s)) (below_each (n ∷ ns)) (λ c. same_test c (sub_bit + s))

nodes_times : (ns : List Node) (i : ℕ) → 0 < length ns → i < sub_bit → times_node ns i ≡ times_child ns i
nodes_times [] i h l = absurd (omega arith)
nodes_times (n ∷ ns) i h l = counts_by (λ c. nat_lt c sub_bit && (c == i)) (nat_eq i) (below_each (n ∷ ns)) (λ c. node_test c i l)

no_nodes_once : (ns : List Node) (s : ℕ) → length ns ≡ 0 → s ≡ 0 → times_sub ns s ≡ 1
no_nodes_once [] s e z = ap (λ (k : ℕ). count_by (λ c. c == (sub_bit + k)) (sub_bit ∷ [])) z
no_nodes_once (n ∷ ns) s e z = absurd (omega arith)

child_in_range : (subs : List Sub) (i c : ℕ) → i < 32768 → length subs ≤ 32767 → IsChild (length subs) i c → ChildInRange subs i c
child_in_range subs i c few few_subs h = record {
  node = λ l. ⊎_elim (λ a. a) (λ a. let e = a.2 in absurd (omega arith)) h;
  sub = λ l. ⊎_elim (λ a. absurd (omega arith)) (λ a. let e = a.2 in let m = a.1 in record { among = omega arith; small = omega arith }) h;
}

some_sub_of : (subs : List Sub) (nodes : List Node) → AreTree subs nodes → 0 < length subs
some_sub_of subs nodes t = ⊎_elim (λ z. let o = t.one_sub z in omega arith) (λ n. of_first (at_place nodes 0 (more n))) (cases_eq (length nodes) 0)
  where
    more : (length nodes ≡ 0 → ⊥) → 0 < length nodes
    more n = ⊎_elim (λ l. absurd (n (omega arith))) (λ l. l) (cases_lt (length nodes) 1)

    of_first : ((x : Node) × (slice_get nodes 0 ≡ Some x)) → 0 < length subs
    of_first g = ⊎_elim (λ l. absurd (omega arith)) (λ a. let m = a.1 in omega arith) (t.right 0 g.0 g.1)

-- ---- over lines of a list
module _ (drawn : List Vertex) (lines : List Line) where
  mapped : (ls : List Line) (n : ℕ) (l : Line) → slice_get ls n ≡ Some l → edge_at (map (edge_between drawn) ls) n ≡ edge_between drawn l
  mapped [] n l e = cc
  mapped (x ∷ ls) zero l e = let s : x ≡ l = cc in ap (edge_between drawn) s
  mapped (x ∷ ls) (suc n) l e = mapped ls n l e

  pub edges_many : (ls : List Line) → length (map (edge_between drawn) ls) ≡ length ls
  edges_many [] = refl
  edges_many (l ∷ ls) = ap suc (edges_many ls)

  left_there : (n : ℕ) → IsTrue (edge_at (edges_in drawn lines) n).has_left → (l : Line) → slice_get lines n ≡ Some l → l.left ≢ no_side
  left_there n t l at = λ e. by_test (ap (λ (x : Edge). x.has_left) (mapped lines n l at)) (eq-eqb l.left no_side e)
    where
      by_test : (edge_at (edges_in drawn lines) n).has_left ≡ not (l.left == no_side) → (l.left == no_side) ≡ true → ⊥
      by_test e f = let g = ap not f in cc

  seg_in_range : (vertices : List Vertex) (s : Seg) → HasPlaces (edges_in drawn lines) vertices s → SegInRange vertices lines s
  seg_in_range vertices s h =
      let c = edges_many lines in
      let l = h.line.0 in
      record {
        first = record { among = h.first.0; small = h.first.1 };
        second = record { among = h.second.0; small = h.second.1 };
        line = record { among = omega arith; small = h.line.1 };
        side = ⊎_elim (λ z. inl z) (λ o. inr (o.0, left_there s.line o.1)) h.side;
      }

  pub tree_in_range : (vertices : List Vertex) (segs : List Seg) (subs : List Sub) (nodes : List Node)
      → IsSound (edges_in drawn lines) drawn vertices segs subs nodes → TreeInRange vertices lines segs subs nodes
  tree_in_range vertices segs subs nodes h =
      let t = h.tree in
      let nf = t.nodes_few in
      let sf = t.subs_few in
      record {
        segs = all_by (SegInRange vertices lines) segs (λ i s e. seg_in_range vertices s (All-at (HasPlaces (edges_in drawn lines) vertices) segs i s h.places e));
        tiles = h.tiles;
        node_children = λ i n e. let w = slice_get_within nodes i n e in (child_in_range subs i n.right (omega arith) sf (t.right i n e), child_in_range subs i n.left (omega arith) sf (t.left i n e));
        some_sub = some_sub_of subs nodes t;
        subs_once = λ s l. ⊎_elim (λ z. no_nodes_once nodes s z (let o = t.one_sub z in omega arith)) (λ n. let p = more n in subs_times nodes s p ∙ t.subs_once p s l) (cases_eq (length nodes) 0);
        nodes_once = λ i l. nodes_times nodes i (omega arith) (omega arith) ∙ t.nodes_once i l;
      }
    where
      more : (length nodes ≡ 0 → ⊥) → 0 < length nodes
      more n = ⊎_elim (λ l. absurd (n (omega arith))) (λ l. l) (cases_lt (length nodes) 1)

-- ---- what the build over the edges says of the map
pub built_result : (m : Tables) (lines : List Edge) (drawn : List Vertex) (r : Result Built TreeError) → lines
    ≡ edges_of m → drawn ≡ m.vertices → IfOk r (IsBuiltOver lines drawn) → IfOk r (λ (b : Built). IsBuilt m b)
built_result m lines drawn (Ok b) e f h = subst (λ (x : List Edge). IsBuiltOver x m.vertices b) e (subst (λ (d : List Vertex). IsBuiltOver lines d b) f h)
built_result m lines drawn (Err x) e f h = tt

pub refused_result : (m : Tables) (lines : List Edge) (drawn : List Vertex) (r : Result Built TreeError) → lines
    ≡ edges_of m → drawn ≡ m.vertices → IfErr r (IsRefusalOver lines drawn) → IfErr r (IsTreeRefusal m)
refused_result m lines drawn (Ok b) e f h = tt
refused_result m lines drawn (Err x) e f h = subst (λ (ls : List Edge). IsRefusalOver ls m.vertices x) e (subst (λ (d : List Vertex). IsRefusalOver lines d x) f h)

-- behind places that differ, new places differ too
pub new_differ : (drawn added : List Vertex) → AllDiffer drawn → AreNew drawn added → AllDiffer (drawn ++ added)
new_differ drawn added d new i j v a b = by_order (cases_order i j)
  where
    drawn_at : (i : ℕ) → i < length drawn → slice_get (drawn ++ added) i ≡ Some v → slice_get drawn i ≡ Some v
    drawn_at i l a = old_or_new drawn (drawn ++ added) added i v refl a l

    apart : (i j : ℕ) → i < j → slice_get (drawn ++ added) i ≡ Some v → slice_get (drawn ++ added) j ≡ Some v → i ≡ j
    apart i j l a b = ⊎_elim (λ below. d i j v (drawn_at i (omega arith) a) (drawn_at j below b)) (λ above. let n = new j above i v a b in absurd (omega arith)) (cases_lt j (length drawn))

    by_order : ((i ≡ j) ⊎ ((i < j) ⊎ (j < i))) → i ≡ j
    by_order o = ⊎_elim (λ e. e) (λ r. ⊎_elim (λ l. apart i j l a b) (λ l. sym (apart j i l b a)) r) o

pub differ_result : (drawn : List Vertex) (lines : List Edge) (r : Result Built TreeError) → AllDiffer drawn → IfOk r (IsBuiltOver lines drawn) → IfOk r (λ (b : Built). AllDiffer b.vertices.items)
differ_result drawn lines (Ok b) d h = let a = h.sound.added_ends in subst AllDiffer (sym a.all) (new_differ drawn a.added d a.new)
differ_result drawn lines (Err x) d h = tt

pub never_nothing : (lines : List Edge) (drawn : List Vertex) (r : Result Built TreeError) → 0 < length lines → IfErr r (IsRefusalOver lines drawn) → r ≡ Err NothingToBuild → ⊥
never_nothing lines drawn (Ok b) some h e = cc
never_nothing lines drawn (Err x) some h e = let s : x ≡ NothingToBuild = cc in let z : length lines ≡ 0 = subst (IsRefusalOver lines drawn) s h in omega arith
