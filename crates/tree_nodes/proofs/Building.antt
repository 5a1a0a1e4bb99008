-- From the recursion's lists to the lists of the tree of the lines, and to a sound tree.
use Rattle.std.proofs.Common.{◌≡◌, sym, ap, ◌∙◌, subst, ℕ, ◌+◌, ◌*◌, ◌<◌, ◌≤◌, List, [], ◌∷◌, length, Bool, true, false, arith, All}
use Rattle.std.specs.Prelude.{if◌then◌else◌}
use Rattle.std.proofs.lemmas.List.{length-append}
use Rattle.std.proofs.lemmas.List.Elements.{All-nil}
use Rattle.lump_records.specs.declared.records.Vertex.{Vertex}
use Rattle.lump_records.specs.declared.records.Seg.{Seg}
use Rattle.lump_records.specs.declared.records.Sub.{Sub}
use Rattle.lump_records.specs.declared.records.Node.{Node}
use Rattle.tree_pieces.specs.declared.edge.Edge.{Edge}
use Rattle.tree_pieces.specs.declared.edge.Facing.TheVariants.{Along, Against}
use Rattle.tree_pieces.specs.declared.piece.Piece.{Piece}
use Rattle.tree_pieces.specs.Plane.{IsEdge}
use Rattle.tree_pieces.specs.Pieces.{IsPiece}
use Rattle.tree_pieces.specs.First.{whole, sides_of, pieces_from, first_pieces}
use Rattle.tree_pieces.specs.Tree.{Tree, Divides, IsReached, pieces, none_used}
use Rattle.tree_pieces.proofs.Choice.{left_over, tree_exists}
use Rattle.tree_pieces.proofs.FirstList.{first_are_pieces}
use Rattle.tree_pieces.proofs.Trees.{first_reached, own_tree_pieces}
use Rattle.tree_nodes.specs.declared.error.TreeError.{TreeError}
use Rattle.tree_nodes.specs.declared.error.TreeError.TheVariants.{OutOfMemory, NothingToBuild, TooManyVertices, TooManySegs, TooManySubsectors, TooDeep}
use Rattle.tree_nodes.specs.declared.growth.Child.{Child}
use Rattle.tree_nodes.specs.InRange.{greatest_number}
use Rattle.tree_nodes.specs.References.{FollowsFrom}
use Rattle.tree_nodes.specs.Tiling.{count_list, total}
use Rattle.tree_nodes.specs.TreeLists.{HasNodes, IsEndOf, AreSegsOf}
use Rattle.tree_nodes.specs.Sound.{IsTreeOfLines, IsBuiltOf, IsSound, IsSmall, HasTooManyVertices, HasTooManySegs, IsWithinLimits}
use Rattle.tree_nodes.specs.Growth.{Lists, IsGrown, IsRefused}
use Rattle.tree_nodes.specs.Numbers.{AreNumbered, HaveMore, AreSegsRefused}
use Rattle.tree_nodes.specs.Refusals.{AreTreeLists, IsTreeRefused}
use Rattle.tree_nodes.specs.Built.{IsRefusalOver}
use Rattle.tree_nodes.proofs.Counting.{counts_many, leaves_many, one_leaf_more, nodes_many}
use Rattle.tree_nodes.proofs.Filling.{counts_some, tree_many}
use Rattle.tree_nodes.proofs.Numbering.{none_new}
use Rattle.tree_nodes.proofs.Laying.{counts_total, counted}
use Rattle.tree_nodes.proofs.Partings.{all_by}
use Rattle.tree_nodes.proofs.Sounding.{sound}

-- ---- the first list
-- a line has one side or two
sides_many : (n : ℕ) (e : Edge) → (0 < length (sides_of n e)) × (length (sides_of n e) ≤ 2)
sides_many n e = by_left e.has_left
  where
    by_left : (b : Bool) → (0 < length (if b then (whole n Along ∷ whole n Against ∷ []) else (whole n Along ∷ [])))
        × (length (if b then (whole n Along ∷ whole n Against ∷ []) else (whole n Along ∷ [])) ≤ 2)
    by_left true = (omega arith, omega arith)
    by_left false = (omega arith, omega arith)

pub first_some : (lines : List Edge) → 0 < length lines → 0 < length (first_pieces lines)
first_some [] h = absurd (omega arith)
first_some (e ∷ es) h = let s = (sides_many 0 e).0 in let l = length-append (sides_of 0 e) (pieces_from 1 es) in omega arith

pub first_few : (n : ℕ) (lines : List Edge) → length (pieces_from n lines) ≤ 2 * length lines
first_few n [] = omega arith
first_few n (e ∷ es) = let s = (sides_many n e).1 in let l = length-append (sides_of n e) (pieces_from (n + 1) es) in let r = first_few (n + 1) es in omega arith

pub first_many : (n : ℕ) (lines : List Edge) → length lines ≤ length (pieces_from n lines)
first_many n [] = omega arith
first_many n (e ∷ es) = let s = (sides_many n e).0 in let l = length-append (sides_of n e) (pieces_from (n + 1) es) in let r = first_many (n + 1) es in omega arith

pub start_reached : (lines : List Edge) → All IsEdge lines → IsReached lines (none_used lines) (first_pieces lines)
start_reached lines all = first_reached lines (first_pieces lines) (first_are_pieces lines all)

-- ---- the limits
pub within_limits : (lines : List Edge) (lists : Lists) → AreTreeLists lines lists → IsWithinLimits lines
within_limits lines lists a =
    let t = a.tree in
    let fs = a.few_segs in
    let fz = a.few_sizes in
    let s = ap (λ (ps : List Piece). length ps) a.segs in
    let z = ap (λ (ns : List ℕ). length ns) a.sizes in
    let c = counts_many t in
    let l = leaves_many t in
    (t, a.of_lines, omega arith, omega arith, a.shallow)

-- ---- the recursion from the first list
abbrev pub no_lists : Lists
no_lists = record { segs = []; sizes = []; nodes = [] }

module _ (lines : List Edge) (all : All IsEdge lines) where
  tree_of : (t : Tree) → Divides lines (first_pieces lines) (none_used lines) t → IsTreeOfLines lines t
  tree_of t d = record { drawn = all; each = first_are_pieces lines all; divides = d }

  pub tree_lists : (new : Lists) (child : Child) → IsGrown lines (first_pieces lines) (none_used lines) 1024 no_lists new child → AreTreeLists lines new
  tree_lists new child g = record {
    tree = g.tree;
    of_lines = tree_of g.tree g.divides;
    segs = g.segs;
    sizes = g.sizes;
    has_nodes = subst (HasNodes lines g.tree 0 0) (sym g.nodes) g.has_nodes;
    shallow = g.shallow;
    few_segs = g.few_segs;
    few_sizes = g.few_sizes;
  }

  the_tree : (t : Tree) × Divides lines (first_pieces lines) (none_used lines) t
  the_tree = tree_exists lines (left_over (none_used lines)) (first_pieces lines) (none_used lines) (omega arith)

  pub tree_refused : (e : TreeError) → IsRefused lines (first_pieces lines) (none_used lines) 1024 no_lists e → IsTreeRefused lines e
  tree_refused TooDeep h = (the_tree.0, tree_of the_tree.0 the_tree.1, h the_tree.0 the_tree.1)
  tree_refused TooManySegs h = let l = h the_tree.0 the_tree.1 in (the_tree.0, tree_of the_tree.0 the_tree.1, omega arith)
  tree_refused TooManySubsectors h = let l = h the_tree.0 the_tree.1 in (the_tree.0, tree_of the_tree.0 the_tree.1, omega arith)
  tree_refused OutOfMemory h = tt
  tree_refused NothingToBuild h = h
  tree_refused TooManyVertices h = h

  -- more drawn vertices than there are numbers are too many
  pub too_many_drawn : (drawn : List Vertex) → greatest_number < length drawn → HasTooManyVertices lines drawn
  too_many_drawn drawn many = (the_tree.0, tree_of the_tree.0 the_tree.1, ([], none_new drawn, All-nil (IsEndOf lines (pieces the_tree.0)), omega arith))

  -- so are more lines, since each piece leaves one at least
  pub too_many_lines : greatest_number < length lines → HasTooManySegs lines
  too_many_lines many =
      let t = the_tree.0 in
      let n = tree_many lines all t (first_pieces lines) (none_used lines) (start_reached lines all) the_tree.1 in
      let l = first_many 0 lines in
      (t, tree_of t the_tree.1, omega arith)

  -- what the recursion was given
  pub reached_at : (ps : List Piece) (used : List Bool) → ps ≡ first_pieces lines → used ≡ none_used lines → IsReached lines used ps
  reached_at ps used e f = subst (λ (u : List Bool). IsReached lines u ps) (sym f) (subst (IsReached lines (none_used lines)) (sym e) (start_reached lines all))

  pub lists_at : (ps : List Piece) (used : List Bool) (old new : Lists) (child : Child) → ps ≡ first_pieces lines → used
      ≡ none_used lines → old ≡ no_lists → IsGrown lines ps used 1024 old new child → AreTreeLists lines new
  lists_at ps used old new child e f g h =
      let a = subst (λ (x : List Piece). IsGrown lines x used 1024 old new child) e h in
      let b = subst (λ (u : List Bool). IsGrown lines (first_pieces lines) u 1024 old new child) f a in
      tree_lists new child (subst (λ (o : Lists). IsGrown lines (first_pieces lines) (none_used lines) 1024 o new child) g b)

  pub refused_at : (ps : List Piece) (used : List Bool) (old : Lists) (e : TreeError) → ps ≡ first_pieces lines → used
      ≡ none_used lines → old ≡ no_lists → IsRefused lines ps used 1024 old e → IsTreeRefused lines e
  refused_at ps used old error e f g h =
      let a = subst (λ (x : List Piece). IsRefused lines x used 1024 old error) e h in
      let b = subst (λ (u : List Bool). IsRefused lines (first_pieces lines) u 1024 old error) f a in
      tree_refused error (subst (λ (o : Lists). IsRefused lines (first_pieces lines) (none_used lines) 1024 o error) g b)

pub no_lists_yet : (segs : List Piece) (sizes : List ℕ) (nodes : List Node) → segs ≡ [] → sizes ≡ [] → nodes ≡ [] → record { segs = segs; sizes = sizes; nodes = nodes } ≡ no_lists
no_lists_yet segs sizes nodes a b c =
    let one : List Piece → Lists = λ x. record { segs = x; sizes = sizes; nodes = nodes } in
    let two : List ℕ → Lists = λ x. record { segs = []; sizes = x; nodes = nodes } in
    let three : List Node → Lists = λ x. record { segs = []; sizes = []; nodes = x } in
    ap one a ∙ ap two b ∙ ap three c

pub build_refused : (lines : List Edge) (drawn : List Vertex) (e : TreeError) → IsTreeRefused lines e → IsRefusalOver lines drawn e
build_refused lines drawn TooDeep h = h
build_refused lines drawn TooManySegs h = h
build_refused lines drawn TooManySubsectors h = h
build_refused lines drawn OutOfMemory h = tt
build_refused lines drawn NothingToBuild h = absurd h
build_refused lines drawn TooManyVertices h = absurd h

-- ---- from the lists to a sound tree
module _ (lines : List Edge) (drawn : List Vertex) (l : Lists) (a : AreTreeLists lines l) where
  own_pieces : All (IsPiece lines) (pieces a.tree)
  own_pieces = own_tree_pieces lines a.of_lines.drawn a.tree (first_pieces lines) (none_used lines) (start_reached lines a.of_lines.drawn) a.of_lines.divides

  pub lists_pieces : All (IsPiece lines) l.segs
  lists_pieces = subst (All (IsPiece lines)) (sym a.segs) own_pieces

  pub lists_some : 0 < length lines → All (λ (n : ℕ). 0 < n) l.sizes
  lists_some h = subst (All (λ (n : ℕ). 0 < n)) (sym a.sizes)
      (counts_some lines a.of_lines.drawn a.tree (first_pieces lines) (none_used lines)
      (start_reached lines a.of_lines.drawn) (first_some lines h) a.of_lines.divides)

  pub lists_total : total l.sizes ≤ 32767
  lists_total = let e = ap total a.sizes ∙ counts_total a.tree in let s = ap length a.segs in let f = a.few_segs in omega arith

  more_places : HaveMore lines drawn l.segs → HasTooManyVertices lines drawn
  more_places m = (a.tree, a.of_lines, (m.added, m.new_places, all_by (IsEndOf lines (pieces a.tree)) m.added (λ n v e. subst (λ (ps : List Piece). IsEndOf lines ps v) a.segs (m.each n v e)), m.many))

  pub segs_refused_too : (e : TreeError) → AreSegsRefused lines drawn l.segs e → IsRefusalOver lines drawn e
  segs_refused_too TooManyVertices h = more_places h
  segs_refused_too TooDeep h = absurd h
  segs_refused_too TooManySegs h = absurd h
  segs_refused_too TooManySubsectors h = absurd h
  segs_refused_too OutOfMemory h = tt
  segs_refused_too NothingToBuild h = absurd h

  module _ (vertices : List Vertex) (segs : List Seg) (subs : List Sub) (as_segs : AreSegsOf lines vertices l.segs segs) (sizes : count_list subs ≡ l.sizes) (follow : FollowsFrom 0 subs) where
    pub built_of : IsBuiltOf lines vertices segs subs l.nodes
    built_of = record {
      tree = a.tree;
      of_lines = a.of_lines;
      lists = record {
        leaf_segs = subst (λ (ps : List Piece). AreSegsOf lines vertices ps segs) a.segs as_segs;
        leaf_counts = sizes ∙ a.sizes;
        follow = follow;
        branch_nodes = a.has_nodes;
      };
      shallow = a.shallow;
    }

    few_subs : length subs ≤ 32767
    few_subs = let e = counted subs l.sizes sizes in let f = a.few_sizes in omega arith

    module _ (numbered : AreNumbered lines drawn vertices l.segs segs) where
      pub small_of : IsSmall vertices segs subs l.nodes
      small_of = record {
        few_vertices = numbered.few;
        few_segs = let e = as_segs.many in let f = a.few_segs in omega arith;
        few_subs = few_subs;
        few_nodes = let e = nodes_many lines a.tree 0 0 l.nodes a.has_nodes in let o = one_leaf_more a.tree in let m =
            counts_many a.tree in let s = ap length a.sizes in let f = a.few_sizes in omega arith;
      }

      pub sound_of : length lines ≤ 32767 → IsSound lines drawn vertices segs subs l.nodes
      sound_of few = let b = built_of in sound lines drawn vertices b.tree segs subs l.nodes b.of_lines b.lists few few_subs numbered.firsts numbered.ends numbered.added
