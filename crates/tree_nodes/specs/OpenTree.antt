-- A tree that is being grown: its next list, and what a leaf, an open node and a grown tree change of it.
use Rattle.std.specs.Prelude.{◌≡◌, ℕ, ◌<◌, ◌≤◌, ◌++◌, ◌^◌, Bool, true, false, List, [], ◌∷◌, length, vec_len, slice_set}
use Rattle.tree_pieces.specs.declared.edge.Edge.{Edge}
use Rattle.tree_pieces.specs.declared.piece.Piece.{Piece}
use Rattle.tree_pieces.specs.Pieces.{IsPiece}
use Rattle.tree_pieces.specs.Tree.{IsReached}
use Rattle.tree_nodes.specs.declared.error.TreeError.{TreeError}
use Rattle.tree_nodes.specs.declared.growth.Child.{Child}
use Rattle.tree_nodes.specs.declared.open_tree.OpenTree.{OpenTree}
use Rattle.tree_nodes.specs.Placed.{Waiting, IsPlacedList}
use Rattle.tree_nodes.specs.Growth.{Lists, lists_of, IsGrown, IsRefused, IsDivision, IsLeafPut, IsNodePut}

-- ---- the next list
-- this list may be divided next
pub record IsDivisible (lines : List Edge) (tree : OpenTree) (list : Waiting) : Type 0 where
  pub reached : IsReached lines tree.used.items list.value.ended.pieces.items
  pub listed : IsPlacedList lines list.value
  pub some : 0 < length list.value.ended.pieces.items
  pub few : vec_len list.value.ended.pieces < 2 ^ 31
  pub fewer : length tree.grown.nodes.items ≤ length tree.grown.counts.items

-- the last list may be divided next
pub record HasNext (lines : List Edge) (tree : OpenTree) : Type 0 where
  pub rest : List Waiting
  pub list : Waiting
  pub lists : tree.lists.items ≡ rest ++ list ∷ []
  pub divisible : IsDivisible lines tree list

-- a tree of the last list has grown: its child stands in place of the list
pub record IsChildOf (lines : List Edge) (room : ℕ) (old new : OpenTree) (rest : List Waiting)
    (list : Waiting) : Type 0 where
  pub child : Child
  pub lists : new.lists.items ≡ rest
  pub partitions : new.partitions.items ≡ old.partitions.items
  pub children : new.children.items ≡ old.children.items ++ child ∷ []
  pub used : new.used.items ≡ old.used.items
  pub grown : IsGrown lines list.value.ended.pieces.items old.used.items room (lists_of old.grown)
      (lists_of new.grown) child

-- whatever the last list is, a tree of it has grown
abbrev pub HasGrown : List Edge → ℕ → OpenTree → OpenTree → Type 0
HasGrown lines room old new = (rest : List Waiting) (list : Waiting)
    → old.lists.items ≡ rest ++ list ∷ [] → IsChildOf lines room old new rest list

-- no tree of the last list stays within the limits
abbrev pub IsNextRefused : List Edge → ℕ → OpenTree → TreeError → Type 0
IsNextRefused lines room old e = (rest : List Waiting) (list : Waiting)
    → old.lists.items ≡ rest ++ list ∷ []
    → IsRefused lines list.value.ended.pieces.items old.used.items room (lists_of old.grown) e

-- ---- a leaf
-- the last list was put down as a leaf
pub record IsLeafEnded (lines : List Edge) (ps : List Piece) (old new : OpenTree) : Type 0 where
  pub child : Child
  pub lists : new.lists.items ≡ old.lists.items
  pub partitions : new.partitions.items ≡ old.partitions.items
  pub children : new.children.items ≡ old.children.items ++ child ∷ []
  pub used : new.used.items ≡ old.used.items
  pub put : IsLeafPut lines ps (lists_of old.grown) (lists_of new.grown) child

-- ---- an open node
-- the node of a partition was opened
pub record IsNodeOpened (partition : Piece) (old new : OpenTree) : Type 0 where
  pub lists : new.lists.items ≡ old.lists.items
  pub partitions : new.partitions.items ≡ old.partitions.items ++ partition ∷ []
  pub children : new.children.items ≡ old.children.items
  pub used : new.used.items ≡ slice_set old.used.items partition.line true
  pub grown : lists_of new.grown ≡ lists_of old.grown

-- the last list was divided by its best candidate, and the node is open
pub record IsNodeOpen (lines : List Edge) (room : ℕ) (old new : OpenTree) (rest : List Waiting)
    (list : Waiting) : Type 0 where
  pub partition : Piece
  pub right : Waiting
  pub left : Waiting
  pub division : IsDivision lines list.value.ended.pieces.items old.used.items partition
      right.value.ended.pieces.items left.value.ended.pieces.items
  pub right_listed : IsPlacedList lines right.value
  pub left_listed : IsPlacedList lines left.value
  pub lists : new.lists.items ≡ (rest ++ left ∷ []) ++ right ∷ []
  pub partitions : new.partitions.items ≡ old.partitions.items ++ partition ∷ []
  pub children : new.children.items ≡ old.children.items
  pub used : new.used.items ≡ slice_set old.used.items partition.line true
  pub grown : lists_of new.grown ≡ lists_of old.grown
  pub some : 0 < room

-- whatever the last list is, it was divided, and the node is open
abbrev pub HasNodeOpen : List Edge → ℕ → OpenTree → OpenTree → Type 0
HasNodeOpen lines room old new = (rest : List Waiting) (list : Waiting)
    → old.lists.items ≡ rest ++ list ∷ [] → IsNodeOpen lines room old new rest list

-- ---- a node that is put down
-- both trees of the last partition have grown
pub record CanClose (lines : List Edge) (tree : OpenTree) : Type 0 where
  pub above : List Piece
  pub partition : Piece
  pub before : List Child
  pub right : Child
  pub left : Child
  pub partitions : tree.partitions.items ≡ above ++ partition ∷ []
  pub children : tree.children.items ≡ (before ++ right ∷ []) ++ left ∷ []
  pub piece : IsPiece lines partition
  pub known : partition.line < length tree.used.items
  pub few : length tree.grown.nodes.items < 32768

-- the node of the last partition was put down: its child stands in place of the two
pub record IsNodeClosed (lines : List Edge) (old new : OpenTree) (above : List Piece)
    (partition : Piece) (before : List Child) (right left : Child) : Type 0 where
  pub child : Child
  pub lists : new.lists.items ≡ old.lists.items
  pub partitions : new.partitions.items ≡ above
  pub children : new.children.items ≡ before ++ child ∷ []
  pub used : new.used.items ≡ slice_set old.used.items partition.line false
  pub put : IsNodePut lines partition right left (lists_of old.grown) (lists_of new.grown) child

-- whatever the last partition and its trees are, its node was put down
abbrev pub HasNodeClosed : List Edge → OpenTree → OpenTree → Type 0
HasNodeClosed lines old new =
    (above : List Piece) (partition : Piece) (before : List Child) (right left : Child)
    → old.partitions.items ≡ above ++ partition ∷ []
    → old.children.items ≡ (before ++ right ∷ []) ++ left ∷ []
    → IsNodeClosed lines old new above partition before right left

-- ---- the whole tree
-- the lists have gained those of a tree of this list
abbrev pub HasGrownTree : List Edge → List Piece → List Bool → ℕ → Lists → Lists → Type 0
HasGrownTree lines ps used room old new = (child : Child) × IsGrown lines ps used room old new child
