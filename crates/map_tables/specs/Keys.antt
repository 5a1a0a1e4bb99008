-- A table as contracts see it: its items in order, the key of each, and how many more fit without allocating.
use Rattle.std.specs.Prelude.{◌≡◌, ◌≢◌, ℕ, ◌<◌, ◌==◌, List, length, filter_map, All, AllPairs}
use Rattle.std.specs.List.{position_or_len}
use Rattle.slab.specs.Slab.{Slab, get, slab_len, ContainsKey}
use Rattle.map_tables.specs.Edits.{lowered}

-- the items in order, the key of each, and how many more fit without allocating
pub record TableView (T : Type 0) : Type 0 where
  pub items : List T
  pub keys : List ℕ
  pub spare : ℕ

-- the items under the keys
abbrev pub items_under : {T : Type 0} → Slab T → List ℕ → List T
items_under s keys = filter_map (get s) keys

-- the index of a key among the keys, or their count if it isn't one of them
abbrev pub rank_of : List ℕ → ℕ → ℕ
rank_of keys key = position_or_len (λ k. k == key) keys

-- the keys differ, each has an item, and there is no other item
pub record IsKept {T : Type 0} (s : Slab T) (keys : List ℕ) : Type 0 where
  pub differ : AllPairs (λ j k. j ≢ k) keys
  pub held_each : All (ContainsKey s) keys
  pub count : slab_len s ≡ length keys

-- each item keeps its rank
abbrev pub KeepRanks : {T : Type 0} → TableView T → TableView T → Type 0
KeepRanks old new = (key : ℕ) → rank_of old.keys key < length old.items → rank_of new.keys key
    ≡ rank_of old.keys key

-- each item but the n-th keeps its key, and the ranks after the n-th are lowered by one
abbrev pub LowerRanks : {T : Type 0} → ℕ → TableView T → TableView T → Type 0
LowerRanks n old new =
    (key : ℕ) → rank_of old.keys key < length old.items → rank_of old.keys key ≢ n
    → rank_of new.keys key ≡ lowered n (rank_of old.keys key)
