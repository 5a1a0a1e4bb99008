-- How far subsectors that follow one another reach.
use Rattle.std.specs.Prelude.{◌≡◌, ℕ, ◌+◌, List, [], ◌∷◌, ◌++◌, drop, map}
use Rattle.lump_records.specs.declared.records.Sub.{Sub}
use Rattle.tree_nodes.specs.References.{FollowsFrom}

abbrev pub count_list : List Sub → List ℕ
count_list subs = map (λ (sub : Sub). sub.count) subs

abbrev pub total : List ℕ → ℕ
total [] = 0
total (x ∷ xs) = x + total xs

-- the subsectors of the first i counts, which reach to the seg `first`
pub record IsTiledTo (counts : List ℕ) (i first : ℕ) (subs : List Sub) : Type 0 where
  pub written : count_list subs ++ drop i counts ≡ counts
  pub follow : FollowsFrom 0 subs
  pub reach : first ≡ total (count_list subs)
