use Rattle.std.specs.Prelude.{◌≡◌, ℕ, List, bytes_eq, take}
use Rattle.std.specs.List.{list_any}
use Rattle.map_lint.proofs.graphics.set_of.Given as goal

-- the set holds the names so far
abbrev pub invariant-loop-name : goal.invariant-loop-name
invariant-loop-name l =
    (bytes : List ℕ) → list_any (bytes_eq bytes) l.bytes.keys ≡ list_any (λ k. bytes_eq k.bytes bytes) (take l.name-index l.names)
