use Rattle.std.proofs.Common.{◌≡◌, ℕ, ◌<◌, Some}
use Rattle.std.specs.List.{slice_get}
use Rattle.lump_records.specs.declared.records.Line.{Line}
use Rattle.map_areas.proofs.sharing.is_sole.Given as goal

-- none of the lines so far has it
abbrev pub invariant-loop-n : goal.invariant-loop-n
invariant-loop-n l = (k : ℕ) (x : Line) → k < l.n → (k ≡ l.number → ⊥) → slice_get l.lines k ≡ Some x → (x.right ≡ l.side → ⊥) × (x.left ≡ l.side → ⊥)
