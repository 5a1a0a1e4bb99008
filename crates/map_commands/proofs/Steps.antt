-- The least code that refuses a command of a map.
use Rattle.std.proofs.Common.{◌≡◌, ℕ, ◌≤◌, Bool, true, false, cond, List, [], ◌∷◌, ◌++◌, Option, Some, None, refl, ap, arith}
use Rattle.map_tables.specs.EditFaults.{drop_faults, edit_faults}
use Rattle.map_tables.specs.Outcomes.{least}
use Rattle.map_tables.specs.Tables.{Tables}
use Rattle.map_tables.specs.declared.edit.Edit.{Edit}
use Rattle.map_tables.specs.declared.edit.Edit.TheVariants as edit
use Rattle.map_tables.specs.declared.edit.Item.TheVariants as item
use Rattle.map_tables.specs.declared.kind.Kind.{Kind}
use Rattle.map_tables.specs.declared.kind.Kind.TheVariants as kind
use Rattle.map_commands.specs.Errors.{code_of}
use Rattle.map_commands.specs.declared.error.CommandError.{CommandError}
use Rattle.map_commands.specs.declared.error.CommandError.TheVariants.{OutOfMemory}

-- ---- The least code

least-none-if : (t : Bool) (k : ℕ) (x y z : Option ℕ) → cond t (Some k) x ≡ None → (x ≡ None → y ≡ z) → cond t (Some k) y ≡ z
least-none-if true k x y z e f = absurd cc
least-none-if false k x y z e f = f e

-- where none of the first holds, it is that of the others
pub least-none : (fs gs : List (ℕ × Bool)) → least fs ≡ None → least (fs ++ gs) ≡ least gs
least-none [] gs e = refl
least-none (f ∷ fs) gs e = least-none-if f.1 f.0 (least fs) (least (fs ++ gs)) (least gs) e (λ h. least-none fs gs h)

least-some-if : (t : Bool) (j k : ℕ) (x y : Option ℕ) → cond t (Some j) x ≡ Some k → (x ≡ Some k → y ≡ Some k) → cond t (Some j) y ≡ Some k
least-some-if true j k x y e f = e
least-some-if false j k x y e f = f e

-- where one of the first holds, it is theirs
pub least-some : (fs gs : List (ℕ × Bool)) (k : ℕ) → least fs ≡ Some k → least (fs ++ gs) ≡ Some k
least-some [] gs k e = absurd cc
least-some (f ∷ fs) gs k e = least-some-if f.1 f.0 k (least fs) (least (fs ++ gs)) e (λ h. least-some fs gs k h)

low-if : (t : Bool) (j k : ℕ) (x : Option ℕ) → cond t (Some j) x ≡ Some k → j ≤ 13 → (x ≡ Some k → k ≤ 13) → k ≤ 13
low-if true j k x e h f = let same : j ≡ k = cc in omega arith
low-if false j k x e h f = f e

-- each code is at most 13
abbrev pub are_low : List (ℕ × Bool) → Type 0
are_low [] = Unit {0}
are_low (f ∷ fs) = (f.0 ≤ 13) × are_low fs

pub least-low : (fs : List (ℕ × Bool)) (k : ℕ) → are_low fs → least fs ≡ Some k → k ≤ 13
least-low [] k h e = absurd cc
least-low (f ∷ fs) k h e = low-if f.1 f.0 k (least fs) e h.0 (λ g. least-low fs k h.1 g)

drop-low : (m : Tables) (k : Kind) (n : ℕ) → are_low (drop_faults m k n)
drop-low m kind.Vertex n = search arith
drop-low m kind.Sector n = search arith
drop-low m kind.Side n = search arith
drop-low m kind.Line n = search arith
drop-low m kind.Thing n = search arith

-- those of an edit
pub edit-low : (m : Tables) (e : Edit) → are_low (edit_faults m e)
edit-low m (edit.Add (item.Vertex v)) = search arith
edit-low m (edit.Set n (item.Vertex v)) = search arith
edit-low m (edit.Drop k n) = drop-low m k n
edit-low m e = search arith

-- ---- The code

-- a refusal of another number isn't lack of memory
pub not-memory : (e : CommandError) → code_of e ≤ 19 → e ≡ OutOfMemory → ⊥
not-memory e low is = let code = ap code_of is in absurd (omega (arith, low, code))
