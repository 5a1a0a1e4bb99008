-- Sets of files, as what a stop may leave, and how a call changes them.
use Rattle.std.specs.Prelude.{◌≡◌, ◌<◌, ◌≤◌, ◌⊎◌, ◌^◌, ◌-◌, ◌+◌, ℕ, List, Result, IsErrOf, OnErr, OnOk}

-- the step leads from some old file to this one
abbrev pub From : (List ℕ → Type 0) → (List ℕ → List ℕ → Type 0) → List ℕ → Type 0
From old step new = (file : List ℕ) × old file × step file new

-- the step leads from some old file to each new file
abbrev pub Follows : (List ℕ → List ℕ → Type 0) → (List ℕ → Type 0) → (List ℕ → Type 0) → Type 0
Follows step old new = (file : List ℕ) → new file → From old step file

-- the step leads from each old file to some new one
abbrev pub LeadsBy : (List ℕ → List ℕ → Type 0) → (List ℕ → Type 0) → (List ℕ → Type 0) → Type 0
LeadsBy step old new = (file : List ℕ) → old file → (next : List ℕ) × new next × step file next

-- each of the files has the property P
abbrev pub Each : (List ℕ → Type 0) → (List ℕ → Type 0) → Type 0
Each files P = (file : List ℕ) → files file → P file

-- One call passes: what a stop since t might have left before the call, it still might have, and besides that only
-- what a stop may leave now.
pub record Elapses (before now : ℕ) (past since : ℕ → List ℕ → Type 0)
    (may_leave : List ℕ → Type 0) : Type 0 where
  pub later : before ≤ now
  pub nothing_else : (t : ℕ) (file : List ℕ) → t ≤ before → since t file → past t file
      ⊎ may_leave file
  pub keeps : (t : ℕ) (file : List ℕ) → t ≤ before → past t file → since t file

-- the count of failures rose, or it was at its maximum
abbrev pub Rose : ℕ → ℕ → Type 0
Rose before now = before < 2 ^ 64 - 1 → before < now

-- a failure is counted once, and nothing else is counted; a count at its maximum needn't rise
pub record Counted {T E : Type 0} (before now : ℕ) (result : Result T E) : Type 0 where
  pub later : before ≤ now
  pub failed : OnErr result (before < 2 ^ 64 - 1 → now ≡ before + 1)
  pub done : OnOk result (now ≡ before)

-- the count of failures rises, up to its maximum, exactly if the call returns this refusal
pub record CountsFaults {T E : Type 0} (device : E) (before now : ℕ) (result : Result T E) :
    Type 0 where
  pub later : before ≤ now
  pub rose : IsErrOf result device → Rose before now
  pub no_other : IsErrOf result device ⊎ (now ≡ before)
