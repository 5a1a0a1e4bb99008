-- The refusals of a journal: their numbers, and when they come.
use Rattle.std.specs.Prelude.{◌≡◌, ◌⊎◌, ℕ, List, ◌++◌, codes, decimal}
use Rattle.store_journal.specs.declared.error.JournalError.{JournalError}
use Rattle.store_journal.specs.declared.error.JournalError.TheVariants.{Device, OutOfMemory, Reopen, JournalFull, Damaged}

-- the number of a refusal
abbrev pub code_of : JournalError → ℕ
code_of Device = 30
code_of OutOfMemory = 31
code_of Reopen = 32
code_of JournalFull = 34
code_of (Damaged place) = 40

-- the text of a refusal
abbrev pub message_of : JournalError → List ℕ
message_of Device = codes "the device failed"
message_of OutOfMemory = codes "out of memory"
message_of Reopen = codes "the journal must be opened again"
message_of JournalFull = codes "the journal is full"
message_of (Damaged place) = codes "damaged at " ++ decimal place

-- `open` refuses by these alone
abbrev pub RefusesToOpenJournal : JournalError → Type 0
RefusesToOpenJournal e = (e ≡ Device) ⊎ ((e ≡ OutOfMemory) ⊎ ((place : ℕ) × (e ≡ Damaged place)))

-- a reader refuses by these alone
abbrev pub RefusesToRead : JournalError → Type 0
RefusesToRead e = (e ≡ Device) ⊎ ((place : ℕ) × (e ≡ Damaged place))

-- `append` refuses by these alone
abbrev pub RefusesAppend : JournalError → Type 0
RefusesAppend e = (e ≡ Device) ⊎ ((e ≡ Reopen) ⊎ (e ≡ JournalFull))

-- where it says that a gate is damaged, the gate's place has P
abbrev pub IfGateDamaged : JournalError → (ℕ → Type 0) → Type 0
IfGateDamaged e P = (place : ℕ) → e ≡ Damaged place → P place
