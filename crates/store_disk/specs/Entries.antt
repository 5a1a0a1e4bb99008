-- The calls that entries and the list of written bytes stand for.
use Rattle.std.specs.Prelude.{◌+◌, ℕ, Bool, false, List, [], ◌∷◌, take, drop}
use Rattle.store_disk.specs.Medium.{Call, Wrote, Synced, is_in}
use Rattle.store_disk.specs.declared.entry.Entry.{Entry}
use Rattle.store_disk.specs.declared.entry.Entry.TheVariants.{Write, Sync}

-- the written bytes are in one list, one write after another, and each entry of a write has its number of bytes
abbrev pub made_by : List Entry → List ℕ → List Call
made_by [] written = []
made_by (Write at size ∷ entries) written = Wrote at (take size written)
    ∷ made_by entries (drop size written)
made_by (Sync ∷ entries) written = Synced ∷ made_by entries written

-- how many bytes all these writes wrote
abbrev pub bytes_of_all : List Entry → ℕ
bytes_of_all [] = 0
bytes_of_all (Write at size ∷ entries) = size + bytes_of_all entries
bytes_of_all (Sync ∷ entries) = bytes_of_all entries

-- the ranges that these writes wrote, each as its offset and its length
abbrev pub ranges_of : List Entry → List (ℕ × ℕ)
ranges_of [] = []
ranges_of (Write at size ∷ entries) = (at, size) ∷ ranges_of entries
ranges_of (Sync ∷ entries) = ranges_of entries

-- the entry is a write whose range contains offset i
abbrev pub has_place : ℕ → Entry → Bool
has_place i (Write at size) = is_in i (at, size)
has_place i Sync = false
