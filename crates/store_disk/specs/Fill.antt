-- What a simulated stop of a disk in memory leaves of its unsynced bytes.
use Rattle.std.specs.Prelude.{ℕ, Bool, List, length, map, slice_index, nat_lt, if◌then◌else◌}
use Rattle.std.specs.List.{count_by, range_with_len}
use Rattle.store_disk.specs.Medium.{Medium, is_unsynced}
use Rattle.store_disk.specs.declared.fill.Fill.{Fill}
use Rattle.store_disk.specs.declared.fill.Fill.TheVariants.{Stable, Written, Byte, Upto}

-- how many bytes before offset i are unsynced
abbrev pub unsynced_before : Medium → ℕ → ℕ
unsynced_before m i = count_by (is_unsynced m) (range_with_len 0 i)

-- the byte that the stop leaves at offset i, if the byte there is unsynced
abbrev pub filled : Medium → Fill → ℕ → ℕ
filled m Stable i = slice_index m.synced i
filled m Written i = slice_index m.file i
filled m (Byte b) i = b
filled m (Upto n) i = if nat_lt (unsynced_before m i) n then slice_index m.file i
    else slice_index m.synced i

-- the byte that the stop leaves at offset i
abbrev pub left_at : Medium → Fill → ℕ → ℕ
left_at m fill i = if is_unsynced m i then filled m fill i else slice_index m.synced i

-- the image for this fill, of the greatest length if the flag is true, else of the least
abbrev pub stopped : Medium → Fill → Bool → List ℕ
stopped m fill longest =
    map (left_at m fill) (range_with_len 0 (if longest then m.longest else length m.synced))
