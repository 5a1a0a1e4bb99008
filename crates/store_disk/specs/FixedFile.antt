-- A file in memory whose memory is allocated once.
use Rattle.std.specs.Prelude.{ℕ, List, length, take}
use Rattle.store_disk.specs.declared.fixed_file.FixedFile.{FixedFile}

-- the file's bytes
abbrev pub bytes_of : FixedFile → List ℕ
bytes_of f = take f.len f.bytes.items

-- how many bytes the file may have
abbrev pub most_of : FixedFile → ℕ
most_of f = length f.bytes.items
