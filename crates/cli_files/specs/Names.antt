-- The name of the new file that is made beside another.
use Rattle.std.specs.Prelude.{◌++◌, ℕ, Bool, List, [], bytes_eq, codes, if◌then◌else◌, length, nat_le, unwrap_or}
use Rattle.std.specs.Path.{path_file_name, path_with_file_name}

-- the last name of the path
abbrev pub last_name_of : List ℕ → List ℕ
last_name_of path = unwrap_or (path_file_name path) []

-- a name of at most 230 bytes; a longer one is left out
abbrev pub kept_name : List ℕ → List ℕ
kept_name name = if nat_le (length name) 230 then name else []

-- the path is `-`, by which people mean standard output
abbrev pub is_dash : List ℕ → Bool
is_dash path = bytes_eq path (codes "-")

-- `.NAME.leveled-new`
abbrev pub first_name : List ℕ → List ℕ
first_name name = codes "." ++ kept_name name ++ codes ".leveled-new"

-- the path in the same folder whose last name is that of the new file, with this end
abbrev pub beside_of : List ℕ → List ℕ → List ℕ
beside_of path end = path_with_file_name path (first_name (last_name_of path) ++ end)
