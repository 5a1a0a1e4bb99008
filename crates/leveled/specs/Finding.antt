-- Where a WAD is found whose name has no folder (docs/COMMANDS.md, "Where WADs are found").
use Rattle.std.specs.Prelude.{◌≡◌, ◌⊎◌, ℕ, Bool, true, not, ◌==◌, List, ◌∷◌, ◌++◌, Option, None, Some, option_map, string_bytes}
use Rattle.std.specs.List.{list_all}
use Rattle.cli_words.specs.declared.asked.Request.{Request}
use Rattle.cli_words.specs.declared.asked.Request.TheVariants.{Lint, Dump, Rebuild, Inspect, Levels}

-- a name without a slash
abbrev pub has_no_folder : List ℕ → Bool
has_no_folder name = list_all (λ c. not (c == 47)) name

-- the path is that of the name in a folder
abbrev pub IsInFolder : List ℕ → List ℕ → Type 0
IsInFolder name path = (folder : List ℕ) × (path ≡ folder ++ 47 ∷ name)

-- the path is the name itself, or, if the name has no folder, that of it in one
abbrev pub IsPathOf : List ℕ → List ℕ → Type 0
IsPathOf name path = (path ≡ name) ⊎ ((has_no_folder name ≡ true) × IsInFolder name path)

-- the same of a name and a path, if there is a name
abbrev pub ArePathsOf : Option (List ℕ) → Option (List ℕ) → Type 0
ArePathsOf None None = Unit {0}
ArePathsOf (Some name) (Some path) = IsPathOf name path
ArePathsOf name path = ⊥

-- the second request is the first one, but for the paths of the WADs that it reads
abbrev pub AreFound : Request → Request → Type 0
AreFound (Lint file map iwad only except) (Lint path map-now paths only-now except-now) =
    IsPathOf (string_bytes file) (string_bytes path) × (map-now ≡ map)
    × ArePathsOf (option_map string_bytes iwad) (option_map string_bytes paths)
    × (only-now ≡ only) × (except-now ≡ except)
AreFound (Dump file names exact) (Dump path names-now exact-now) =
    IsPathOf (string_bytes file) (string_bytes path) × (names-now ≡ names) × (exact-now ≡ exact)
AreFound (Rebuild wad out maps) (Rebuild path out-now maps-now) =
    IsPathOf (string_bytes wad) (string_bytes path) × (out-now ≡ out) × (maps-now ≡ maps)
AreFound (Inspect wad name) (Inspect path name-now) =
    IsPathOf (string_bytes wad) (string_bytes path) × (name-now ≡ name)
AreFound (Levels wad) (Levels path) = IsPathOf (string_bytes wad) (string_bytes path)
AreFound request found = found ≡ request
