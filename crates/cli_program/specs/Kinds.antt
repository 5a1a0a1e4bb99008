-- Which requests write beside the output, and which are over a WAD alone.
use Rattle.std.specs.Prelude.{◌≡◌, ℕ, Bool, true, false}
use Rattle.cli_words.specs.declared.asked.Request.{Request}
use Rattle.cli_words.specs.declared.asked.Request.TheVariants.{Check, Lint, Draw, TryScript, Dump, Salvage, Picture, Inspect, Levels, Build, Rebuild}

-- the request is over a file that may be a project, a WAD or a script, and only reads it
abbrev pub is_over_source : Request → Bool
is_over_source (Check file map) = true
is_over_source (Lint file map iwad only except) = true
is_over_source (Dump file names exact) = true
is_over_source (Picture file map out numbers nodes lint heights grid crop) = true
is_over_source (Build file out) = true
is_over_source request = false

-- the request tells something on standard error that is no refusal: it is about a script, or its file
-- may be one, about levels that are built anew, or about what can be salvaged
abbrev pub tells_beside : Request → Bool
tells_beside (Draw file script verbose) = true
tells_beside (TryScript script over verbose) = true
tells_beside (Salvage file) = true
tells_beside (Rebuild wad out maps) = true
tells_beside request = is_over_source request

-- the request is over a WAD and no project, and only reads it
abbrev pub is_over_wad : Request → Bool
is_over_wad (Inspect wad name) = true
is_over_wad (Levels wad) = true
is_over_wad request = false

-- the statuses that leave standard error alone: all but 1; 0 alone where a script may be drawn; of a
-- salvage, of a dump and of levels that are built anew none
abbrev pub IsQuiet : Request → ℕ → Type 0
IsQuiet (Draw file script verbose) status = status ≡ 0
IsQuiet (TryScript script over verbose) status = status ≡ 0
IsQuiet (Check file map) status = status ≡ 0
IsQuiet (Lint file map iwad only except) status = status ≡ 0
IsQuiet (Picture file map out numbers nodes lint heights grid crop) status = status ≡ 0
IsQuiet (Build file out) status = status ≡ 0
IsQuiet (Dump file names exact) status = ⊥
IsQuiet (Salvage file) status = ⊥
IsQuiet (Rebuild wad out maps) status = ⊥
IsQuiet request status = ¬ (status ≡ 1)
