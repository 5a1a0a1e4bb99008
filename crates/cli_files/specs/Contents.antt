-- What a file holds, by its first 512 bytes (docs/COMMANDS.md, "The program").
use Rattle.std.specs.Prelude.{ℕ, ◌==◌, ◌||◌, if◌then◌else◌, nat_eq, length, Bool, List, codes}
use Rattle.std.specs.List.{list_any, starts_with}
use Rattle.cli_files.specs.declared.content.Content.{Content}
use Rattle.cli_files.specs.declared.content.Content.TheVariants.{Nothing, Project, Wad, Picture, Text, Other}

-- the bytes begin with this text
abbrev pub begins_with : List ℕ → List ℕ → Bool
begins_with text head = starts_with nat_eq head text

-- what a file holds that has a byte, and begins neither as a WAD nor as a project: a picture or
-- a text only if no byte is 0
abbrev pub content_without_magic : List ℕ → Content
content_without_magic head =
    if list_any (λ b. b == 0) head then Other
    else (if begins_with (codes "<svg") head || begins_with (codes "<?xml") head then Picture else Text)

-- what a file holds whose first bytes these are
abbrev pub content_of : List ℕ → Content
content_of head =
    if begins_with (codes "IWAD") head || begins_with (codes "PWAD") head then Wad
    else (if begins_with (codes "LVPJ") head then Project
    else (if length head == 0 then Nothing else content_without_magic head))
