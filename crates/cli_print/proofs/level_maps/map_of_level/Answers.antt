use Rattle.std.proofs.Common.{◌≡◌, ◌∙◌, ap, subst, List, ℕ, Result, Ok, Err, None}
use Rattle.std.specs.Prelude.{MatchResult}
use Rattle.lump_records.specs.declared.records.Name8.{Name8}
use Rattle.wad_levels.specs.Drawn.{DrawnLists, drawn_lists, drawn_view, entries_hindrance}
use Rattle.wad_levels.specs.declared.entries.LevelEntries.{LevelEntries}
use Rattle.map_tables.specs.ProjectBody.{alone}
use Rattle.map_tables.specs.Projects.{project_of}
use Rattle.wad_import.specs.Imported.{changes, imported}
use Rattle.wad_import.specs.Outcome.{IsImported}
use Rattle.wad_import.specs.Refused.{RefusesImport, RefusesLevelImport, level_refusal}
use Rattle.wad_import.specs.declared.error.ImportError.{ImportError}
use Rattle.wad_import.specs.declared.import.Imported.{Imported}
use Rattle.wad_import.proofs.LevelLemmas.{level_refusal-read, refused_level}
use Rattle.cli_print.proofs.level_maps.map_of_level.Goals as goal

-- nothing refuses the level, the map is that of its lists, and the changes are those of them
abbrev IsMap : List ℕ → LevelEntries → Name8 → Imported → Type 0
IsMap wad l name i = (level_refusal wad l name ≡ None) × (project_of i.maps ≡ alone (imported name (drawn_lists wad l))) × (i.changes.items ≡ changes (drawn_lists wad l))

map_ends : (wad : List ℕ) (l : LevelEntries) (name : Name8) (d : DrawnLists) (how : Result Imported ImportError) → entries_hindrance wad l ≡ None → d ≡ drawn_lists wad l
    → MatchResult how (IsImported name d) (RefusesImport name d) → MatchResult how (IsMap wad l name) (RefusesLevelImport wad l name)
map_ends wad l name d (Ok i) none same is = (level_refusal-read wad l name d none same ∙ is.accepted, is.project ∙ ap (λ (e : DrawnLists). alone (imported name e)) same, is.told ∙ ap changes same)
map_ends wad l name d (Err e) none same refused = refused_level wad l name d e none same refused

pub returns-in-Ok : goal.returns-in-Ok
returns-in-Ok c =
    subst (λ (name : Name8). MatchResult c.import_drawn.result (IsMap c.args.wad.now c.args.level name) (RefusesLevelImport c.args.wad.now c.args.level name)) c.level_name-name.ensures
    (map_ends c.args.wad.now c.args.level c.level_name-name.result (drawn_view c.in-Ok.drawn) c.import_drawn.result c.in-Ok.ensures.0 c.in-Ok.ensures.1 c.import_drawn.ensures)
