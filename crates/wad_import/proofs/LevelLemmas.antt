-- A level of a WAD whose lists are read is a map, or is refused, as its lists are.
use Rattle.std.proofs.Common.{◌≡◌, ◌∙◌, inl, inr, ap, sym, subst, List, ℕ, Option, None, Result, Ok, Err}
use Rattle.std.specs.Prelude.{MatchResult}
use Rattle.std.specs.Option.{option_map, option_or}
use Rattle.lump_records.specs.declared.records.Name8.{Name8}
use Rattle.wad_levels.specs.Drawn.{DrawnLists, drawn_lists, entries_hindrance}
use Rattle.wad_levels.specs.declared.entries.LevelEntries.{LevelEntries}
use Rattle.wad_levels.specs.declared.hindrance.Hindrance.{Hindrance}
use Rattle.wad_import.specs.Outcome.{IsImported}
use Rattle.wad_import.specs.Refused.{RefusesImport, RefusesLevelImport, import_refusal, level_refusal}
use Rattle.wad_import.specs.declared.error.ImportError.{ImportError}
use Rattle.wad_import.specs.declared.error.ImportError.TheVariants.{Hindered}
use Rattle.wad_import.specs.declared.import.Imported.{Imported}

pub level_refusal-read : (wad : List ℕ) (l : LevelEntries) (name : Name8) (d : DrawnLists) → entries_hindrance wad l ≡ None → d ≡ drawn_lists wad l
    → level_refusal wad l name ≡ import_refusal name d
level_refusal-read wad l name d none same =
    ap (λ (o : Option Hindrance). option_or (option_map Hindered o) (import_refusal name (drawn_lists wad l))) none ∙ ap (import_refusal name) (sym same)

pub refused_level : (wad : List ℕ) (l : LevelEntries) (name : Name8) (d : DrawnLists) (e : ImportError) → entries_hindrance wad l ≡ None → d ≡ drawn_lists wad l
    → RefusesImport name d e → RefusesLevelImport wad l name e
refused_level wad l name d e none same (inl lacks) = inl lacks
refused_level wad l name d e none same (inr refused) = inr (level_refusal-read wad l name d none same ∙ refused)

pub level_ends : (wad : List ℕ) (l : LevelEntries) (name : Name8) (d : DrawnLists) (how : Result Imported ImportError) → entries_hindrance wad l ≡ None → d ≡ drawn_lists wad l
    → MatchResult how (IsImported name d) (RefusesImport name d) → MatchResult how (IsImported name (drawn_lists wad l)) (RefusesLevelImport wad l name)
level_ends wad l name d (Ok i) none same is = subst (λ (e : DrawnLists). IsImported name e i) same is
level_ends wad l name d (Err e) none same refused = refused_level wad l name d e none same refused
