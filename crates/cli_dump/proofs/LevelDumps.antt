-- Levels that are dumped, one after another, and what is told of them.
use Rattle.std.proofs.Common.{◌≡◌, ◌∙◌, ◌+◌, ◌<◌, ℕ, List, [], ◌∷◌, ◌++◌, Option, None, Some, Ok, Err, Bool, true, false, cond, length, get_or, map, take, refl, sym, ap, subst, append-nil}
use Rattle.std.specs.Prelude.{All, not, ◌&&◌, filter, flat_map, codes}
use Rattle.std.specs.List.{list_any}
use Rattle.std.specs.Io.KnownBytes.{Appends}
use Rattle.std.proofs.KnownBytes.{Appends-nil, Appends-trans}
use Rattle.std.proofs.lemmas.Grind.{flat_map-append}
use Rattle.std.proofs.lemmas.List.{map-append, take_more}
use Rattle.std.proofs.lemmas.List.Elements.{All-cons, All-head, All-nil, All-push, All-tail}
use Rattle.map_dump.specs.Dump.{map_dump_of}
use Rattle.map_dump.specs.MapDumps.{map_dumps_of}
use Rattle.map_dump.specs.Texts.{WritesFront, text_of, with_lf}
use Rattle.run_edit.specs.declared.error.EditorError.{EditorError}
use Rattle.run_edit.specs.declared.error.EditorError.TheVariants.{OutOfMemory, InputTooLong, ReaderFailed, WriterFailed}
use Rattle.wad_import.specs.Texts.{change_text, import_refusal_text}
use Rattle.wad_import.specs.declared.change.Change.{Change}
use Rattle.wad_import.specs.declared.error.ImportError.{ImportError}
use Rattle.wad_levels.specs.declared.entries.LevelEntries.{LevelEntries}
use Rattle.lump_records.specs.declared.records.Name8.{Name8}
use Rattle.lump_records.specs.Names.{name_text}
use Rattle.map_tables.specs.Projects.{ProjectMaps}
use Rattle.map_tables.specs.Tables.{Tables}
use Rattle.map_tables.specs.WellFormed.{WellFormed}
use Rattle.cli_dump.specs.Asked.{asked_maps}
use Rattle.wad_file.specs.Names.{is_asked}
use Rattle.cli_dump.specs.Dumping.{lines_asked}
use Rattle.cli_dump.specs.DumpSteps.{DumpsFor, DumpsLevel, DumpsLevels, KeepsMap, LosesLines}
use Rattle.cli_dump.specs.LevelDumps.{change_notes, dumped_maps, is_level_left, level_notes, note, notes_of}
use Rattle.cli_print.specs.LevelLines.{level_map}
use Rattle.cli_dump.proofs.InTurn.{lines_kept, lines_more, lines_stopped_at, lines_taken, no_more}

-- ---- Notes

-- one line alone
pub one_line : (line : List ℕ) (u w : Option (List ℕ)) → Appends u w (with_lf line) → Appends u w (text_of (line ∷ []))
one_line line u w said = subst (λ (t : List ℕ). Appends u w t) (sym (append-nil (with_lf line))) said

-- the note of one change more
pub note_more : (name : Name8) (cs : List Change) (n : ℕ) (d : Change) (u v w : Option (List ℕ)) → n < length cs
    → Appends u v (text_of (change_notes name (take n cs))) → Appends v w (with_lf (note name (change_text (get_or cs n d)))) → Appends u w (text_of (change_notes name (take (n + 1) cs)))
note_more name cs n d u v w within told more =
    let one = change_notes name (get_or cs n d ∷ []) in
    let all : change_notes name (take (n + 1) cs) ≡ change_notes name (take n cs) ++ one =
    ap (change_notes name) (take_more cs n d within) ∙ map-append (λ (x : Change). note name (change_text x)) (take n cs) (get_or cs n d ∷ []) in
    subst (λ (t : List ℕ). Appends u w t) (sym (ap text_of all ∙ flat_map-append with_lf (change_notes name (take n cs)) one))
    (Appends-trans u v w (text_of (change_notes name (take n cs))) (text_of one) told (one_line (note name (change_text (get_or cs n d))) v w more))

-- ---- A level

-- a level that is no map is left
pub left_no_map : (name : Name8) (e : ImportError) (d x : Option (List ℕ)) → Appends d x (with_lf (note name (codes "no map: " ++ import_refusal_text e)))
    → (first : Option Change) (cs : List Change) (m : Tables) (u : Option (List ℕ)) → DumpsFor name (Some e) first cs m (Ok false) u u d x
left_no_map name e d x told first cs m u = (refl, Appends-nil u, one_line (note name (codes "no map: " ++ import_refusal_text e)) d x told)

-- a level is left for its first change
pub left_changed : (name : Name8) (c : Change) (d x : Option (List ℕ)) → Appends d x (with_lf (note name (codes "not exact: " ++ change_text c)))
    → (cs : List Change) (m : Tables) (u : Option (List ℕ)) → DumpsFor name None (Some c) cs m (Ok false) u u d x
left_changed name c d x told cs m u = (refl, Appends-nil u, one_line (note name (codes "not exact: " ++ change_text c)) d x told)

-- ---- The levels

-- the lines of a level
abbrev pub level_lines : Bool → List ℕ → LevelEntries → List (List ℕ)
level_lines exact wad l = cond (is_level_left exact wad l) [] (map_dump_of (level_map wad l))

pub level_lines-all : (exact : Bool) (wad : List ℕ) (ls : List LevelEntries) → flat_map (level_lines exact wad) ls ≡ map_dumps_of (dumped_maps exact wad ls)
level_lines-all exact wad ls = lines_kept (level_map wad) map_dump_of (is_level_left exact wad) ls

-- the levels so far were dumped or left, and all or not
pub record HasDumped (exact : Bool) (wad : List ℕ) (ls : List LevelEntries) (all : Bool) (u w d x : Option (List ℕ)) : Type 0 where
  pub all_is : all ≡ not (list_any (is_level_left exact wad) ls)
  pub written : Appends u w (text_of (flat_map (level_lines exact wad) ls))
  pub told : Appends d x (text_of (notes_of exact wad ls))
  pub maps : All (KeepsMap exact wad) ls

pub dumped_none : (exact : Bool) (wad : List ℕ) (u d : Option (List ℕ)) → HasDumped exact wad [] true u u d d
dumped_none exact wad u d = record { all_is = refl; written = Appends-nil u; told = Appends-nil d; maps = All-nil (KeepsMap exact wad) }

pub dumped_more : (exact : Bool) (wad : List ℕ) (ls : List LevelEntries) (n : ℕ) (l0 : LevelEntries) (all one : Bool) (u v w d e x : Option (List ℕ))
    → n < length ls → HasDumped exact wad (take n ls) all u v d e → DumpsLevel exact wad (get_or ls n l0) (Ok one) v w e x → KeepsMap exact wad (get_or ls n l0)
    → HasDumped exact wad (take (n + 1) ls) (all && one) u w d x
dumped_more exact wad ls n l0 all one u v w d e x within so (is, more, told) keeps = record {
  all_is = no_more (is_level_left exact wad) ls n l0 all one within so.all_is is;
  written = lines_more (level_lines exact wad) ls n l0 u v w within so.written more;
  told = lines_more (level_notes exact wad) ls n l0 d e x within so.told told;
  maps =
      subst (λ (ks : List LevelEntries). All (KeepsMap exact wad) ks) (sym (take_more ls n l0 within)) (All-push (KeepsMap exact wad) (take n ls) (get_or ls n l0) so.maps keeps);
}

pub dumped_lost : (exact : Bool) (wad : List ℕ) (ls : List LevelEntries) (n : ℕ) (l0 : LevelEntries) (all : Bool) (why : EditorError) (u v w d e x : Option (List ℕ))
    → n < length ls → HasDumped exact wad (take n ls) all u v d e → DumpsLevel exact wad (get_or ls n l0) (Err why) v w e x
    → DumpsLevels exact wad ls (Err why) u w d x
dumped_lost exact wad ls n l0 all OutOfMemory u v w d e x within so lost =
    subst (λ (lines : List (List ℕ)). WritesFront lines u w) (level_lines-all exact wad ls) (lines_stopped_at (level_lines exact wad) ls n l0 u v w within so.written lost)
dumped_lost exact wad ls n l0 all WriterFailed u v w d e x within so lost = tt
dumped_lost exact wad ls n l0 all InputTooLong u v w d e x within so lost = absurd lost
dumped_lost exact wad ls n l0 all ReaderFailed u v w d e x within so lost = absurd lost

pub dumped_all : (exact : Bool) (wad : List ℕ) (ls : List LevelEntries) (all : Bool) (u w d x : Option (List ℕ)) → HasDumped exact wad ls all u w d x
    → DumpsLevels exact wad ls (Ok all) u w d x
dumped_all exact wad ls all u w d x so =
    (so.all_is, subst (λ (lines : List (List ℕ)). Appends u w (text_of lines)) (level_lines-all exact wad ls) so.written, so.told)

fine_by : (exact : Bool) (wad : List ℕ) (l : LevelEntries) (rest : List LevelEntries) (left : Bool) → (left ≡ false → WellFormed (level_map wad l)) → All WellFormed (map (level_map wad) rest)
    → All WellFormed (map (level_map wad) (cond (not left) (l ∷ rest) rest))
fine_by exact wad l rest true keeps fine = fine
fine_by exact wad l rest false keeps fine = All-cons WellFormed (level_map wad l) (map (level_map wad) rest) (keeps refl) fine

-- the maps that are dumped are well-formed
pub maps_fine : (exact : Bool) (wad : List ℕ) (ls : List LevelEntries) → All (KeepsMap exact wad) ls → All WellFormed (dumped_maps exact wad ls)
maps_fine exact wad [] all = All-nil WellFormed
maps_fine exact wad (l ∷ ls) all =
    fine_by exact wad l (filter (λ (k : LevelEntries). not (is_level_left exact wad k)) ls) (is_level_left exact wad l) (All-head (KeepsMap exact wad) l ls all)
    (maps_fine exact wad ls (All-tail (KeepsMap exact wad) l ls all))

-- ---- Maps that are asked for

pub asked_more : (names : List (List ℕ)) (ms : List Tables) (n : ℕ) (d : Tables) (u v w : Option (List ℕ)) → n < length ms → Appends u v (text_of (flat_map (lines_asked names) (take n ms)))
    → Appends v w (text_of (lines_asked names (get_or ms n d))) → Appends u w (text_of (flat_map (lines_asked names) (take (n + 1) ms)))
asked_more names ms n d u v w within said more = lines_more (lines_asked names) ms n d u v w within said more

lines_asked-all : (names : List (List ℕ)) (p : ProjectMaps) → flat_map (lines_asked names) p.maps ≡ map_dumps_of (asked_maps names p)
lines_asked-all names p = lines_taken map_dump_of (λ (m : Tables). is_asked names (name_text m.name)) p.maps

pub asked_all_written : (names : List (List ℕ)) (p : ProjectMaps) (u w : Option (List ℕ)) → Appends u w (text_of (flat_map (lines_asked names) p.maps))
    → Appends u w (text_of (map_dumps_of (asked_maps names p)))
asked_all_written names p u w said = subst (λ (lines : List (List ℕ)). Appends u w (text_of lines)) (lines_asked-all names p) said

pub asked_lost : (names : List (List ℕ)) (p : ProjectMaps) (n : ℕ) (d : Tables) (e : EditorError) (u v w : Option (List ℕ)) → n < length p.maps
    → Appends u v (text_of (flat_map (lines_asked names) (take n p.maps))) → LosesLines e (lines_asked names (get_or p.maps n d)) v w → LosesLines e (map_dumps_of (asked_maps names p)) u w
asked_lost names p n d OutOfMemory u v w within said lost =
    subst (λ (lines : List (List ℕ)). WritesFront lines u w) (lines_asked-all names p) (lines_stopped_at (lines_asked names) p.maps n d u v w within said lost)
asked_lost names p n d WriterFailed u v w within said lost = tt
asked_lost names p n d InputTooLong u v w within said lost = absurd lost
asked_lost names p n d ReaderFailed u v w within said lost = absurd lost
