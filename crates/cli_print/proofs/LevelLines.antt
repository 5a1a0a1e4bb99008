-- What there is to say of the levels of a WAD, of one after another.
use Rattle.std.proofs.Common.{◌≡◌, ◌∙◌, ◌+◌, ◌<◌, inl, inr, ℕ, List, [], ◌∷◌, ◌++◌, Option, Some, None, Result, Ok, Err}
use Rattle.std.proofs.Common.{length, get_or, map, take, drop, refl, sym, ap, subst, arith, append_assoc, append-nil, length-append}
use Rattle.std.specs.Prelude.{◌≢◌}
use Rattle.std.specs.Io.KnownBytes.{Appends, Keeps}
use Rattle.std.proofs.KnownBytes.{Appends-trans, Keeps-refl}
use Rattle.std.proofs.lemmas.Grind.{flat_map-append}
use Rattle.std.proofs.lemmas.List.{take-append-drop, take_more}
use Rattle.map_dump.specs.Texts.{with_lf, text_of}
use Rattle.lump_records.specs.Names.{name_text}
use Rattle.lump_records.specs.declared.records.Name8.{Name8}
use Rattle.cli_print.specs.Choosing.{LintWants}
use Rattle.wad_levels.specs.Entries.{level_name}
use Rattle.wad_levels.specs.declared.entries.LevelEntries.{LevelEntries}
use Rattle.wad_import.specs.Refused.{RefusesLevelImport}
use Rattle.wad_import.specs.declared.error.ImportError.{ImportError}
use Rattle.wad_import.specs.declared.error.ImportError.TheVariants as import
use Rattle.map_tables.specs.Tables.{Tables}
use Rattle.run_edit.specs.Texts.{total_text}
use Rattle.run_edit.specs.declared.error.EditorError.{EditorError}
use Rattle.run_edit.specs.declared.error.EditorError.TheVariants.{OutOfMemory, InputTooLong, ReaderFailed, WriterFailed}
use Rattle.cli_refusals.specs.Statuses.{status_after}
use Rattle.cli_refusals.specs.declared.refusal.Refusal.{Refusal}
use Rattle.cli_refusals.specs.declared.refusal.Refusal.TheVariants.{Build, Level, Lines, NoSuchMap, NotAMap, Project, TreeOutside}
use Rattle.cli_print.specs.LevelLines.{AreLevelLines, AreLinesOf, IsMapRefusal, IsWadChecked, IsWadLintedOf, WritesLevel, level_map, map_refusal, no_map_text}
use Rattle.cli_print.specs.Checking.{IsCheckedOf}
use Rattle.cli_print.specs.Linting.{WritesRemarks, remarks}
use Rattle.cli_print.specs.Origins.{no_origin}
use Rattle.cli_print.specs.ShownNames.{shown}
use Rattle.cli_print.specs.WantedLevels.{AreWanted, IsWanted}
use Rattle.cli_print.proofs.Linting.{none_written, total_told}

-- ---- A level

-- the line of a level that is no map
abbrev pub no_map_line : Name8 → ImportError → List ℕ
no_map_line name e = map shown (name_text name) ++ no_map_text e

lines_by : (wants : LintWants) (wad : List ℕ) (l : LevelEntries) (o : Option ImportError) → map_refusal wad l ≡ o → (lines : List (List ℕ)) × AreLevelLines wants wad l lines
lines_by wants wad l None is = (remarks no_origin wants (level_map wad l), inl (is, refl))
lines_by wants wad l (Some e) is = (no_map_line (level_name wad l) e ∷ [], inr (e, is, refl))

-- of each level there is something to say, or it has no lines
pub some_lines : (wants : LintWants) (wad : List ℕ) (l : LevelEntries) → (lines : List (List ℕ)) × AreLevelLines wants wad l lines
some_lines wants wad l = lines_by wants wad l (map_refusal wad l) refl

-- the line of a level that is no map was told
pub refusal_told : (wants : LintWants) (wad : List ℕ) (l : LevelEntries) (r : Result ℕ EditorError) (before : ℕ) (name : Name8) (e : ImportError) (u w : Option (List ℕ)) → name ≡ level_name wad l
    → RefusesLevelImport wad l (level_name wad l) e → e ≢ import.OutOfMemory → WritesRemarks r before (no_map_line name e ∷ []) u w → WritesLevel wants wad l r before u w
refusal_told wants wad l r before name e u w is (inl lacks) some told = absurd (some lacks)
refusal_told wants wad l r before name e u w is (inr why) some told =
    (no_map_line (level_name wad l) e ∷ [], inr (e, why, refl), subst (λ (n : Name8). WritesRemarks r before (no_map_line n e ∷ []) u w) is told)

-- no memory was found for the map of a level
pub level_lost : (wants : LintWants) (wad : List ℕ) (l : LevelEntries) (before : ℕ) (u : Option (List ℕ)) → WritesLevel wants wad l (Err OutOfMemory) before u u
level_lost wants wad l before u = let some = some_lines wants wad l in (some.0, some.1, none_written OutOfMemory before some.0 u refl)

-- ---- The levels

all_lines : (wants : LintWants) (wad : List ℕ) (ls : List LevelEntries) → (lines : List (List ℕ)) × AreLinesOf wants wad ls lines
all_lines wants wad [] = ([], refl)
all_lines wants wad (l ∷ ls) =
    let one = some_lines wants wad l in
    let rest = all_lines wants wad ls in
    (one.0 ++ rest.0, (one.0, rest.0, refl, one.1, rest.1))

joined : (wants : LintWants) (wad : List ℕ) (ls ks : List LevelEntries) (lines more : List (List ℕ)) → AreLinesOf wants wad ls lines → AreLinesOf wants wad ks more
    → AreLinesOf wants wad (ls ++ ks) (lines ++ more)
joined wants wad [] ks lines more none are = subst (λ (t : List (List ℕ)). AreLinesOf wants wad ks (t ++ more)) (sym none) are
joined wants wad (l ∷ ls) ks lines more (first, rest, parted, told, are) also =
    (first, rest ++ more, ap (λ (t : List (List ℕ)). t ++ more) parted ∙ append_assoc first rest more, told, joined wants wad ls ks rest more are also)

alone : (wants : LintWants) (wad : List ℕ) (l : LevelEntries) (one : List (List ℕ)) → AreLevelLines wants wad l one → AreLinesOf wants wad (l ∷ []) one
alone wants wad l one told = (one, [], sym (append-nil one), told, refl)

-- this has been said of levels, and counted
abbrev pub HasSaidOf : LintWants → List ℕ → List LevelEntries → ℕ → Option (List ℕ) → Option (List ℕ) → Type 0
HasSaidOf wants wad ls count u w = (lines : List (List ℕ)) × AreLinesOf wants wad ls lines × (count ≡ length lines) × Appends u w (text_of lines)

pub levels_more : (wants : LintWants) (wad : List ℕ) (ls : List LevelEntries) (n : ℕ) (d : LevelEntries) (before sum : ℕ) (u v w : Option (List ℕ)) → n < length ls
    → HasSaidOf wants wad (take n ls) before u v → WritesLevel wants wad (get_or ls n d) (Ok sum) before v w → HasSaidOf wants wad (take (n + 1) ls) sum u w
levels_more wants wad ls n d before sum u v w within (lines, are, count, said) (one, told, (more, line)) =
    let l = get_or ls n d in (
      lines ++ one,
      subst (λ (ks : List LevelEntries). AreLinesOf wants wad ks (lines ++ one)) (sym (take_more ls n d within))
          (joined wants wad (take n ls) (l ∷ []) lines one are (alone wants wad l one told)),
      omega (arith, count, more, length-append lines one),
      subst (λ (t : List ℕ). Appends u w t) (sym (flat_map-append with_lf lines one)) (Appends-trans u v w (text_of lines) (text_of one) said line),
    )

stopped : (done one rest : List (List ℕ)) (before : ℕ) (e : EditorError) (u v w : Option (List ℕ)) → Appends u v (text_of done) → WritesRemarks (Err e) before one v w
    → WritesRemarks (Err e) 0 ((done ++ one) ++ rest) u w
stopped done one rest before WriterFailed u v w said told = tt
stopped done one rest before InputTooLong u v w said told = absurd told
stopped done one rest before ReaderFailed u v w said told = absurd told
stopped done one rest before OutOfMemory u v w said told =
    record {
      front = done ++ told.front;
      back = told.back ++ rest;
      parted =
          ap (λ (lines : List (List ℕ)). (done ++ lines) ++ rest) told.parted
          ∙ ap (λ (lines : List (List ℕ)). lines ++ rest) (sym (append_assoc done told.front told.back))
          ∙ append_assoc (done ++ told.front) told.back rest;
      written =
          subst (λ (t : List ℕ). Appends u w t) (sym (flat_map-append with_lf done told.front))
          (Appends-trans u v w (text_of done) (text_of told.front) said told.written);
    }

pub levels_stopped : (wants : LintWants) (wad : List ℕ) (ls : List LevelEntries) (n : ℕ) (d : LevelEntries) (before : ℕ) (e : EditorError) (u v w : Option (List ℕ)) → n < length ls
    → HasSaidOf wants wad (take n ls) before u v → WritesLevel wants wad (get_or ls n d) (Err e) before v w
    → (lines : List (List ℕ)) × AreLinesOf wants wad ls lines × WritesRemarks (Err e) 0 lines u w
levels_stopped wants wad ls n d before e u v w within (lines, are, count, said) (one, told, lost) =
    let l = get_or ls n d in
    let rest = all_lines wants wad (drop (n + 1) ls) in
    let whole : (take n ls ++ l ∷ []) ++ drop (n + 1) ls ≡ ls =
    ap (λ (ks : List LevelEntries). ks ++ drop (n + 1) ls) (sym (take_more ls n d within)) ∙ take-append-drop (n + 1) ls in (
      (lines ++ one) ++ rest.0,
      subst (λ (ks : List LevelEntries). AreLinesOf wants wad ks ((lines ++ one) ++ rest.0)) whole
          (joined wants wad (take n ls ++ l ∷ []) (drop (n + 1) ls) (lines ++ one) rest.0
          (joined wants wad (take n ls) (l ∷ []) lines one are (alone wants wad l one told)) rest.1),
      stopped lines one rest.0 before e u v w said lost,
    )

-- ---- The request

pub levels_told : (wants : LintWants) (wad : List ℕ) (name : Option (List ℕ)) (ls : List LevelEntries) (count status : ℕ) (u v w x : Option (List ℕ)) → AreWanted wad name ls
    → ((lines : List (List ℕ)) × AreLinesOf wants wad ls lines × WritesRemarks (Ok count) 0 lines u v) → status ≡ status_after count → Appends v w (total_text count) → Keeps w x
    → IsWadLintedOf wants wad name (Ok status) u x
levels_told wants wad name ls count status u v w x wanted (lines, are, told) is total kept = (ls, lines, wanted, are, total_told lines count status u v w x is told total kept)

-- ---- Findings

pub level_checked : (wad : List ℕ) (name : Option (List ℕ)) (how : Result ℕ Refusal) (u w : Option (List ℕ)) (l : LevelEntries) (m : Tables) → IsWanted wad name l
    → map_refusal wad l ≡ None → m ≡ level_map wad l → IsCheckedOf no_origin m how u w → IsWadChecked wad name how u w
level_checked wad name (Ok status) u w l m wanted none is done = (l, wanted, none, subst (λ (t : Tables). IsCheckedOf no_origin t (Ok status) u w) is done)
level_checked wad name (Err (Lines e)) u w l m wanted none is lost = lost
level_checked wad name (Err (Project e)) u w l m wanted none is never = absurd never
level_checked wad name (Err (Level e)) u w l m wanted none is never = absurd never
level_checked wad name (Err (Build e)) u w l m wanted none is never = absurd never
level_checked wad name (Err NoSuchMap) u w l m wanted none is never = absurd never
level_checked wad name (Err (NotAMap e)) u w l m wanted none is never = absurd never
level_checked wad name (Err TreeOutside) u w l m wanted none is never = absurd never
