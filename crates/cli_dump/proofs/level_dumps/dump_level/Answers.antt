use Rattle.std.proofs.Common.{◌≡◌, List, None, Option, ℕ, subst, sym}
use Rattle.std.specs.Prelude.{Bool, IfOk, Result, Ok, Err}
use Rattle.lump_records.specs.declared.records.Name8.{Name8}
use Rattle.run_edit.specs.declared.error.EditorError.{EditorError}
use Rattle.wad_import.specs.declared.change.Change.{Change}
use Rattle.wad_import.specs.declared.error.ImportError.{ImportError}
use Rattle.wad_import.proofs.ProjectFacts.{alone_parts}
use Rattle.map_tables.specs.Tables.{Tables}
use Rattle.map_tables.specs.WellFormed.{WellFormed}
use Rattle.cli_dump.specs.DumpSteps.{DumpsFor, lines_for}
use Rattle.cli_dump.specs.LevelDumps.{first_change, level_changes}
use Rattle.cli_print.specs.LevelLines.{level_map, map_refusal}
use Rattle.cli_dump.proofs.InTurn.{none_of}
use Rattle.cli_dump.proofs.level_dumps.dump_level.Goals as goal

pub returns-in-Err-OutOfMemory-clause-dumped : goal.returns-in-Err-OutOfMemory-clause-dumped
returns-in-Err-OutOfMemory-clause-dumped g c =
    let wad = c.args.wad.now in
    let l = c.args.level in
    none_of (lines_for (map_refusal wad l) (first_change c.args.is_exact (level_changes wad l)) (level_map wad l)) (g.W.Write.contents c.args.writer.now)

always : {X E : Type 0} (r : Result X E) (P : Type 0) → P → IfOk r (λ x. P)
always (Ok x) P p = p
always (Err e) P p = tt

dumped :
    (exact : Bool) (n name : Name8) (refusal : Option ImportError) (cs changes : List Change) (m map : Tables) (how : Result Bool EditorError) (u w a b : Option (List ℕ))
    → n ≡ name → refusal ≡ None → cs ≡ changes → m ≡ map → DumpsFor n None (first_change exact cs) cs m how u w a b
    → DumpsFor name refusal (first_change exact changes) changes map how u w a b
dumped exact n name refusal cs changes m map how u w a b named none told is d =
    subst (λ (x : Name8). DumpsFor x refusal (first_change exact changes) changes map how u w a b) named
    (subst (λ (o : Option ImportError). DumpsFor n o (first_change exact changes) changes map how u w a b) (sym none)
    (subst (λ (ks : List Change). DumpsFor n None (first_change exact ks) ks map how u w a b) told
    (subst (λ (t : Tables). DumpsFor n None (first_change exact cs) cs t how u w a b) is d)))

pub returns-in-Ok-clause-dumped : goal.returns-in-Ok-clause-dumped
returns-in-Ok-clause-dumped g c =
    let wad = c.args.wad.now in
    let l = c.args.level in
    let is = (alone_parts c.in-Ok.found.maps (level_map wad l) c.in-Ok.ensures.1).0 in
    dumped c.args.is_exact c.level_name-name.result _ (map_refusal wad l) c.in-Ok.found.changes.items (level_changes wad l) _ (level_map wad l) c.dump_found.result _ _ _ _
    c.level_name-name.ensures c.in-Ok.ensures.0 c.in-Ok.ensures.2 is c.dump_found.ensures

pub returns-in-Ok-clause-map : goal.returns-in-Ok-clause-map
returns-in-Ok-clause-map g c =
    let is = (alone_parts c.in-Ok.found.maps (level_map c.args.wad.now c.args.level) c.in-Ok.ensures.1).0 in
    always c.dump_found.result _ (λ _. subst (λ (m : Tables). WellFormed m) is c.is_well_formed.ensures)
