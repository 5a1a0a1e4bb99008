use Rattle.std.proofs.Common.{◌≡◌, ◌∙◌, refl, sym, subst}
use Rattle.std.specs.Prelude.{MatchResult}
use Rattle.std.specs.Io.KnownBytes.{Appends}
use Rattle.map_checks.specs.Findings.{findings}
use Rattle.map_tables.specs.Body.{lump_of}
use Rattle.map_tables.specs.Projects.{current_map, project_of}
use Rattle.map_tables.specs.Tables.{Tables}
use Rattle.map_tables.proofs.ProjectLemmas.{current_of}
use Rattle.run_edit.specs.Queries.{IsAnswer, TakesMemory, WritesBuilt, kind_of_lump}
use Rattle.run_edit.specs.Runs.{Unwritten}
use Rattle.run_edit.specs.Texts.{count_text, findings_text, hex_text, maps_text}
use Rattle.run_edit.specs.declared.error.EditorError.TheVariants.{WriterFailed}
use Rattle.run_edit.specs.declared.query.Query.TheVariants.{Check, Count, Maps, Hex}
use Rattle.run_edit.proofs.Telling.{text_told, text_written}
use Rattle.run_edit.proofs.answers.write_answer.Goals as goal

pub returns-in-Check : goal.returns-in-Check
returns-in-Check g c =
    let p = project_of c.args.maps.now in
    let u = g.W.Write.contents c.args.writer.now in
    let w = g.W.Write.contents c.write_check.new.writer in
    let same : c.current-map.result.now.tables ≡ current_map p = c.current-map.ensures.tables ∙ sym (current_of c.args.maps.now) in
    rw c.in-Check.is
    (text_told c.write_check.result (λ text. IsAnswer p Check text) (TakesMemory Check) (findings_text (findings (current_map p))) u w refl tt
    (subst (λ (m : Tables). MatchResult c.write_check.result (λ _. Appends u w (findings_text (findings m))) (λ e. Unwritten e u w)) same c.write_check.ensures))

pub returns-in-Count : goal.returns-in-Count
returns-in-Count g c =
    let p = project_of c.args.maps.now in
    let u = g.W.Write.contents c.args.writer.now in
    let w = g.W.Write.contents c.write_count.new.writer in
    let same : c.current-map.result.now.tables ≡ current_map p = c.current-map.ensures.tables ∙ sym (current_of c.args.maps.now) in
    rw c.in-Count.is
    (text_written c.write_count.result (λ text. IsAnswer p Count text) (TakesMemory Count) (count_text (current_map p)) u w refl
    (subst (λ (m : Tables). MatchResult c.write_count.result (λ _. Appends u w (count_text m)) (λ e. e ≡ WriterFailed)) same c.write_count.ensures))

pub returns-in-Maps : goal.returns-in-Maps
returns-in-Maps g c =
    let p = project_of c.args.maps.now in
    rw c.in-Maps.is
    (text_written c.write_maps.result (λ text. IsAnswer p Maps text) (TakesMemory Maps) (maps_text p) (g.W.Write.contents c.args.writer.now)
    (g.W.Write.contents c.write_maps.new.writer) refl c.write_maps.ensures)

pub returns-in-Build : goal.returns-in-Build
returns-in-Build g c = rw c.in-Build.is c.write_build.ensures

pub returns-in-Hex : goal.returns-in-Hex
returns-in-Hex g c =
    let p = project_of c.args.maps.now in
    let lump = c.in-Hex.lump in
    let u = g.W.Write.contents c.args.writer.now in
    let w = g.W.Write.contents c.write_hex.new.writer in
    let same : c.current-map.result.now.tables ≡ current_map p = c.current-map.ensures.tables ∙ sym (current_of c.args.maps.now) in
    rw c.in-Hex.is
    (text_told c.write_hex.result (λ text. IsAnswer p (Hex lump) text) (TakesMemory (Hex lump)) (hex_text (lump_of (current_map p) (kind_of_lump lump))) u w refl tt
    (subst (λ (m : Tables). MatchResult c.write_hex.result (λ _. Appends u w (hex_text (lump_of m (kind_of_lump lump)))) (λ e. Unwritten e u w)) same c.write_hex.ensures))

pub returns-in-HexBuilt : goal.returns-in-HexBuilt
returns-in-HexBuilt g c =
    let p = project_of c.args.maps.now in
    let u = g.W.Write.contents c.args.writer.now in
    let w = g.W.Write.contents c.write_built.new.writer in
    let same : c.current-map.result.now.tables ≡ current_map p = c.current-map.ensures.tables ∙ sym (current_of c.args.maps.now) in
    rw c.in-HexBuilt.is
    (subst (λ (m : Tables). WritesBuilt c.write_built.result m c.in-HexBuilt.lump u w) same c.write_built.ensures)
