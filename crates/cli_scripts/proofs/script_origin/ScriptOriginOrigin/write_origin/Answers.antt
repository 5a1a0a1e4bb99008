use Rattle.std.proofs.Common.{◌≡◌, ◌∙◌, ℕ, List, ap, ap₂, subst}
use Rattle.std.specs.Io.KnownBytes.{Appends}
use Rattle.std.specs.List.{position_or_len}
use Rattle.std.specs.Prelude.{MatchResult}
use Rattle.lump_records.specs.Names.{name_text}
use Rattle.map_tables.specs.Projects.{ProjectMaps}
use Rattle.run_canvas.specs.Origins.{origin_of}
use Rattle.run_edit.specs.declared.error.EditorError.TheVariants.{WriterFailed}
use Rattle.cli_print.specs.Called.{is_called}
use Rattle.cli_scripts.specs.ScriptOrigins.{DrawnScript, origin_text, script_origin}
use Rattle.cli_scripts.proofs.script_origin.ScriptOriginOrigin.write_origin.Goals as goal

pub returns : goal.returns
returns g c =
    let s = c.self.inside in
    let name = name_text c.args.map.now in
    let number : c.first_called-number.result ≡ position_or_len (is_called name) s.draft.now.draft.maps.maps =
    c.first_called-number.ensures ∙ ap₂ (λ (t : List ℕ) (p : ProjectMaps). position_or_len (is_called t) p.maps) c.text.ensures.text c.maps.ensures in
    let place = c.origin.ensures ∙ ap (λ (m : ℕ). origin_of s.draft.now.origins m c.args.kind c.args.n) number in
    let is = ap (origin_text s.script.now.lines s.script.now.files) place
    ∙ ap (λ (d : DrawnScript). script_origin d.lines d.files d.last name c.args.kind c.args.n) c.self.view_is in
    subst (λ (t : List ℕ). MatchResult c.write_adding.result (λ _. Appends (g.W.Write.contents c.args.writer.now) (g.W.Write.contents c.write_adding.new.writer) t) (λ e. e ≡ WriterFailed))
    is c.write_adding.ensures
