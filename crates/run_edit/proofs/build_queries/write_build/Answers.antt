use Rattle.std.proofs.Common.{inl, inr, refl}
use Rattle.map_tables.specs.Projects.{project_of}
use Rattle.wad_build.proofs.ProjectLemmas.{of_all}
use Rattle.wad_build.specs.Projects.{IsRefusalOfAll}
use Rattle.run_edit.specs.Building.{built_text}
use Rattle.run_edit.specs.Queries.{TellsBuild}
use Rattle.run_edit.proofs.Telling.{refusal_told, text_written}
use Rattle.run_edit.proofs.build_queries.write_build.Goals as goal

pub returns-in-Ok : goal.returns-in-Ok
returns-in-Ok g c =
    let ms = (project_of c.args.maps.now).maps in
    let counts = c.in-Ok.built.counts in
    text_written c.write_counts.result (λ text. TellsBuild ms text) (Unit {0}) (built_text counts) (g.W.Write.contents c.args.writer.now)
    (g.W.Write.contents c.write_counts.new.writer) (inl (c.in-Ok.built.bytes.items, counts, c.in-Ok.ensures.counted, refl)) c.write_counts.ensures

pub returns-in-Err : goal.returns-in-Err
returns-in-Err g c =
    let ms = (project_of c.args.maps.now).maps in
    refusal_told c.write_refusal.result (λ text. TellsBuild ms text) (Unit {0}) (IsRefusalOfAll ms) c.in-Err.unbuilt.error (g.W.Write.contents c.args.writer.now)
    (g.W.Write.contents c.write_refusal.new.writer) (of_all ms c.in-Err.unbuilt.error c.in-Err.unbuilt.map c.in-Err.ensures.refused) (λ text told. inr told) tt c.write_refusal.ensures
