use Rattle.std.proofs.Common.{inl, inr, refl}
use Rattle.wad_build.specs.Sound.{IsBuildRefusal}
use Rattle.wad_levels.specs.Views.{view}
use Rattle.run_edit.specs.Queries.{TellsBuilt, built_lump_of}
use Rattle.run_edit.specs.Texts.{hex_text}
use Rattle.run_edit.proofs.Telling.{refusal_told, text_told}
use Rattle.run_edit.proofs.build_queries.write_built.Goals as goal

pub returns-in-Ok : goal.returns-in-Ok
returns-in-Ok g c =
    let m = c.args.map.now.tables in
    let level = view c.in-Ok.level in
    text_told c.write_lump.result (λ text. TellsBuilt m c.args.lump text) (Unit {0}) (hex_text (built_lump_of m level c.args.lump))
    (g.W.Write.contents c.args.writer.now) (g.W.Write.contents c.write_lump.new.writer) (inl (level, c.in-Ok.ensures.level, refl)) tt c.write_lump.ensures

pub returns-in-Err : goal.returns-in-Err
returns-in-Err g c =
    let m = c.args.map.now.tables in
    refusal_told c.write_refusal.result (λ text. TellsBuilt m c.args.lump text) (Unit {0}) (IsBuildRefusal m) c.in-Err.error (g.W.Write.contents c.args.writer.now)
    (g.W.Write.contents c.write_refusal.new.writer) c.in-Err.ensures.refused (λ text told. inr told) tt c.write_refusal.ensures
