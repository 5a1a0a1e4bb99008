use Rattle.std.proofs.Common.{◌∙◌, sym}
use Rattle.std.specs.Prelude.{bytes_eq}
use Rattle.indexmap.specs.IndexMap.{get}
use Rattle.map_lint.proofs.TextureSteps.{gained, kept}
use Rattle.map_lint.proofs.texture_index.note.Goals as goal

pub returns-then-contains_key : goal.returns-then-contains_key
returns-then-contains_key c = kept (get bytes_eq c.args.by_name.now) c.args.texture.now (sym c.contains_key.ensures ∙ c.if-contains_key.true)

pub returns-in-Ok : goal.returns-in-Ok
returns-in-Ok c =
    gained (get bytes_eq c.args.by_name.now) (get bytes_eq c.insert.new.self) c.args.texture.now (sym c.contains_key.ensures ∙ c.if-contains_key.false)
    (c.in-Ok.ensures.updates.0)
