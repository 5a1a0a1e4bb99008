use Rattle.std.proofs.Common.{◌∙◌}
use Rattle.map_lint.proofs.texture_index.TextureIndex.named.Goals as goal

pub returns : goal.returns
returns c = c.copied.ensures ∙ c.get.ensures.value ∙ c.requires c.args.name.now.bytes
