use Rattle.std.proofs.Common.{◌∙◌, string_bytes, sym}
use Rattle.wad_file.proofs.NameLemmas.{asked_all, asked_by}
use Rattle.wad_file.proofs.names.is_asked.Goals as goal

pub returns-then-is_empty : goal.returns-then-is_empty
returns-then-is_empty c = asked_all string_bytes c.args.names.now c.args.text.now (sym c.is_empty.ensures ∙ c.if-is_empty.true)

pub returns : goal.returns
returns c = asked_by string_bytes c.args.names.now c.args.text.now c.is_among.result (sym c.is_empty.ensures ∙ c.if-is_empty.false) c.is_among.ensures
