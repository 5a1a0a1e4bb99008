use Rattle.std.proofs.Common.{rules, subst}
use Rattle.std.specs.Str.{IsUtf8}
use Rattle.lump_text.proofs.Ascii.{shown_text_utf8}
use Rattle.lump_text.proofs.shown.shown_name.Goals as goal

pub unreachable-requires : goal.unreachable-requires
unreachable-requires c =
    let text = shown_text_utf8 c.args.text.now in
    let told : IsUtf8 c.write_shown.new.writer.items = subst IsUtf8 (search rules) text in
    let ok = c.from_utf8.ensures.succeeds told in
    search rules
