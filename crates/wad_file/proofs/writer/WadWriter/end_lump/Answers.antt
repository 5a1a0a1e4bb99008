use Rattle.std.proofs.Common.{◌≡◌, ◌∙◌, ◌++◌, ◌∷◌, [], ap, refl, length, rules}
use Rattle.wad_file.specs.DraftFields.{draft_of}
use Rattle.wad_file.specs.Drafts.{Draft}
use Rattle.wad_file.proofs.DraftLemmas.{ended}
use Rattle.wad_file.proofs.writer.WadWriter.end_lump.Goals as goal

pub invariant_of-self-2 : goal.invariant_of-self-2
invariant_of-self-2 c =
    let a = c.self.inside in
    let eight : length c.args.name.bytes ≡ 8 = search rules in
    let h = ended a.bytes.items a.entries.items c.push.new.self.items a.at _ c.len-end.result c.args.name (draft_of a) c.self.invariant eight (c.len-end.ensures ∙ a.bytes.ok.0) refl c.in-Ok.ensures.items in h.laid

pub returns-clause-ok : goal.returns-clause-ok
returns-clause-ok c =
    let a = c.self.inside in
    let eight : length c.args.name.bytes ≡ 8 = search rules in
    let h = ended a.bytes.items a.entries.items c.push.new.self.items a.at _ c.len-end.result c.args.name (draft_of a) c.self.invariant eight (c.len-end.ensures ∙ a.bytes.ok.0) refl c.in-Ok.ensures.items in
    h.view_is ∙ ap (λ (d : Draft). record { lumps = d.lumps ++ record { name = c.args.name; bytes = d.begun } ∷ []; begun = [] }) c.self.view_is
