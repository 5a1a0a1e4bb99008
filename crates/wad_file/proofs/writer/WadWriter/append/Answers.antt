use Rattle.std.proofs.Common.{◌∙◌, ◌++◌, ap}
use Rattle.wad_file.specs.DraftFields.{draft_of}
use Rattle.wad_file.specs.Drafts.{Draft}
use Rattle.wad_file.proofs.DraftLemmas.{appended}
use Rattle.wad_file.proofs.writer.WadWriter.append.Goals as goal

pub invariant_of-self-2 : goal.invariant_of-self-2
invariant_of-self-2 c =
    let a = c.self.inside in
    let h = appended a.bytes.items c.args.bytes.now c.extend_from_slice.new.self.items a.entries.items a.at (draft_of a) c.self.invariant c.in_ok-extend_from_slice.ensures.items in h.laid

pub returns-clause-ok : goal.returns-clause-ok
returns-clause-ok c =
    let a = c.self.inside in
    let h = appended a.bytes.items c.args.bytes.now c.extend_from_slice.new.self.items a.entries.items a.at (draft_of a) c.self.invariant c.in_ok-extend_from_slice.ensures.items in
    h.view_is ∙ ap (λ (d : Draft). record d { begun = d.begun ++ c.args.bytes.now }) c.self.view_is
