use Rattle.std.proofs.Common.{◌∙◌, ◌<◌, ◌++◌, ap, drop, length, subst, sym, take, arith, List, ℕ, flat_map}
use Rattle.std.specs.Prelude.{All}
use Rattle.wad_file.specs.DraftFields.{draft_of}
use Rattle.wad_file.specs.Drafts.{Draft}
use Rattle.wad_file.specs.Lumps.{IsNamed8, entry_bytes, wad_of, wad_size}
use Rattle.wad_file.specs.declared.entry.Entry.{Entry}
use Rattle.wad_file.proofs.DraftLemmas.{finished}
use Rattle.wad_file.proofs.WrittenLemmas.{Written, is_wad_of, written}
use Rattle.wad_file.proofs.writer.WadWriter.finish.Goals as goal

pub returns-clause-bytes : goal.returns-clause-bytes
returns-clause-bytes c =
    let a = c.self.inside in
    let head = c.deref.result.now in
    let over = c.write_over.ensures ∙ ap (λ (ws : List ℕ). head ++ drop (length head) ws) c.deref_mut.ensures.value in
    finished a.bytes.items head c.write_over.new.bytes c.put_entries.new.bytes.items c.args.kind.now a.entries.items a.at c.len.result c.len-2.result a.bytes.len (draft_of a) c.self.invariant
    (ap (λ (d : Draft). d.begun) c.self.view_is ∙ c.requires.fits.ready) c.requires.kind (c.len.ensures ∙ a.entries.ok.0) (c.len-2.ensures ∙ a.bytes.ok.0) a.bytes.ok.0
    (c.deref.ensures.value ∙ c.in_ok-head.ensures) over
    (c.in_ok-put_entries.ensures ∙ ap (λ (es : List Entry). take a.bytes.len (c.write_over.new.bytes ++ drop (length c.write_over.new.bytes) a.bytes.items) ++ flat_map entry_bytes es) c.deref-2.ensures.value)
    ∙ ap (λ (d : Draft). wad_of c.args.kind.now d.lumps) c.self.view_is

pub returns-clause-reads : goal.returns-clause-reads
returns-clause-reads c =
    let kind = c.args.kind.now in
    let lumps = c.args.self.lumps in
    let named : All IsNamed8 lumps = subst (λ (d : Draft). All IsNamed8 d.lumps) c.self.view_is c.self.invariant.named in
    let f = c.requires.fits.fits in
    let fits : wad_size lumps < 4294967296 = omega (arith, f) in
    is_wad_of kind lumps c.put_entries.new.bytes.items
    (subst (λ (ws : List ℕ). Written kind ws lumps) (sym (returns-clause-bytes c)) (written kind lumps c.requires.kind named fits))
