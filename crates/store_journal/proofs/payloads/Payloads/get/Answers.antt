use Rattle.std.proofs.Common.{◌<◌, ◌∷◌, ◌∙◌, Some, arith, ap, sym, length, get_or}
use Rattle.std.specs.Prelude.{slice_get, slice_index, slice_range}
use Rattle.std.proofs.lemmas.List.{get_or_read}
use Rattle.store_journal.proofs.Parts.{nth-part, none-behind, start-le}
use Rattle.store_journal.proofs.payloads.Payloads.get.Goals as goal

pub part-requires : goal.part-requires
part-requires c =
    let inside = c.self.inside in
    let n = c.args.n in
    let there : n < length inside.ends.items = omega (arith, c.if-n-len.true, c.len.ensures, inside.ends.ok.0) in
    let begin = c.begin_in-begin.ensures ∙ ap (λ ends. slice_index (0 ∷ ends) n) c.deref.ensures.value in
    let end = get_or_read inside.ends.items n c.index-end.result.now there c.index-end.ensures 0 in
    let rises = start-le (length inside.bytes.items) 0 inside.ends.items n c.self.invariant there in
    record {
      rises = omega (arith, begin, end, rises.0);
      within = omega (arith, end, rises.1, ap length c.deref-then-n-len.ensures.value);
    }

pub returns-then-n-len : goal.returns-then-n-len
returns-then-n-len c =
    let inside = c.self.inside in
    let n = c.args.n in
    let there : n < length inside.ends.items = omega (arith, c.if-n-len.true, c.len.ensures, inside.ends.ok.0) in
    let begin = c.begin_in-begin.ensures ∙ ap (λ ends. slice_index (0 ∷ ends) n) c.deref.ensures.value in
    let end = get_or_read inside.ends.items n c.index-end.result.now there c.index-end.ensures 0 in
    ap Some
    (c.part.ensures ∙ ap (λ bytes. slice_range bytes c.begin_in-begin.result c.index-end.result.now) c.deref-then-n-len.ensures.value
    ∙ ap (λ k. slice_range inside.bytes.items k c.index-end.result.now) begin
    ∙ ap (λ k. slice_range inside.bytes.items (get_or (0 ∷ inside.ends.items) n 0) k) end)
    ∙ sym (nth-part 0 inside.ends.items inside.bytes.items n there)
    ∙ ap (λ ps. slice_get ps n) c.self.view_is

pub returns-else-n-len : goal.returns-else-n-len
returns-else-n-len c =
    let inside = c.self.inside in
    sym (ap (λ ps. slice_get ps c.args.n) (sym c.self.view_is) ∙ none-behind 0 inside.ends.items inside.bytes.items c.args.n (omega (arith, c.len.ensures, inside.ends.ok.0, c.if-n-len.false)))
