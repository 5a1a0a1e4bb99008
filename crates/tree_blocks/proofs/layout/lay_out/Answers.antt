use Rattle.std.proofs.Common.{◌∙◌, ap, map, length, ◌+◌}
use Rattle.tree_blocks.specs.Layout.{once, starts}
use Rattle.tree_blocks.proofs.SizeLemmas.{laid_out, offsets_fit, starts_fit, places_within}
use Rattle.tree_blocks.proofs.layout.lay_out.Goals as goal

pub returns-in-Err-clause-too_large : goal.returns-in-Err-clause-too_large
returns-in-Err-clause-too_large c =
    let lists = c.args.lists.now in
    let keys = ap (map (λ l. l.now)) c.as_slice-written.ensures.keys ∙ c.in_ok-gathered.ensures.written in
    λ e fit. c.in-Err.ensures.too_large e (starts_fit lists _ keys fit)

pub put_offsets-requires : goal.put_offsets-requires
put_offsets-requires c =
    let lists = c.args.lists.now in
    let keys = ap (map (λ l. l.now)) c.as_slice-written.ensures.keys ∙ c.in_ok-gathered.ensures.written in
    let found = c.deref-2.ensures.value ∙ c.in-Ok.ensures.ok ∙ ap (starts (4 + length lists)) keys in
    places_within lists (once lists) c.deref.result.now c.deref-2.result.now (c.deref.ensures.value ∙ c.in_ok-gathered.ensures.places) found

pub returns-clause-ok : goal.returns-clause-ok
returns-clause-ok c =
    let lists = c.args.lists.now in
    let keys = ap (map (λ l. l.now)) c.as_slice-written.ensures.keys ∙ c.in_ok-gathered.ensures.written in
    let found = c.deref-2.ensures.value ∙ c.in-Ok.ensures.ok ∙ ap (starts (4 + length lists)) keys in
    laid_out c.args.grid lists
    (map (λ l. l.now) c.as_slice-written.result.now) c.new-bytes.result.items c.put_header.new.bytes.items c.put_offsets.new.bytes.items c.put_lists.new.bytes.items c.deref.result.now
    c.deref-2.result.now
    c.new-bytes.ensures.items c.in_ok-put_header.ensures.ok (c.deref.ensures.value ∙ c.in_ok-gathered.ensures.places) found keys c.in_ok-put_offsets.ensures.ok c.in_ok-put_lists.ensures.ok

pub returns-clause-fit : goal.returns-clause-fit
returns-clause-fit c =
    let lists = c.args.lists.now in
    let keys = ap (map (λ l. l.now)) c.as_slice-written.ensures.keys ∙ c.in_ok-gathered.ensures.written in
    offsets_fit lists _ keys c.in-Ok.ensures.fit
