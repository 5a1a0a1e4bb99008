use Rattle.std.proofs.Common.{◌≡◌, ap, subst, ℕ, List, Err}
use Rattle.tree_blocks.specs.Layout.{word_bytes, blockmap_words}
use Rattle.tree_blocks.proofs.LayoutLemmas.{blockmap_found, blockmap_refused, some_line}
use Rattle.tree_blocks.proofs.SizeLemmas.{blockmap_short, some_block}
use Rattle.tree_blocks.proofs.WordLemmas.{words_have_sixteen_bits}
use Rattle.tree_blocks.proofs.lump.blockmap_over.Goals as goal

pub returns-in-Ok : goal.returns-in-Ok
returns-in-Ok c =
    let some = some_line c.args.lines.now c.is_empty.result c.is_empty.ensures c.if-is_empty.false in
    let b = subst (λ (ls : List (List ℕ)). c.in-Ok.bytes.items ≡ word_bytes (blockmap_words c.grid_over-grid.result ls)) c.deref.ensures.value c.in-Ok.ensures.ok in
    let f = rw c.deref.ensures.value at c.in-Ok.ensures.fit in
    let short = blockmap_short c.args.lines.now c.grid_over-grid.result c.in_ok-lists.lists.items c.requires
    (some_block c.args.lines.now c.grid_over-grid.result c.grid_over-grid.ensures.grid) c.in_ok-lists.ensures.lists f in
    let bits = words_have_sixteen_bits c.args.lines.now c.grid_over-grid.result c.in_ok-lists.lists.items c.requires c.grid_over-grid.ensures.limits c.grid_over-grid.ensures.corner.0
    c.grid_over-grid.ensures.corner.1 c.in_ok-lists.ensures.lists f in
    blockmap_found c.args.lines.now c.grid_over-grid.result c.in_ok-lists.lists.items c.in-Ok.bytes.items some c.grid_over-grid.ensures.grid c.in_ok-lists.ensures.lists short bits b f

pub returns : goal.returns
returns c =
    let some = some_line c.args.lines.now c.is_empty.result c.is_empty.ensures c.if-is_empty.false in
    let l = rw c.deref.ensures.value at c.in-Err.ensures.too_large in
    blockmap_refused c.args.lines.now c.grid_over-grid.result c.in_ok-lists.lists.items c.in-Err.error some c.grid_over-grid.ensures.grid c.in_ok-lists.ensures.lists (λ q. l (ap Err q))
    (λ q. c.in-Err.ensures.some_line (ap Err q))
