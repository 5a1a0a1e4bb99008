use Rattle.std.proofs.Common.{List, ℕ, arith, ap, subst}
use Rattle.cli_rebuild.specs.Holding.{IsHeldFrom, sizes_in}
use Rattle.cli_rebuild.proofs.Holding.{stands_for}
use Rattle.cli_rebuild.proofs.held.hold_with.Goals as goal

pub returns-in-Ok : goal.returns-in-Ok
returns-in-Ok g c =
    let directory = c.args.directory.items in
    let here = ap (λ (d : List ℕ). sizes_in d c.args.count) c.deref.ensures.value in
    let sizes = c.all_sizes.ensures in
    let some = c.if-rest-len.false in
    let fits = c.if-all_sizes-len.false in
    let held : IsHeldFrom c.args.kind.now directory c.args.count c.in-Ok.bytes.items =
    subst (λ (d : List ℕ). IsHeldFrom c.args.kind.now d c.args.count c.in-Ok.bytes.items) c.deref-3.ensures.value c.in-Ok.ensures in
    stands_for c.args.kind.now directory c.args.count c.in-Ok.bytes.items held c.args.len c.requires.room (omega (arith, here, sizes, some, fits)) c.requires.short
