use Rattle.std.proofs.Common.{Option, subst}
use Rattle.store_salvage.specs.Live.{ShowsSlot}
use Rattle.store_salvage.specs.declared.slots.OpenSlot.{OpenSlot}
use Rattle.store_salvage.proofs.Finding.{one_generation}
use Rattle.store_salvage.proofs.slots.choose.Goals as goal

pub returns-then-one-other-clause-refused : goal.returns-then-one-other-clause-refused
returns-then-one-other-clause-refused c a b file first second there =
    let k = c.in-Some-Some in
    one_generation a b k.one k.other file c.args.place c.if-one-other.true
    (subst (λ (found : Option OpenSlot). ShowsSlot a found file) k.is-0 first) (subst (λ (found : Option OpenSlot). ShowsSlot b found file) k.is-1 second) there
