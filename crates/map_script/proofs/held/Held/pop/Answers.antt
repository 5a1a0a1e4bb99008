use Rattle.std.proofs.Common.{◌∙◌, List, [], ap, drop, sym, subst}
use Rattle.map_script.specs.Held.{HasNewest, in_front_of}
use Rattle.map_script.specs.declared.held.Entry.{Entry}
use Rattle.map_script.proofs.Hiding.{has_last, indexed_less}
use Rattle.map_script.proofs.Holding.{front_more}
use Rattle.map_script.proofs.held.Held.pop.Goals as goal

pub unreachable-requires : goal.unreachable-requires
unreachable-requires c =
    has_last c.pop.new.self.items c.self.inside.newest.entries c.in-Some.entry
    (subst (λ (hs : List Entry). HasNewest hs c.self.inside.newest.entries) c.in-Some.ensures.items c.self.invariant) c.in-Err.ensures.absent

pub invariant_of-self-2 : goal.invariant_of-self-2
invariant_of-self-2 c =
    rw c.in-Ok.ensures.entries
    (indexed_less c.pop.new.self.items c.self.inside.newest.entries c.in-Some.entry
    (subst (λ (hs : List Entry). HasNewest hs c.self.inside.newest.entries) c.in-Some.ensures.items c.self.invariant))

pub returns : goal.returns
returns c =
    sym (ap (drop 1) (sym c.self.view_is ∙ ap (λ (hs : List Entry). in_front_of hs []) c.in-Some.ensures.items ∙ front_more c.pop.new.self.items c.in-Some.entry []))
