use Rattle.store_salvage.proofs.replaying.keeps.Goals as goal

pub returns-clause-lost : goal.returns-clause-lost
returns-clause-lost c is none = c.advance.ensures.not_led is
