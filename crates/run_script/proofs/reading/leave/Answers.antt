use Rattle.std.proofs.Common.{◌≡◌, ◌∙◌, ◌-◌, ℕ, ap, arith, length, take}
use Rattle.std.specs.Prelude.{vec_len}
use Rattle.run_script.proofs.ToldBlocks.{told_less}
use Rattle.run_script.proofs.reading.leave.Goals as goal

pub returns-clause-around : goal.returns-clause-around
returns-clause-around c =
    let told = c.args.reading.now.told in
    let len : vec_len told ≡ length told.items = omega (arith, told.ok.0) in
    c.pop.ensures.rest ∙ ap (λ (n : ℕ). take (n - 1) told.items) len

pub returns-clause-told : goal.returns-clause-told
returns-clause-told c =
    let told = c.args.reading.now.told in
    let len : vec_len told ≡ length told.items = omega (arith, told.ok.0) in
    told_less told.items c.pop.new.self.items c.args.reading.now.blocks.items c.pop-2.new.self.items c.in-Some.block c.requires.told c.in-Some.ensures.items
    (c.pop.ensures.rest ∙ ap (λ (n : ℕ). take (n - 1) told.items) len)
