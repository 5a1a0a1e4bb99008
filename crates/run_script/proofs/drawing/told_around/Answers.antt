use Rattle.std.proofs.Common.{◌≡◌, ◌∙◌, ◌-◌, ℕ, ap, arith, length, take}
use Rattle.std.specs.Prelude.{vec_len}
use Rattle.map_blocks.specs.Blocks.{with_places}
use Rattle.run_script.proofs.ToldBlocks.{around_end, around_line}
use Rattle.run_script.proofs.drawing.told_around.Goals as goal

pub returns-then-read : goal.returns-then-read
returns-then-read c lines within = around_line lines c.args.read within.until c.if-read.true within.told

pub returns : goal.returns
returns c lines within =
    let told = c.args.read.told in
    let len : vec_len told ≡ length told.items = omega (arith, told.ok.0) in
    around_end (with_places lines) c.args.read c.pop.new.self.items c.if-read.false within.told (c.pop.ensures.rest ∙ ap (λ (n : ℕ). take (n - 1) told.items) len)
