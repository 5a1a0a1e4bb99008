use Rattle.std.proofs.Common.{◌≡◌, ◌∙◌, sym, ap, ◌&&◌, ◌+◌, ◌-◌, not, true, false}
use Rattle.wad_file.specs.Directory.{are_inside, entry, is_outside}
use Rattle.wad_file.proofs.DirectoryLemmas.{inside_step}
use Rattle.wad_file.proofs.wad.Wad.are_inside.Goals as goal

pub returns-then-is_outside : goal.returns-then-is_outside
returns-then-is_outside c =
    let wad = c.args.self.now in
    let next = c.args.from + (c.loop-n.n + 1) in
    let o : is_outside wad (entry wad (c.args.from + c.loop-n.n)) ≡ true = ap (is_outside wad) (sym c.entry.ensures) ∙ sym c.is_outside.ensures ∙ c.if-is_outside.true in
    sym (c.loop-n.invariant ∙ inside_step wad c.args.from c.loop-n.n c.args.count c.loop-n-test.true
    ∙ ap (λ b. not b && are_inside wad next (c.args.count - (c.loop-n.n + 1))) o)

pub loop-n-preserved : goal.loop-n-preserved
loop-n-preserved c =
    let wad = c.args.self.now in
    let next = c.args.from + (c.loop-n.n + 1) in
    let o : is_outside wad (entry wad (c.args.from + c.loop-n.n)) ≡ false = ap (is_outside wad) (sym c.entry.ensures) ∙ sym c.is_outside.ensures ∙ c.if-is_outside.false in
    c.loop-n.invariant ∙ inside_step wad c.args.from c.loop-n.n c.args.count c.loop-n-test.true
    ∙ ap (λ b. not b && are_inside wad next (c.args.count - (c.loop-n.n + 1))) o
