use Rattle.std.proofs.Common.{◌≡◌, ◌∙◌, ◌+◌, ◌<◌, ◌≤◌, ◌&&◌, ◌==◌, Bool, List, ℕ, cond, length, ap, ap₂, arith, refl, sym}
use Rattle.std.specs.Prelude.{suc, slice_get, Some}
use Rattle.map_script.specs.Loops.{closes}
use Rattle.map_script.specs.Views.{seen}
use Rattle.map_blocks.specs.Blocks.{lines_between, block_len, depth_after, with_places}
use Rattle.map_blocks.proofs.PlacedLines.{next_line, none_left}
use Rattle.map_blocks.proofs.blocks.block_len.Goals as goal

-- one line of a block
line_of_block : (lines : List (ℕ × List ℕ)) (i until depth deeper : ℕ) (x : ℕ × List ℕ) (ends : Bool) → slice_get lines i ≡ Some x → i < until
    → ends ≡ (closes x.1 && (depth == 0)) → deeper ≡ depth_after depth x.1
    → block_len depth (lines_between (with_places lines) i until) ≡ cond ends 0 (suc (block_len deeper (lines_between (with_places lines) (i + 1) until)))
line_of_block lines i until depth deeper x ends is inside ended so =
    let rest : List (ℕ × (ℕ × List ℕ)) = lines_between (with_places lines) (i + 1) until in
    ap (block_len depth) (next_line lines i until x is inside)
    ∙ ap₂ (λ (t : Bool) (d : ℕ). cond t 0 (suc (block_len d rest))) (sym ended) (sym so)

pub returns-then-ends_block : goal.returns-then-ends_block
returns-then-ends_block c =
    let lines : List (ℕ × List ℕ) = c.args.lines.now in
    let i = c.loop-i.i in
    let until = c.args.until in
    let depth = c.loop-i.depth in
    let x = seen c.line.result in
    let rest : List (ℕ × (ℕ × List ℕ)) = lines_between (with_places lines) (i + 1) until in
    let all = c.loop-i.invariant.0 in
    let none : block_len depth (lines_between (with_places lines) i until) ≡ 0 =
    line_of_block lines i until depth (depth_after depth x.1) x c.ends_block.result c.line.ensures c.loop-i-test.true c.ends_block.ensures refl
    ∙ ap (λ t. cond t 0 (suc (block_len (depth_after depth x.1) rest))) c.if-ends_block.true in
    record { len = omega (arith, all, none); within = omega arith }

pub loop-i-preserved : goal.loop-i-preserved
loop-i-preserved c =
    let lines : List (ℕ × List ℕ) = c.args.lines.now in
    let i = c.loop-i.i in
    let until = c.args.until in
    let depth = c.loop-i.depth in
    let deeper = c.depth_after-depth.result in
    let rest : List (ℕ × (ℕ × List ℕ)) = lines_between (with_places lines) (i + 1) until in
    let all = c.loop-i.invariant.0 in
    let more : block_len depth (lines_between (with_places lines) i until) ≡ suc (block_len deeper rest) =
    line_of_block lines i until depth deeper (seen c.line.result) c.ends_block.result c.line.ensures c.loop-i-test.true c.ends_block.ensures
    c.depth_after-depth.ensures.value
    ∙ ap (λ t. cond t 0 (suc (block_len deeper rest))) c.if-ends_block.false in
    (omega (arith, all, more), omega (arith, c.depth_after-depth.ensures.most, c.loop-i.invariant.1))

pub returns : goal.returns
returns c =
    let lines : List (ℕ × List ℕ) = c.args.lines.now in
    let i = c.loop-i.i in
    let until = c.args.until in
    let all = c.loop-i.invariant.0 in
    let none : block_len c.loop-i.depth (lines_between (with_places lines) i until) ≡ 0 =
    ap (block_len c.loop-i.depth) (none_left i until (with_places lines) c.loop-i-test.false) in
    record { len = omega (arith, all, none); within = omega arith }
