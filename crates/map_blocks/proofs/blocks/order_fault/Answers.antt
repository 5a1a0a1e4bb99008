use Rattle.std.proofs.Common.{◌≡◌, ◌∙◌, ◌+◌, ◌<◌, ◌≤◌, ◌&&◌, ◌==◌, Bool, false, List, [], Option, None, Some, ℕ, cond, length, ap, ap₂, arith, refl, sym}
use Rattle.std.specs.Prelude.{zero, suc, slice_get}
use Rattle.std.proofs.lemmas.Bool.Decides.{nat_tests}
use Rattle.map_script.specs.Views.{seen}
use Rattle.map_blocks.specs.Blocks.{lines_between, order_fault, depth_after, fault_within, is_misplaced, with_places}
use Rattle.map_blocks.proofs.PlacedLines.{all_between, next_line, none_left}
use Rattle.map_blocks.proofs.blocks.order_fault.Goals as goal

-- one line more
fault_at : (lines : List (ℕ × List ℕ)) (i until outer depth further deeper : ℕ) (x : ℕ × List ℕ) (misplaced : Bool) → slice_get lines i ≡ Some x
    → i < until → misplaced ≡ is_misplaced depth x.1 → further ≡ cond (depth == 0) i outer → deeper ≡ depth_after depth x.1
    → fault_within outer depth (lines_between (with_places lines) i until)
    ≡ cond misplaced (Some i) (fault_within further deeper (lines_between (with_places lines) (i + 1) until))
fault_at lines i until outer depth further deeper x misplaced is inside wrong begun so =
    let rest : List (ℕ × (ℕ × List ℕ)) = lines_between (with_places lines) (i + 1) until in
    ap (fault_within outer depth) (next_line lines i until x is inside)
    ∙ ap (λ t. cond t (Some i) (fault_within (cond (depth == 0) i outer) (depth_after depth x.1) rest)) (sym wrong)
    ∙ ap₂ (λ (o d : ℕ). cond misplaced (Some i) (fault_within o d rest)) (sym begun) (sym so)

some_open : (d : ℕ) → (suc d == 0) ≡ false
some_open d = grind (arith, nat_tests)

-- an open block begins before a place
before_place : (depth i outer further : ℕ) → further ≡ cond (depth == 0) i outer → (0 < depth → outer < i) → further < i + 1
before_place zero i outer further is before = omega (arith, is)
before_place (suc d) i outer further is before =
    let same : further ≡ outer = is ∙ ap (λ t. cond t i outer) (some_open d) in
    omega (arith, same, before (omega arith))

-- behind the last line
whole : (outer depth : ℕ) (left : List (ℕ × (ℕ × List ℕ))) (fault : Option ℕ) → fault_within outer depth left ≡ fault → left ≡ [] → depth ≡ 0 → None ≡ fault
whole outer depth left fault is none closed =
    sym (ap (λ (d : ℕ). fault_within outer d []) closed) ∙ sym (ap (fault_within outer depth) none) ∙ is

unclosed : (outer depth : ℕ) (left : List (ℕ × (ℕ × List ℕ))) (fault : Option ℕ) → fault_within outer depth left ≡ fault → left ≡ [] → (depth ≡ 0 → ⊥)
    → Some outer ≡ fault
unclosed outer zero left fault is none closed = absurd (closed refl)
unclosed outer (suc d) left fault is none closed =
    sym (ap (λ t. cond t None (Some outer)) (some_open d)) ∙ sym (ap (fault_within outer (suc d)) none) ∙ is

pub loop-place-init : goal.loop-place-init
loop-place-init c = record {
  fault = ap (fault_within 0 0) (all_between c.args.lines.now);
  depth = omega arith;
  outer = λ none. absurd (omega (arith, none));
}

pub returns-then-is_misplaced-clause-place : goal.returns-then-is_misplaced-clause-place
returns-then-is_misplaced-clause-place c =
    let lines : List (ℕ × List ℕ) = c.args.lines.now in
    let i = c.loop-place.place in
    let within : i < length lines = omega (arith, c.loop-place-test.true, c.len-place-end.ensures.count) in
    let outer = c.loop-place.outer in
    let depth = c.loop-place.depth in
    let x = seen c.line.result in
    let rest : List (ℕ × (ℕ × List ℕ)) = lines_between (with_places lines) (i + 1) (length lines) in
    sym (fault_at lines i (length lines) outer depth (cond (depth == 0) i outer) (depth_after depth x.1) x c.is_misplaced.result
    c.line.ensures within c.is_misplaced.ensures refl refl
    ∙ ap (λ t. cond t (Some i) (fault_within (cond (depth == 0) i outer) (depth_after depth x.1) rest)) c.if-is_misplaced.true)
    ∙ c.loop-place.invariant.fault

pub loop-place-preserved : goal.loop-place-preserved
loop-place-preserved c =
    let lines : List (ℕ × List ℕ) = c.args.lines.now in
    let i = c.loop-place.place in
    let within : i < length lines = omega (arith, c.loop-place-test.true, c.len-place-end.ensures.count) in
    let rest : List (ℕ × (ℕ × List ℕ)) = lines_between (with_places lines) (i + 1) (length lines) in
    let further = c.outermost-outer.result in
    let deeper = c.depth_after-depth.result in
    let more =
    fault_at lines i (length lines) c.loop-place.outer c.loop-place.depth further deeper (seen c.line.result) c.is_misplaced.result c.line.ensures
    within c.is_misplaced.ensures c.outermost-outer.ensures c.depth_after-depth.ensures.value
    ∙ ap (λ t. cond t (Some i) (fault_within further deeper rest)) c.if-is_misplaced.false in
    record {
      fault = sym more ∙ c.loop-place.invariant.fault;
      depth = omega (arith, c.depth_after-depth.ensures.most, c.loop-place.invariant.depth);
      outer = λ _. before_place c.loop-place.depth i c.loop-place.outer further c.outermost-outer.ensures c.loop-place.invariant.outer;
    }

pub returns-then-depth-eq0-clause-place : goal.returns-then-depth-eq0-clause-place
returns-then-depth-eq0-clause-place c =
    let lines : List (ℕ × List ℕ) = c.args.lines.now in
    let over : length lines ≤ c.loop-place.place = omega (arith, c.loop-place-test.false, c.len-place-end.ensures.count) in
    whole c.loop-place.outer c.loop-place.depth (lines_between (with_places lines) c.loop-place.place (length lines)) (order_fault lines)
    c.loop-place.invariant.fault (none_left c.loop-place.place (length lines) (with_places lines) over) c.if-depth-eq0.true

pub returns-else-depth-eq0-clause-place : goal.returns-else-depth-eq0-clause-place
returns-else-depth-eq0-clause-place c =
    let lines : List (ℕ × List ℕ) = c.args.lines.now in
    let over : length lines ≤ c.loop-place.place = omega (arith, c.loop-place-test.false, c.len-place-end.ensures.count) in
    unclosed c.loop-place.outer c.loop-place.depth (lines_between (with_places lines) c.loop-place.place (length lines)) (order_fault lines)
    c.loop-place.invariant.fault (none_left c.loop-place.place (length lines) (with_places lines) over) c.if-depth-eq0.false
