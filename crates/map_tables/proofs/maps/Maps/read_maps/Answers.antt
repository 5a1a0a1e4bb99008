-- The maps that were read are the only ones with these bytes.
use Rattle.std.proofs.Common.{◌≡◌, ◌≤◌, ◌+◌, ◌-◌, ◌++◌, ℕ, List, [], length, take, drop, take_all, drop_of_length-le, length-drop, sym, ap, ◌∙◌, arith}
use Rattle.std.specs.Prelude.{flat_map}
use Rattle.std.proofs.lemmas.List.{append-nil, drop-drop}
use Rattle.map_tables.specs.Parts.{part}
use Rattle.map_tables.specs.Projects.{ProjectMaps, project_of}
use Rattle.map_tables.proofs.FramedLemmas.{refused_by}
use Rattle.map_tables.proofs.PartsLemmas.{first_is, part_fits, no_first, no_next, next_behind}
use Rattle.map_tables.proofs.maps.Maps.read_maps.Goals as goal

rest_is : (bs : List ℕ) (at : ℕ) → at ≤ length bs → take (length bs - at) (drop at bs) ≡ drop at bs
rest_is bs at within = take_all (length bs - at) (drop at bs) (omega (arith, length-drop at bs))

pub returns-in_err-first-clause-refused : goal.returns-in_err-first-clause-refused
returns-in_err-first-clause-refused c =
    refused_by (no_first c.args.bytes.now) c.from_residual.result c.in_err-first.field-0.0 c.from_residual.ensures.1 c.in_err-first.ensures.refused

pub loop-at-init : goal.loop-at-init
loop-at-init c =
    let bs = c.args.bytes.now in
    let m = c.in_ok-first.first.tables in
    let begins = c.in_ok-first.ensures.map in
    let is = ap (λ (p : ProjectMaps). p.maps) c.keep_only.ensures.project in
    let at : c.part_len-at.result ≡ _ = c.part_len-at.ensures.value in (
      c.keep_only.ensures.well_formed,
      omega (arith, part_fits m bs begins, at),
      rw at (first_is (project_of c.keep_only.new.self) m bs is begins),
    )

further : (bs : List ℕ) (at n : ℕ) → drop (at + n) bs ≡ drop n (drop at bs)
further bs at n = sym (drop-drop n at bs)

rest_size : (bs : List ℕ) (at : ℕ) → at ≤ length bs → length (take (length bs - at) (drop at bs)) ≡ length bs - at
rest_size bs at within = ap length (rest_is bs at within) ∙ length-drop at bs

pub overflow_add-at : goal.overflow_add-at
overflow_add-at c =
    omega (arith, c.loop-at.invariant.1, rest_size c.args.bytes.now c.loop-at.at c.loop-at.invariant.1, c.in_ok-at.ensures.next.within)

pub loop-at-preserved : goal.loop-at-preserved
loop-at-preserved c =
    let bs = c.args.bytes.now in
    let at = c.loop-at.at in
    let inv = c.loop-at.invariant in
    let next = c.in_ok-at.ensures.next in (
      next.well_formed,
      omega (arith, inv.1, rest_size bs at inv.1, next.within),
      next_behind (project_of c.loop-at.self) (project_of c.read_next.new.self) at c.in_ok-at.field-0
          (take (length bs - at) (drop at bs)) bs (rest_is bs at inv.1) inv.2 next (further bs at c.in_ok-at.field-0),
    )

pub loop-at-smaller : goal.loop-at-smaller
loop-at-smaller c = omega (arith, c.loop-at.invariant.1, c.in_ok-at.ensures.next.some, c.loop-at-test.true)

pub returns-in_err-at-clause-refused : goal.returns-in_err-at-clause-refused
returns-in_err-at-clause-refused c =
    let bs = c.args.bytes.now in
    let at = c.loop-at.at in
    let inv = c.loop-at.invariant in
    let q = project_of c.loop-at.self in
    let rest = take (length bs - at) (drop at bs) in
    refused_by (no_next q rest bs inv.0 (ap (λ x. flat_map part q.maps ++ x) (rest_is bs at inv.1) ∙ inv.2) (omega (arith, rest_size bs at inv.1, c.loop-at-test.true)))
    c.from_residual-in_err-at.result c.in_err-at.field-0.0 c.from_residual-in_err-at.ensures.1 c.in_err-at.ensures.refused

pub returns-clause-maps : goal.returns-clause-maps
returns-clause-maps c =
    let bs = c.args.bytes.now in
    let inv = c.loop-at.invariant in
    let q = project_of c.loop-at.self in
    let none : drop c.loop-at.at bs ≡ [] = drop_of_length-le bs (omega (arith, c.loop-at-test.false)) in
    record { well_formed = inv.0; encoded = sym (append-nil (flat_map part q.maps)) ∙ ap (λ x. flat_map part q.maps ++ x) (sym none) ∙ inv.2 }
