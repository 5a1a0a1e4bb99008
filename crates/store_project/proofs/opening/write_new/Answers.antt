use Rattle.std.proofs.Common.{List, ℕ, subst, refl, ◌∙◌}
use Rattle.store_slots.specs.Steps.{IsFirst}
use Rattle.store_project.proofs.Counts.{apart, none_failed, other_refusal, part_failed, went_well}
use Rattle.store_project.proofs.Gates.{made, slots_made}
use Rattle.store_project.proofs.opening.write_new.Goals as goal

pub returns-clause-made : goal.returns-clause-made
returns-clause-made g c file left =
    let r6 = c.sync.ensures.reads file (c.in_ok-sync.ensures.durable file left) in
    let w4 = c.in-Ok-blank.ensures.written file r6 in
    let w3 = c.in-Ok.ensures.written w4.0 w4.1 in
    let f2 = c.in_ok-slots.ensures.first w3.0 w3.1 in
    let w1 = c.in_ok-write_at.ensures.written f2.0 f2.1 in
    let all =
    made c.args.geometry c.places-places.result c.places-places.ensures.allowed c.places-places.ensures.laid_out c.empty_body.ensures.well_formed c.header.result w1.0 f2.0 w3.0 w4.0 file c.header.ensures w1.2
    (subst (λ (x : List ℕ). IsFirst c.places-places.result.a c.places-places.result.b x f2.0 w3.0) c.empty_body.ensures.bytes f2.2) w3.2 w4.2 in
    (all.0, all.1)

pub returns-clause-slots : goal.returns-clause-slots
returns-clause-slots g c file left =
    let r6 = c.sync.ensures.reads file (c.in_ok-sync.ensures.durable file left) in
    let w4 = c.in-Ok-blank.ensures.written file r6 in
    let w3 = c.in-Ok.ensures.written w4.0 w4.1 in
    let f2 = c.in_ok-slots.ensures.first w3.0 w3.1 in
    let w1 = c.in_ok-write_at.ensures.written f2.0 f2.1 in
    let all =
    made c.args.geometry c.places-places.result c.places-places.ensures.allowed c.places-places.ensures.laid_out c.empty_body.ensures.well_formed c.header.result w1.0 f2.0 w3.0 w4.0 file c.header.ensures w1.2
    (subst (λ (x : List ℕ). IsFirst c.places-places.result.a c.places-places.result.b x f2.0 w3.0) c.empty_body.ensures.bytes f2.2) w3.2 w4.2 in
    slots_made c.in_ok-slots.slots c.places-places.result.a c.places-places.result.b all.1.bytes file c.in_ok-slots.ensures.live.0 c.in_ok-slots.ensures.live.1 c.in_ok-slots.ensures.which.1 c.in_ok-slots.ensures.which.2 all.1.live all.2

pub returns-clause-none : goal.returns-clause-none
returns-clause-none g c file left =
    let r6 = c.sync.ensures.reads file (c.in_ok-sync.ensures.durable file left) in
    let w4 = c.in-Ok-blank.ensures.written file r6 in
    let w3 = c.in-Ok.ensures.written w4.0 w4.1 in
    let f2 = c.in_ok-slots.ensures.first w3.0 w3.1 in
    let w1 = c.in_ok-write_at.ensures.written f2.0 f2.1 in
    let all =
    made c.args.geometry c.places-places.result c.places-places.ensures.allowed c.places-places.ensures.laid_out c.empty_body.ensures.well_formed c.header.result w1.0 f2.0 w3.0 w4.0 file c.header.ensures w1.2
    (subst (λ (x : List ℕ). IsFirst c.places-places.result.a c.places-places.result.b x f2.0 w3.0) c.empty_body.ensures.bytes f2.2) w3.2 w4.2 in
    all.3

pub returns-clause-count : goal.returns-clause-count
returns-clause-count g c =
    none_failed _ _ _ _
    (c.in_ok-sync.ensures.count.done ∙ went_well _ _ _ _ c.in-Ok-blank.ensures.count ∙ went_well _ _ _ _ c.in-Ok.ensures.count
    ∙ c.in_ok-slots.ensures.count.done ∙ c.in_ok-write_at.ensures.count.done ∙ c.in_ok-len.ensures.count.done)

pub returns-in-Err-clause-count : goal.returns-in-Err-clause-count
returns-in-Err-clause-count g c =
    part_failed _ _ _ _ (c.in_ok-slots.ensures.count.done ∙ c.in_ok-write_at.ensures.count.done ∙ c.in_ok-len.ensures.count.done)
    _ _ c.in-Err.ensures.device c.in-Err.ensures.count

pub returns-in-Err-blank-clause-count : goal.returns-in-Err-blank-clause-count
returns-in-Err-blank-clause-count g c =
    part_failed _ _ _ _
    (went_well _ _ _ _ c.in-Ok.ensures.count ∙ c.in_ok-slots.ensures.count.done ∙ c.in_ok-write_at.ensures.count.done
    ∙ c.in_ok-len.ensures.count.done)
    _ _ c.in-Err-blank.ensures.device c.in-Err-blank.ensures.count

pub returns-then-branch-ne0-clause-count : goal.returns-then-branch-ne0-clause-count
returns-then-branch-ne0-clause-count g c = other_refusal _ _ _ _ (apart _ refl) c.in_ok-len.ensures.count.done

pub returns-then-not-is_allowed-clause-count : goal.returns-then-not-is_allowed-clause-count
returns-then-not-is_allowed-clause-count g c = other_refusal _ _ _ _ (apart _ refl) refl
