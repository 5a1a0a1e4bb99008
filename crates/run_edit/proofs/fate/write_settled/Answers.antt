use Rattle.std.proofs.Common.{◌≡◌, ◌∙◌, ◌<◌, ◌≤◌, ◌+◌, ◌++◌, [], ◌∷◌, ℕ, suc, List, Result, Ok, sym, refl, ap, subst, drop, length, get_or, append_assoc, append-nil, arith}
use Rattle.std.proofs.Math.Seq.{drop-cons}
use Rattle.std.proofs.lemmas.List.{drop_all}
use Rattle.std.specs.Prelude.{flat_map}
use Rattle.std.specs.Io.KnownBytes.{Appends}
use Rattle.run_edit.specs.Groups.{fate_behind, settled_outcomes, told_as}
use Rattle.run_edit.specs.Texts.{outcome_text}
use Rattle.run_edit.specs.declared.fate.Fate.{Fate}
use Rattle.run_edit.proofs.Going.{Appends-append, Appends-none}
use Rattle.run_edit.proofs.fate.write_settled.Goals as goal

-- the answers from one outcome on
next_told : (fate : Fate) (outcomes : List (Result ℕ ℕ)) (i : ℕ) (d : Result ℕ ℕ) → i < length outcomes
    → flat_map outcome_text (settled_outcomes fate (drop i outcomes))
    ≡ outcome_text (told_as fate (get_or outcomes i d)) ++ flat_map outcome_text (settled_outcomes (fate_behind fate (get_or outcomes i d)) (drop (i + 1) outcomes))
next_told fate outcomes i d below =
    let is : suc i ≡ i + 1 = omega arith in
    ap (λ (os : List (Result ℕ ℕ)). flat_map outcome_text (settled_outcomes fate os)) (drop-cons outcomes i d below ∙ ap (λ (n : ℕ). get_or outcomes i d ∷ drop n outcomes) is)

pub loop-outcome-init : goal.loop-outcome-init
loop-outcome-init g c = ([], Appends-none (g.W.Write.contents c.args.writer.now), refl)

pub loop-outcome-preserved : goal.loop-outcome-preserved
loop-outcome-preserved g c =
    let i = c.loop-outcome.outcome-index in
    let outcomes = c.args.outcomes.now in
    let fate = c.loop-outcome.next in
    let outcome = get_or outcomes i (Ok 0) in
    let so_far = c.loop-outcome.invariant in
    let text = outcome_text (told_as fate outcome) in (
      so_far.0 ++ text,
      Appends-append (g.W.Write.contents c.args.writer.now) (g.W.Write.contents c.loop-outcome.writer) (g.W.Write.contents c.write_outcome.new.writer) so_far.0 text so_far.1
          (subst (λ (o : Result ℕ ℕ). Appends (g.W.Write.contents c.loop-outcome.writer) (g.W.Write.contents c.write_outcome.new.writer) (outcome_text o)) c.told_as.ensures c.in-Ok.ensures),
      so_far.2 ∙ ap (λ (t : List ℕ). so_far.0 ++ t) (next_told fate outcomes i (Ok 0) c.loop-outcome-test.true)
          ∙ sym (append_assoc so_far.0 text (flat_map outcome_text (settled_outcomes (fate_behind fate outcome) (drop (i + 1) outcomes))))
          ∙ ap (λ (f : Fate). (so_far.0 ++ text) ++ flat_map outcome_text (settled_outcomes f (drop (i + 1) outcomes))) (sym c.fate_behind-next.ensures),
    )

pub returns : goal.returns
returns g c =
    let i = c.loop-outcome.outcome-index in
    let outcomes = c.args.outcomes.now in
    let so_far = c.loop-outcome.invariant in
    let whole : length outcomes ≤ i = omega (arith, c.loop-outcome-test.false) in
    let none : flat_map outcome_text (settled_outcomes c.loop-outcome.next (drop i outcomes)) ≡ [] = ap (λ (os : List (Result ℕ ℕ)). flat_map outcome_text (settled_outcomes c.loop-outcome.next os)) (drop_all i outcomes whole) in
    subst (λ (t : List ℕ). Appends (g.W.Write.contents c.args.writer.now) (g.W.Write.contents c.loop-outcome.writer) t)
    (sym (so_far.2 ∙ ap (λ (t : List ℕ). so_far.0 ++ t) none ∙ append-nil so_far.0)) so_far.1
