use Rattle.std.proofs.Common.{◌≡◌, ℕ, ◌+◌, ◌||◌, true, false, List, take, Some, sym, ap, ◌∙◌}
use Rattle.std.specs.List.{list_any, slice_get}
use Rattle.std.proofs.lemmas.List.Folds.{list_any_at, list_any_more}
use Rattle.std.proofs.lemmas.Option.{slice_get_within, get_or_from_slice_get}
use Rattle.lump_records.specs.declared.records.Thing.{Thing}
use Rattle.map_checks.specs.Findings.{is_start}
use Rattle.map_checks.proofs.start.has_player_start.Goals as goal

found : (things : List Thing) (n : ℕ) (t : Thing) → slice_get things n ≡ Some t → is_start t ≡ true → true ≡ list_any is_start things
found things n t is h =
    sym (list_any_at is_start things n t (slice_get_within things n t is) (ap is_start (get_or_from_slice_get things n t t is) ∙ h))

not_yet : (things : List Thing) (n : ℕ) (t : Thing) → slice_get things n ≡ Some t → list_any is_start (take n things) ≡ false → is_start t ≡ false
    → list_any is_start (take (n + 1) things) ≡ false
not_yet things n t is before h =
    list_any_more is_start things n t (slice_get_within things n t is)
    ∙ (λ i. before i || (ap is_start (get_or_from_slice_get things n t t is) ∙ h) i)

pub returns-then-is_start : goal.returns-then-is_start
returns-then-is_start c =
    found c.args.map.now.tables.things c.loop-n.n c.unwrap-thing.result (sym c.thing.ensures.item ∙ c.unwrap-thing.ensures)
    (sym c.is_start.ensures ∙ c.if-is_start.true)

pub loop-n-preserved : goal.loop-n-preserved
loop-n-preserved c =
    not_yet c.args.map.now.tables.things c.loop-n.n c.unwrap-thing.result (sym c.thing.ensures.item ∙ c.unwrap-thing.ensures) c.loop-n.invariant
    (sym c.is_start.ensures ∙ c.if-is_start.false)
