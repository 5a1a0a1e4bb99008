use Rattle.std.proofs.Common.{◌≡◌, ◌+◌, ◌-◌, ℕ, List, take, drop, sym, ◌∙◌, ap, arith}
use Rattle.std.proofs.lemmas.List.{drop-take}
use Rattle.std.specs.List.{list_any}
use Rattle.store_disk.specs.Entries.{has_place}
use Rattle.store_disk.specs.declared.entry.Entry.{Entry}
use Rattle.store_disk.proofs.Recording.{list_any-has_place}
use Rattle.store_disk.proofs.calls.Calls.has_written.Goals as goal

pub returns : goal.returns
returns c =
    let s = c.args.self.now in
    let there : s.since + (s.count - s.since) ≡ s.count = omega arith in
    let recent : take (s.count - s.since) (drop s.since s.entries.items) ≡ drop s.since (take s.count s.entries.items) =
    sym (drop-take s.since (s.count - s.since) s.entries.items) ∙ ap (λ (k : ℕ). drop s.since (take k s.entries.items)) there in
    c.any_has_place.ensures ∙ ap (λ (es : List Entry). list_any (has_place c.args.place) (take (s.count - s.since) (drop s.since es))) c.deref.ensures.value
    ∙ ap (list_any (has_place c.args.place)) recent ∙ list_any-has_place c.args.place (drop s.since (take s.count s.entries.items))
