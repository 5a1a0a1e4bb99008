use Rattle.std.proofs.Common.{◌∙◌, ◌++◌, ℕ, List, sym, ap, append_assoc, append-nil}
use Rattle.std.specs.Prelude.{flat_map, Option}
use Rattle.std.specs.List.{range_with_len}
use Rattle.map_picture.specs.Labels.{label_of, number_size, on_page}
use Rattle.map_picture.specs.declared.labels.Label.{Label}
use Rattle.map_picture.proofs.Growth.{listed_more}
use Rattle.map_picture.proofs.labels.add_labels.Goals as goal

pub loop-n-init : goal.loop-n-init
loop-n-init c = sym (append-nil c.args.labels.now.items)

pub loop-n-preserved : goal.loop-n-preserved
loop-n-preserved c =
    let m = c.args.map.now.tables in
    let v = c.args.view.now in
    let f : ℕ → List Label = λ n. on_page v (label_of m v.step (number_size m v) c.args.item n) in
    let n = c.loop-n.n in
    let old = c.args.labels.now.items in
    c.in-Ok.ensures
    ∙ ap (λ (o : Option Label). c.loop-n.labels.items ++ on_page v o) (c.label_of-label.ensures ∙ ap (λ (size : ℕ). label_of m v.step size c.args.item n) c.requires.size)
    ∙ ap (λ (ls : List Label). ls ++ f n) c.loop-n.invariant
    ∙ append_assoc old (flat_map f (range_with_len 0 n)) (f n)
    ∙ ap (λ (ls : List Label). old ++ ls) (sym (listed_more f n))
