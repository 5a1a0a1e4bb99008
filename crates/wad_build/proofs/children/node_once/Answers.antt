use Rattle.std.proofs.Common.{◌∙◌, ◌-◌, sym, ap, ℕ}
use Rattle.std.specs.Prelude.{◌==◌}
use Rattle.std.specs.Option.{option_map}
use Rattle.std.specs.List.{range_with_len}
use Rattle.wad_build.specs.Audit.{first_wrong}
use Rattle.tree_nodes.specs.InRange.{times_node}
use Rattle.wad_levels.specs.Views.{view}
use Rattle.wad_build.specs.declared.fault.Fault.TheVariants.{NodeOnce}
use Rattle.wad_build.proofs.FirstLemmas.{node_same}
use Rattle.wad_build.proofs.children.node_once.Goals as goal

pub returns-in-Ok-Some-clause-fault : goal.returns-in-Ok-Some-clause-fault
returns-in-Ok-Some-clause-fault c =
    let l = view c.args.level.now in
    let whole = c.saturating_sub.ensures ∙ ap (λ (m : ℕ). m - 1) (c.len.ensures ∙ c.args.level.now.nodes.ok.0) in
    let same = node_same l c.args.numbers.now c.saturating_sub.result c.requires in
    ap (option_map NodeOnce) (sym c.in-Ok-Some.field-0-is ∙ c.in-Ok-Some.ensures.place ∙ same ∙ ap (λ (m : ℕ). first_wrong (λ i. times_node l.nodes i == 1) (range_with_len 0 m)) whole)

pub returns-in-Ok-None-clause-fault : goal.returns-in-Ok-None-clause-fault
returns-in-Ok-None-clause-fault c =
    let l = view c.args.level.now in
    let whole = c.saturating_sub.ensures ∙ ap (λ (m : ℕ). m - 1) (c.len.ensures ∙ c.args.level.now.nodes.ok.0) in
    let same = node_same l c.args.numbers.now c.saturating_sub.result c.requires in
    ap (option_map NodeOnce) (sym c.in-Ok-None.field-0-is ∙ c.in-Ok-None.ensures.place ∙ same ∙ ap (λ (m : ℕ). first_wrong (λ i. times_node l.nodes i == 1) (range_with_len 0 m)) whole)
