use Rattle.std.proofs.Common.{◌≡◌, ◌∙◌, ◌+◌, List, None, Some, ℕ, ap, cond, subst, sym, take}
use Rattle.std.specs.Option.{option_map}
use Rattle.std.specs.Prelude.{IfSome, option_copied}
use Rattle.map_blocks.specs.Defined.{shape_known}
use Rattle.map_blocks.specs.ShapePlaces.{IsShapeWithin, shape_among, shapes_among}
use Rattle.map_blocks.specs.declared.defined.Shape.{Shape}
use Rattle.map_blocks.proofs.Defining.{known_more}
use Rattle.map_blocks.proofs.defined.shape_known.Goals as goal
use Rattle.map_blocks.proofs.defined.shape_known.Goals.{else-is_known, then-is_known}

pub loop-shape-preserved : goal.loop-shape-preserved
loop-shape-preserved c =
    let ss : List Shape = c.args.shapes.now in
    let i = c.loop-shape.shape-index in
    let s = c.shape-item.result in
    record {
      known = λ all.
          let before = shape_known (shapes_among all (take i ss)) c.args.place c.args.name.now in
          let more = known_more all ss i s c.args.place c.args.name.now c.is_known.result c.shape-item.is c.loop-shape-test.true c.is_known.ensures in
          elim c.if-is_known.branch [
            | then-is_known w ↦ ap (λ o. option_map (shape_among all) (option_copied o)) w.found-is ∙ sym (more ∙ ap (λ t. cond t (Some (shape_among all s)) before) w.if-is_known.true)
            | else-is_known w ↦ ap (λ o. option_map (shape_among all) (option_copied o)) w.found-is ∙ c.loop-shape.invariant.known all
                ∙ sym (more ∙ ap (λ t. cond t (Some (shape_among all s)) before) w.if-is_known.false)
          ];
      within = λ count each.
          elim c.if-is_known.branch [
            | then-is_known w ↦ rw w.found-is (subst (λ (x : Shape). IsShapeWithin count x) (sym c.shape-item.is) (each i s c.loop-shape-test.true))
            | else-is_known w ↦ rw w.found-is (c.loop-shape.invariant.within count each)
          ];
    }
