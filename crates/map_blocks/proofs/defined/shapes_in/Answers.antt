use Rattle.std.proofs.Common.{◌≡◌, ◌∙◌, ◌+◌, ◌<◌, arith, ◌++◌, ◌∷◌, [], List, None, Some, ℕ, ap, length, refl, rules, subst, sym}
use Rattle.std.proofs.lemmas.List.Elements.{All-nil, All-push}
use Rattle.map_script.specs.Defines.{define_words}
use Rattle.map_script.specs.Views.{seen}
use Rattle.map_script.specs.Words.{text_words}
use Rattle.map_blocks.specs.Blocks.{lines_between, with_places}
use Rattle.map_blocks.specs.Defined as spec
use Rattle.map_blocks.specs.Defined.{shape_at, shapes_in}
use Rattle.map_blocks.specs.ShapePlaces.{AreShapesWithin, IsShapeWithin, shapes_among}
use Rattle.map_blocks.specs.declared.defined.Shape.{Shape}
use Rattle.map_blocks.proofs.Defining.{defined_next, not_defined, shapes_more}
use Rattle.map_blocks.proofs.PlacedLines.{all_between}
use Rattle.map_blocks.proofs.defined.shapes_in.Goals as goal

pub loop-place-init : goal.loop-place-init
loop-place-init c =
    let lines = c.args.lines.now in
    let all : List (ℕ × (ℕ × List ℕ)) = with_places lines in
    let none : c.new-shapes.result.items ≡ [] = search rules in
    record {
      so_far = ap (λ (ss : List Shape). shapes_among all ss ++ shapes_in (lines_between all 0 (length lines))) none ∙ ap shapes_in (all_between lines);
      within = subst (λ (ss : List Shape). AreShapesWithin (length lines) ss) (sym none) (All-nil (IsShapeWithin (length lines)));
    }

pub loop-place-preserved-in_default : goal.loop-place-preserved-in_default
loop-place-preserved-in_default c =
    let lines = c.args.lines.now in
    let all : List (ℕ × (ℕ × List ℕ)) = with_places lines in
    let x = seen c.line.result in
    let within : c.loop-place.place < length lines = omega (arith, c.loop-place-test.true, c.len-place-end.ensures.count) in
    let none : define_words (text_words x.1) ≡ None = c.in_default.ensures in
    record {
      so_far =
          ap (λ (ss : List spec.Shape). shapes_among all c.loop-place.shapes.items ++ ss) (sym (not_defined lines c.loop-place.place x c.line.ensures within none))
          ∙ c.loop-place.invariant.so_far;
      within = c.loop-place.invariant.within;
    }

pub loop-place-preserved : goal.loop-place-preserved
loop-place-preserved c =
    let lines = c.args.lines.now in
    let all : List (ℕ × (ℕ × List ℕ)) = with_places lines in
    let i = c.loop-place.place in
    let x = seen c.line.result in
    let within : i < length lines = omega (arith, c.loop-place-test.true, c.len-place-end.ensures.count) in
    let words : List (List ℕ) = text_words c.in-Some.words.now in
    let some : define_words (text_words x.1) ≡ Some words = c.in-Some.ensures in
    let rest = shapes_in (lines_between all (i + 1) (length lines)) in
    record {
      so_far =
          shapes_more all c.loop-place.shapes.items c.push.new.self.items c.in-Ok.shape (shape_at i (lines_between all (i + 1) (length lines)) words) rest
          c.in_ok-push.ensures.items c.in-Ok.ensures.ok
          ∙ ap (λ (ss : List spec.Shape). shapes_among all c.loop-place.shapes.items ++ ss) (sym (defined_next lines i x words c.line.ensures within some))
          ∙ c.loop-place.invariant.so_far;
      within =
          subst (λ (ss : List Shape). AreShapesWithin (length lines) ss) (sym c.in_ok-push.ensures.items)
          (All-push (IsShapeWithin (length lines)) c.loop-place.shapes.items c.in-Ok.shape c.loop-place.invariant.within c.in-Ok.ensures.within);
    }
