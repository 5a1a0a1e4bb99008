use Rattle.std.proofs.Common.{◌∙◌, ap, subst}
use Rattle.std.specs.Int.{w16}
use mir.Val.{of_z}
use Rattle.clap.specs.Words.{Text}
use Rattle.cli_words.specs.Boxes.{WritesNumber}
use Rattle.cli_words.proofs.Boxes.{read_back, same_behind, same_box, then_first}
use Rattle.cli_words.proofs.picture_words.box_in.Goals as goal

pub returns-in_default-clause-none : goal.returns-in_default-clause-none
returns-in_default-clause-none c = λ b w. c.in_default.ensures.none w.a.x w.behind_x1 w.x1

pub returns-in_default-first_coordinate-clause-none :
    goal.returns-in_default-first_coordinate-clause-none
returns-in_default-first_coordinate-clause-none c = λ b w.
    c.in_default-first_coordinate.ensures.none w.a.y w.behind_y1 (then_first _ _ _ _ _ _ _ c.in-Some.ensures.some w.x1 w.y1)

pub returns-in_default-first_coordinate-2-clause-none :
    goal.returns-in_default-first_coordinate-2-clause-none
returns-in_default-first_coordinate-2-clause-none c = λ b w.
    let y1 = then_first _ _ _ _ _ _ _ c.in-Some.ensures.some w.x1 w.y1 in
    c.in_default-first_coordinate-2.ensures.none w.c.x w.behind_x2 (then_first _ _ _ _ _ _ _ c.in-Some-first_coordinate.ensures.some y1 w.x2)

pub returns-in_default-coordinate-clause-none : goal.returns-in_default-coordinate-clause-none
returns-in_default-coordinate-clause-none c = λ b w.
    let y1 = then_first _ _ _ _ _ _ _ c.in-Some.ensures.some w.x1 w.y1 in
    let x2 = then_first _ _ _ _ _ _ _ c.in-Some-first_coordinate.ensures.some y1 w.x2 in
    c.in_default-coordinate.ensures.none w.c.y
    (subst (λ (t : Text). WritesNumber t w.c.y) (same_behind _ _ _ _ _ c.in-Some-first_coordinate-2.ensures.some x2) w.y2)

pub returns-clause-some : goal.returns-clause-some
returns-clause-some c =
    record {
      a = record { x = c.in-Some.x1; y = c.in-Some-first_coordinate.y1 };
      c = record { x = c.in-Some-first_coordinate-2.x2; y = c.in-Some-coordinate.y2 };
      behind_x1 = c.in-Some.behind_x1.now;
      behind_y1 = c.in-Some-first_coordinate.behind_y1.now;
      behind_x2 = c.in-Some-first_coordinate-2.behind_x2.now;
      x1 = c.in-Some.ensures.some;
      y1 = c.in-Some-first_coordinate.ensures.some;
      x2 = c.in-Some-first_coordinate-2.ensures.some;
      y2 = c.in-Some-coordinate.ensures.some;
      wide = λ e. c.if-x1-x2.false (ap (of_z w16) e);
      high = λ e. c.if-y1-y2.false (ap (of_z w16) e);
      is = c.box_between.ensures
          ∙ same_box _ _ _ _ _ _ _ _ (read_back _ _ c.in-Some.ensures.some.number) (read_back _ _ c.in-Some-first_coordinate.ensures.some.number)
          (read_back _ _ c.in-Some-first_coordinate-2.ensures.some.number) (read_back _ _ c.in-Some-coordinate.ensures.some);
    }
