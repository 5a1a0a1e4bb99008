use Rattle.std.proofs.Common.{◌+◌, ◌∙◌, ℕ, List, Ok, Err, ap, drop, get_or, map, subst, take}
use Rattle.std.specs.Prelude.{vec_items}
use Rattle.run_script.proofs.ShapeSteps.{does_more, parted_at}
use Rattle.run_script.proofs.shaping.change_all.Goals as goal

pub returns-in-Err : goal.returns-in-Err
returns-in-Err g c =
    let lines = c.args.lines.now in
    let i : ℕ = c.loop-i.i in
    let d = c.index-lines-i.result in (
      c.loop-i.canvas,
      map vec_items (take i lines),
      vec_items (get_or lines i d),
      map vec_items (drop (i + 1) lines),
      parted_at vec_items lines i d c.loop-i-test.true,
      c.loop-i.invariant,
      subst (λ (line : List ℕ). g.C.Canvas.changes c.loop-i.canvas line (Err c.in-Err.code) c.change.new.self)
          (c.deref.ensures.value ∙ ap vec_items c.index-lines-i.is) c.in-Err.ensures,
    )

pub loop-i-preserved : goal.loop-i-preserved
loop-i-preserved g c =
    does_more vec_items g.C.Canvas c.args.lines.now c.loop-i.i c.index-lines-i.result c.args.canvas.now c.loop-i.canvas c.change.new.self c.in-Ok.field-0
    c.loop-i-test.true c.loop-i.invariant
    (subst (λ (line : List ℕ). g.C.Canvas.changes c.loop-i.canvas line (Ok c.in-Ok.field-0) c.change.new.self)
    (c.deref.ensures.value ∙ ap vec_items c.index-lines-i.is) c.in-Ok.ensures)
