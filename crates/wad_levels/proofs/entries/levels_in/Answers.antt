use Rattle.std.proofs.Common.{◌∙◌, sym}
use Rattle.wad_levels.proofs.RunLemmas.{first_with, first_without}
use Rattle.wad_levels.proofs.entries.levels_in.Goals as goal
use Rattle.wad_levels.proofs.entries.levels_in.Goals.{then-is_level+in_ok-push, else-is_level}

pub loop-k-preserved : goal.loop-k-preserved
loop-k-preserved c =
    elim c.if-is_level.branch [
      | then-is_level+in_ok-push w ↦
          rw w.levels-is
          (first_with c.args.wad.now c.loop-k.k c.loop-k.levels.items _ w.level_at.result c.loop-k.invariant w.in_ok-push.ensures.items
          w.level_at.ensures.marker (sym c.is_level.ensures ∙ w.if-is_level.true) w.level_at.ensures.level)
      | else-is_level w ↦
          rw w.levels-is
          (first_without c.args.wad.now c.loop-k.k c.loop-k.levels.items c.loop-k.invariant (sym c.is_level.ensures ∙ w.if-is_level.false))
    ]
