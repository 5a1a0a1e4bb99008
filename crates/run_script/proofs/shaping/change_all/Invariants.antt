use Rattle.std.proofs.Common.{map, take}
use Rattle.std.specs.Prelude.{vec_items}
use Rattle.run_script.specs.Shaped.{DoesAll}
use Rattle.run_script.proofs.shaping.change_all.Given as goal

-- the commands so far were done
abbrev pub invariant-loop-i : goal.invariant-loop-i
invariant-loop-i g l = DoesAll g.C.Canvas (map vec_items (take l.i l.lines)) l.fn.canvas l.canvas
