use Rattle.std.proofs.Common.{◌≡◌, [], take}
use Rattle.std.specs.Prelude.{option_copied}
use Rattle.map_script.specs.Frames.{layers_in_front}
use Rattle.map_script.specs.Layers.{layered}
use Rattle.map_script.specs.Meant.{meant_by, meant_in}
use Rattle.map_script.proofs.names.find_in.Given as goal

-- what the name stands for in the frames so far
abbrev pub invariant-loop-frame : goal.invariant-loop-frame
invariant-loop-frame l = meant_in (option_copied l.found) ≡ meant_by (layered (layers_in_front (take l.frame-index l.frames) [])) l.name
