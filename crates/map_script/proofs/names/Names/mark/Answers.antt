use Rattle.std.proofs.Common.{◌≡◌, [], arith, length}
use Rattle.map_script.specs.Frames.{layers_in_front}
use Rattle.map_script.proofs.Layering.{frames_long}
use Rattle.map_script.proofs.names.Names.mark.Goals as goal

pub returns : goal.returns
returns c =
    let names = c.args.self.now in
    let long = frames_long names.outer.items [] in
    let held : c.len.result ≡ length names.own.held = c.len.ensures in
    let shapes : c.len-2.result ≡ length (layers_in_front names.outer.items []) = omega (arith, c.len-2.ensures, names.outer.ok.0, long) in
    λ i. record { held = held i; shapes = shapes i; placing = names.placing; is_within = names.is_within; answered = names.answered }
