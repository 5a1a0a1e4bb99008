use Rattle.std.proofs.Common.{◌+◌, ap}
use Rattle.std.proofs.lemmas.List.{take_rest}
use Rattle.map_script.specs.Names.{text_cut_at}
use Rattle.map_script.proofs.reference.cut.Goals as goal

pub returns-in-Some : goal.returns-in-Some
returns-in-Some c = rw (take_rest c.args.text.now (c.in-Some.i + 1)) (ap (text_cut_at c.args.text.now) c.in-Some.ensures.place)

pub returns-in-None : goal.returns-in-None
returns-in-None c = ap (text_cut_at c.args.text.now) c.in-None.ensures.place
