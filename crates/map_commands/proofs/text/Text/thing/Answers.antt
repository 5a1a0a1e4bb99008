use Rattle.map_commands.proofs.Writing.{further}
use Rattle.map_commands.proofs.text.Text.thing.Goals as goal

pub returns : goal.returns
returns c =
    further _ _ _ _ _ c.in_ok-number.ensures
    (further _ _ _ _ _ c.in_ok-number-2.ensures
    (further _ _ _ _ _ c.in_ok-number-3.ensures
    (further _ _ _ _ _ c.in_ok-number-4.ensures
    (c.number-5.ensures))))
