use Rattle.map_commands.proofs.Writing.{further}
use Rattle.map_commands.proofs.text.Text.line.Goals as goal

pub returns : goal.returns
returns c =
    further _ _ _ _ _ c.in_ok-natural.ensures
    (further _ _ _ _ _ c.in_ok-natural-2.ensures
    (further _ _ _ _ _ c.in_ok-natural-3.ensures
    (further _ _ _ _ _ c.in_ok-natural-4.ensures
    (further _ _ _ _ _ c.in_ok-natural-5.ensures
    (further _ _ _ _ _ c.in_ok-natural-6.ensures
    (c.left.ensures))))))
