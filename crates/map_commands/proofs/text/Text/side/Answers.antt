use Rattle.map_commands.proofs.Padding.{name_utf8}
use Rattle.map_commands.proofs.Writing.{further}
use Rattle.map_commands.proofs.text.Text.side.Goals as goal

pub name-requires : goal.name-requires
name-requires c = name_utf8 _ c.requires.upper

pub name-requires-2 : goal.name-requires-2
name-requires-2 c = name_utf8 _ c.requires.lower

pub name-requires-3 : goal.name-requires-3
name-requires-3 c = name_utf8 _ c.requires.middle

pub returns : goal.returns
returns c =
    further _ _ _ _ _ c.in_ok-number.ensures
    (further _ _ _ _ _ c.in_ok-number-2.ensures
    (further _ _ _ _ _ c.in_ok-name.ensures
    (further _ _ _ _ _ c.in_ok-name-2.ensures
    (further _ _ _ _ _ c.in_ok-name-3.ensures
    (c.natural.ensures)))))
