use Rattle.std.proofs.Common.{◌≡◌, length}
use Rattle.map_script.specs.Placed.{placed_corners}
use Rattle.map_script.specs.Texts.{with_each_word}
use Rattle.map_script.specs.Words.{text_words}
use Rattle.map_script.proofs.placed.put_corners.Given as goal

-- the text with the corners that are left
abbrev pub invariant-loop-x : goal.invariant-loop-x
invariant-loop-x l =
    with_each_word l.text.items (placed_corners l.placing (text_words l.rest)) ≡ with_each_word l.fn.text.items (placed_corners l.placing (text_words l.words))

abbrev pub decreases-loop-x : goal.decreases-loop-x
decreases-loop-x l = length l.rest
