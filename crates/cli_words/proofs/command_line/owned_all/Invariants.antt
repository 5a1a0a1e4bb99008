-- The texts so far are those in front.
use Rattle.std.specs.Prelude.{◌≡◌, map, string_bytes, take}
use Rattle.cli_words.proofs.command_line.owned_all.Given as goal

abbrev pub invariant-loop-text : goal.invariant-loop-text
invariant-loop-text l = map string_bytes l.texts.items ≡ map (λ t. t.now) (take l.text-index l.given)
