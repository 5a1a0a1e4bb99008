-- An item has words.
use Rattle.std.proofs.Common.{◌≡◌, ℕ, List, [], ◌∷◌, ◌<◌, ap, arith}
use Rattle.map_commands.specs.Spelling.{item_words}
use Rattle.map_tables.specs.declared.edit.Item.{Item}
use Rattle.map_tables.specs.declared.edit.Item.TheVariants as item

apart : (x y : ℕ) → x ≡ y → x < y → ⊥
apart x y e h = omega arith

abbrev some_if : List (List ℕ) → ℕ
some_if [] = 0
some_if (w ∷ ws) = 1

-- an item has words
pub has_words : (i : Item) → [] ≡ item_words i → ⊥
has_words (item.Vertex v) e = apart 0 1 (ap some_if e) (omega arith)
has_words (item.Sector s) e = apart 0 1 (ap some_if e) (omega arith)
has_words (item.Side s) e = apart 0 1 (ap some_if e) (omega arith)
has_words (item.Line l) e = apart 0 1 (ap some_if e) (omega arith)
has_words (item.Thing t) e = apart 0 1 (ap some_if e) (omega arith)
