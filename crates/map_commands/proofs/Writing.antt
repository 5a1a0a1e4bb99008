-- Writing word by word.
use Rattle.std.proofs.Common.{◌≡◌, List, ◌∷◌, ℕ, ◌++◌, ◌∙◌, ap, refl, sym, append_assoc, Result, Ok, Err}
use Rattle.std.specs.List.{join_with_byte}
use Rattle.std.specs.Prelude.{IfOk}
use Rattle.map_commands.specs.declared.command.Command.{Command}
use Rattle.map_commands.specs.declared.command.Command.TheVariants.{Edit}
use Rattle.map_tables.specs.declared.edit.Edit.TheVariants as edit
use Rattle.map_tables.specs.declared.edit.Item.TheVariants as item
use Rattle.map_commands.specs.declared.text.Text.{Text}
use Rattle.map_commands.specs.Grammar.{head_for, head_word, spelling, words_behind}
use Rattle.map_commands.specs.Views.{Adds, written}

both : (x y z : Text) (a b : List ℕ) → Adds x y a → Adds y z b → Adds x z (a ++ b)
both x y z a b e f = record { line = f.line ∙ ap (λ w. w ++ b) e.line ∙ append_assoc (written x) a b }

-- a text, and another behind it
pub further : {E : Type 0} (r : Result Text E) (x y : Text) (a b : List ℕ) → Adds x y a → IfOk r (λ t. Adds y t b) → IfOk r (λ t. Adds x t (a ++ b))
further (Ok t) x y a b e h = both x y t a b e h
further (Err f) x y a b e h = tt

-- the first word, and the others behind a space each
spelling_parts : (c : Command) → spelling c ≡ head_word (head_for c) ++ 32 ∷ join_with_byte 32 (words_behind c)
spelling_parts (Edit (edit.Add (item.Vertex v))) = refl
spelling_parts (Edit (edit.Set i (item.Vertex v))) = refl
spelling_parts c = refl

-- the first word of a command, and the others behind it
pub whole : {E : Type 0} (r : Result Text E) (x : Text) (c : Command) → written x ≡ head_word (head_for c)
    → IfOk r (λ t. Adds x t (32 ∷ join_with_byte 32 (words_behind c))) → IfOk r (λ t. written t ≡ spelling c)
whole (Ok t) x c e h = h.line ∙ ap (λ w. w ++ 32 ∷ join_with_byte 32 (words_behind c)) e ∙ sym (spelling_parts c)
whole (Err f) x c e h = tt
