-- Lines that are composed word by word.
use Rattle.std.proofs.Common.{◌≡◌, ℕ, List, [], ◌∷◌, ◌++◌, refl, sym, ◌∙◌, ap, append_assoc}
use Rattle.std.specs.List.{join_with_byte}
use Rattle.map_shapes.specs.Texts.{and_words}

glued : (w v : List ℕ) (vs : List (List ℕ)) → join_with_byte 32 ((w ++ (32 ∷ v)) ∷ vs) ≡ w ++ (32 ∷ join_with_byte 32 (v ∷ vs))
glued w v [] = refl
glued w v (u ∷ us) = append_assoc w (32 ∷ v) (32 ∷ join_with_byte 32 (u ∷ us))

-- a word followed by others
pub joined_words : (w : List ℕ) (ws : List (List ℕ)) → and_words w ws ≡ join_with_byte 32 (w ∷ ws)
joined_words w [] = refl
joined_words w (v ∷ vs) = joined_words (w ++ (32 ∷ v)) vs ∙ glued w v vs
