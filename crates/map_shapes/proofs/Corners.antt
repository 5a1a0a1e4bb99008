-- The words of corners, two by two.
use Rattle.std.proofs.Common.{◌≡◌, ◌<◌, List, [], ◌∷◌, ◌++◌, ℕ, length, drop, suc, true, cond, refl, sym, ◌∙◌, ap, arith}
use Rattle.std.specs.Prelude.{nat_lt}
use Rattle.std.specs.Fmt.{signed_decimal}
use Rattle.std.proofs.lemmas.Bool.Decides.{nat_tests}
use Rattle.lump_records.specs.declared.records.Vertex.{Vertex}
use Rattle.map_commands.specs.Places.{coordinate, flags, name, sector_item}
use Rattle.map_commands.specs.Spelling.{vertex_words}
use Rattle.map_shapes.specs.Shapes.{corner_places, corner_words, door_places}

-- two places more
pub corner_places-more : (ws : List (List ℕ)) → 0 < length ws → corner_places ws ≡ coordinate ∷ coordinate ∷ corner_places (drop 1 (drop 1 ws))
corner_places-more [] some = absurd (omega arith)
corner_places-more (x ∷ []) some = refl
corner_places-more (x ∷ y ∷ ws) some = refl

-- one corner more
pub corner_words-more : (vs : List Vertex) (v : Vertex) (ws : List (List ℕ))
    → corner_words (vs ++ (v ∷ [])) ++ ws ≡ corner_words vs ++ (vertex_words v ++ ws)
corner_words-more [] v ws = refl
corner_words-more (u ∷ vs) v ws = ap (λ rest. signed_decimal u.x ∷ signed_decimal u.y ∷ rest) (corner_words-more vs v ws)

-- ---- The places of other words

more_than_three : (n : ℕ) → nat_lt 3 (suc (suc (suc (suc n)))) ≡ true
more_than_three n = grind (arith, nat_tests)

-- without SPECIAL
pub door_places-short : (ws : List (List ℕ)) → drop 1 (drop 1 (drop 1 ws)) ≡ [] → door_places ws ≡ sector_item ∷ name ∷ name ∷ []
door_places-short [] e = refl
door_places-short (a ∷ []) e = refl
door_places-short (a ∷ b ∷ []) e = refl
door_places-short (a ∷ b ∷ c ∷ []) e = refl
door_places-short (a ∷ b ∷ c ∷ d ∷ ws) e = absurd cc

-- with it
pub door_places-long : (ws : List (List ℕ)) → 0 < length (drop 1 (drop 1 (drop 1 ws))) → door_places ws ≡ sector_item ∷ name ∷ name ∷ flags ∷ []
door_places-long [] some = absurd (omega arith)
door_places-long (a ∷ []) some = absurd (omega arith)
door_places-long (a ∷ b ∷ []) some = absurd (omega arith)
door_places-long (a ∷ b ∷ c ∷ []) some = absurd (omega arith)
door_places-long (a ∷ b ∷ c ∷ d ∷ ws) some = ap (λ t. cond t (sector_item ∷ name ∷ name ∷ flags ∷ []) (sector_item ∷ name ∷ name ∷ [])) (more_than_three (length ws))

-- six words less
pub six_less : (ws : List (List ℕ)) → drop 6 ws ≡ drop 1 (drop 1 (drop 1 (drop 1 (drop 1 (drop 1 ws)))))
six_less [] = refl
six_less (a ∷ []) = refl
six_less (a ∷ b ∷ []) = refl
six_less (a ∷ b ∷ c ∷ []) = refl
six_less (a ∷ b ∷ c ∷ d ∷ []) = refl
six_less (a ∷ b ∷ c ∷ d ∷ e ∷ []) = refl
six_less (a ∷ b ∷ c ∷ d ∷ e ∷ f ∷ ws) = refl

-- two words less
pub shorter : (ws : List (List ℕ)) → 0 < length ws → length (drop 1 (drop 1 ws)) < length ws
shorter [] some = absurd (omega arith)
shorter (a ∷ []) some = omega arith
shorter (a ∷ b ∷ ws) some = omega arith
