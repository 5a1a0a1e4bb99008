-- A line is its words with a space between each two.
use Rattle.std.proofs.Common.{◌≡◌, ℕ, Bool, true, false, cond, List, [], ◌∷◌, refl, sym, ◌∙◌, ap, arith, nat_eq, length, ◌<◌}
use Rattle.std.specs.List.{join_with_byte}
use Rattle.std.proofs.lemmas.Bool.{eqb-true}
use Rattle.map_words.specs.Words.{parts, onto_first}
use Rattle.map_words.proofs.LineParts.{parts-some}

join-onto : (b : ℕ) (ws : List (List ℕ)) → join_with_byte 32 (onto_first b ws) ≡ b ∷ join_with_byte 32 ws
join-onto b [] = refl
join-onto b (w ∷ []) = refl
join-onto b (w ∷ v ∷ ws) = refl

join-first : (b : ℕ) (ws : List (List ℕ)) → b ≡ 32 → 0 < length ws → join_with_byte 32 ([] ∷ ws) ≡ b ∷ join_with_byte 32 ws
join-first b [] e h = absurd (omega arith)
join-first b (w ∷ ws) e h = ap (λ x. x ∷ join_with_byte 32 (w ∷ ws)) (sym e)

join-if : (b : ℕ) (bs : List ℕ) (t : Bool) → nat_eq b 32 ≡ t → join_with_byte 32 (parts bs) ≡ bs → join_with_byte 32 (cond t ([] ∷ parts bs) (onto_first b (parts bs))) ≡ b ∷ bs
join-if b bs true s e =
    join-first b (parts bs) (eqb-true b 32 s) (parts-some bs) ∙ ap (λ xs. b ∷ xs) e
join-if b bs false s e = join-onto b (parts bs) ∙ ap (λ xs. b ∷ xs) e

pub join-parts : (line : List ℕ) → join_with_byte 32 (parts line) ≡ line
join-parts [] = refl
join-parts (b ∷ bs) = join-if b bs (nat_eq b 32) refl (join-parts bs)
