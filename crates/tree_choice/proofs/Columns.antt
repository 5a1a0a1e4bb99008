-- A column of a list: what is noted of each of its elements.
use Rattle.std.proofs.Common.{◌≡◌, refl, ap, ◌∙◌, ℕ, zero, suc, ◌<◌, List, [], ◌∷◌, length, take, drop, get_or, arith}
use Rattle.std.proofs.lemmas.List.{take-map, drop-map, length-map}
use Rattle.std.specs.Prelude.{map}

module _ {X Y : Type 0} (f : X → Y) where
  pub column_at : (ps : List X) (n : ℕ) (d : Y) (e : X) → n < length ps → get_or (map f ps) n d ≡ f (get_or ps n e)
  column_at [] n d e h = absurd (omega arith)
  column_at (p ∷ ps) zero d e h = refl
  column_at (p ∷ ps) (suc n) d e h = column_at ps n d e (omega arith)

  pub column_length : (ps : List X) (xs : List Y) → xs ≡ map f ps → length xs ≡ length ps
  column_length ps xs e = ap length e ∙ length-map ps f

  -- what is noted of a part of a list is that part of its column
  pub part_column : (ps : List X) (xs : List Y) (n j : ℕ) → xs ≡ map f ps → take n (drop j xs) ≡ map f (take n (drop j ps))
  part_column ps xs n j e = ap (λ (ys : List Y). take n (drop j ys)) e ∙ ap (take n) (drop-map f j ps) ∙ take-map f n (drop j ps)

  -- what is read of a column
  pub read : (ps : List X) (xs : List Y) (n : ℕ) (d : Y) (e : X) → n < length ps → xs ≡ map f ps → get_or xs n d ≡ f (get_or ps n e)
  read ps xs n d e h is = ap (λ (ys : List Y). get_or ys n d) is ∙ column_at ps n d e h
