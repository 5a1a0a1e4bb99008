-- Rising lists: how long they may be, and that their members determine them.
use Rattle.std.proofs.Common.{◌≡◌, refl, sym, subst, ℕ, zero, suc, ◌<◌, ◌≤◌, ◌⊎◌, inl, inr, List, [], ◌∷◌, length, get_or, arith}
use Rattle.std.specs.Prelude.{All, AllPairs, Contains}
use Rattle.std.proofs.lemmas.List.Elements.{All-get_or}

abbrev pub IsRising : List ℕ → Type 0
IsRising list = AllPairs (λ j k. j < k) list

rising_at : (list : List ℕ) → IsRising list → (i : ℕ) → i < length list → i ≤ get_or list i 0
rising_at list r zero h = omega arith
rising_at list r (suc i) h =
    let before : i ≤ get_or list i 0 = rising_at list r i (omega arith) in
    let more : get_or list i 0 < get_or list (suc i) 0 = r i (suc i) 0 (omega arith) h in
    omega (arith, before, more)

-- there are at most n rising numbers below n
pub rising_short : (list : List ℕ) (n : ℕ) → IsRising list → All (λ j. j < n) list → length list ≤ n
rising_short [] n r a = omega arith
rising_short (x ∷ xs) n r a =
    let last : length xs ≤ get_or (x ∷ xs) (length xs) 0 = rising_at (x ∷ xs) r (length xs) (omega arith) in
    let below : get_or (x ∷ xs) (length xs) 0 < n = All-get_or (λ j. j < n) (x ∷ xs) (length xs) 0 (omega arith) a in
    omega (arith, last, below)

rising_tail : (x : ℕ) (xs : List ℕ) → IsRising (x ∷ xs) → IsRising xs
rising_tail x xs r i j d lt h = r (suc i) (suc j) d (omega arith) (omega arith)

first : (x : ℕ) (xs : List ℕ) → Contains (x ∷ xs) x
first x xs = (0, omega arith, refl)

later : (x : ℕ) (xs : List ℕ) (k : ℕ) → Contains xs k → Contains (x ∷ xs) k
later x xs k c = let h = c.1 in (suc c.0, omega arith, c.2)

above_first : (x : ℕ) (xs : List ℕ) (k : ℕ) → IsRising (x ∷ xs) → Contains xs k → x < k
above_first x xs k r c =
    let h = c.1 in
    subst (λ (m : ℕ). x < m) c.2 (r 0 (suc c.0) k (omega arith) (omega arith))

cases : (x : ℕ) (xs : List ℕ) (k : ℕ) → Contains (x ∷ xs) k → (x ≡ k) ⊎ Contains xs k
cases x xs k c = by c.0 c.1 c.2
  where
    by : (i : ℕ) → i < length (x ∷ xs) → get_or (x ∷ xs) i k ≡ k → (x ≡ k) ⊎ Contains xs k
    by zero h e = inl e
    by (suc i) h e = inr (i, omega arith, e)

empty : (k : ℕ) → Contains [] k → ⊥
empty k c = let h = c.1 in absurd (omega arith)

-- rising lists with the same members are equal
pub rising_one : (a b : List ℕ) → IsRising a → IsRising b → ((k : ℕ) → Contains a k → Contains b k) → ((k : ℕ) → Contains b k → Contains a k) → a ≡ b
rising_one [] [] ra rb to back = refl
rising_one [] (y ∷ ys) ra rb to back = absurd (empty y (back y (first y ys)))
rising_one (x ∷ xs) [] ra rb to back = absurd (empty x (to x (first x xs)))
rising_one (x ∷ xs) (y ∷ ys) ra rb to back =
    heads (same_head (cases y ys x (to x (first x xs))) (cases x xs y (back y (first y ys))))
    (λ t b. rising_one xs ys (rising_tail x xs ra) (rising_tail y ys rb) t b)
  where
    same_head : (y ≡ x) ⊎ Contains ys x → (x ≡ y) ⊎ Contains xs y → x ≡ y
    same_head (inl e) q = sym e
    same_head (inr c) (inl e) = e
    same_head (inr c) (inr d) =
        let p = above_first y ys x rb c in
        let q = above_first x xs y ra d in
        absurd (omega (arith, p, q))

    tail_to : x ≡ y → (k : ℕ) → Contains xs k → Contains ys k
    tail_to e k c = by (cases y ys k (to k (later x xs k c)))
      where
        by : (y ≡ k) ⊎ Contains ys k → Contains ys k
        by (inl f) = let p = above_first x xs k ra c in absurd (omega (arith, p, e, f))
        by (inr d) = d

    tail_back : x ≡ y → (k : ℕ) → Contains ys k → Contains xs k
    tail_back e k c = by (cases x xs k (back k (later y ys k c)))
      where
        by : (x ≡ k) ⊎ Contains xs k → Contains xs k
        by (inl f) = let p = above_first y ys k rb c in absurd (omega (arith, p, e, f))
        by (inr d) = d

    heads : x ≡ y → (((k : ℕ) → Contains xs k → Contains ys k) → ((k : ℕ) → Contains ys k → Contains xs k) → xs ≡ ys) → x ∷ xs ≡ y ∷ ys
    heads e tails =
        let t : xs ≡ ys = tails (tail_to e) (tail_back e) in
        cc
