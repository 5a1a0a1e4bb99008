-- A list exchanged for a part of it, piece by piece.
use Rattle.std.proofs.Common.{◌≡◌, sym, ap, ◌∙◌, subst, ℕ, ◌+◌, ◌<◌, ◌≤◌, List, [], ◌∷◌, ◌++◌, length, length-append, take, get_or, All, Some, None}
use Rattle.std.proofs.lemmas.List.{take_all, append-nil}
use Rattle.std.proofs.lemmas.List.Elements.{All-push}
use Rattle.tree_pieces.specs.declared.edge.Edge.{Edge}
use Rattle.tree_pieces.specs.declared.piece.Piece.{Piece}
use Rattle.tree_choice.specs.declared.exchange.Exchange.{Exchange}
use Rattle.tree_choice.specs.declared.losses.Loss.{Loss}
use Rattle.tree_choice.specs.declared.floors.Floor.{Floor}
use Rattle.tree_choice.specs.declared.floors.Floor.TheVariants.{AtLeast, NoneLeft}
use Rattle.tree_pieces.specs.declared.edge.Facing.{Facing}
use Rattle.std.specs.Prelude.{◌⊎◌}
use Rattle.tree_choice.specs.Exchanges.{IsUnderWay, IsExchangeOf}
use Rattle.tree_choice.specs.Floors.{IsFloor, AreFloors, IsExchanged}
use Rattle.tree_choice.specs.Losses.{IsLoss, wholes, rests}
use Rattle.tree_choice.proofs.Best.{stands_at}
use Rattle.tree_choice.proofs.Exchanged.{both_next, one_gone, one_new}
use Rattle.tree_choice.proofs.Known.{push_known}
use Rattle.tree_choice.proofs.LossLemmas.{wholes_append, rests_append}

-- a list with one more element is one longer
pub longer : {X : Type 0} (xs ys : List X) (x : X) → ys ≡ xs ++ x ∷ [] → length ys ≡ length xs + 1
longer xs ys x e = ap length e ∙ length-append xs (x ∷ [])

-- pieces of one side of a line are the same as partitions
same_floor : (lines : List Edge) (ps : List Piece) (p q : Piece) (f : Floor) → p.line ≡ q.line → p.side ≡ q.side → IsFloor lines ps p f → IsFloor lines ps q f
same_floor lines ps p q f el es k =
    let made : ℕ → Facing → Piece = λ n side. record { line = n; side = side; from = q.from; to = q.to } in
    subst (λ (x : Facing). IsFloor lines ps (made q.line x) f) es (subst (λ (n : ℕ). IsFloor lines ps (made n p.side) f) el (elsewhere f k))
  where
    elsewhere : (g : Floor) → IsFloor lines ps p g → IsFloor lines ps (record { line = p.line; side = p.side; from = q.from; to = q.to }) g
    elsewhere (AtLeast n) h = h
    elsewhere NoneLeft h = h

module _ (lines : List Edge) (ps : List Piece) (floors : List Floor) (part : List Piece) (n : ℕ) (x y : Exchange) (d e : Piece) (h : n < length ps) (u : IsUnderWay lines ps floors part n x) where
  -- the piece is the next one of the part
  pub taken_same : (f : Floor) (m : ℕ) → m ≡ length x.floors.items → m < length part
      → get_or ps n d ≡ get_or part m e → y.floors.items ≡ x.floors.items ++ f ∷ []
      → y.losses.items ≡ x.losses.items
      → (AreFloors lines ps ps floors → IsFloor lines ps (get_or ps n d) f) → IsUnderWay lines ps floors part (n + 1) y
  taken_same f m em there alike ef el is =
      let k = subst (λ i. i < length part) em there in
      let same = subst (λ i. get_or ps n d ≡ get_or part i e) em alike in
      record {
        exchanged =
            subst (λ (l : List Loss). IsExchanged (take (n + 1) ps) (take (length y.floors.items) part) (wholes l) (rests l)) (sym el)
            (subst (λ (i : ℕ). IsExchanged (take (n + 1) ps) (take i part) (wholes x.losses.items) (rests x.losses.items))
            (sym (longer x.floors.items y.floors.items f ef))
            (both_next ps part (wholes x.losses.items) (rests x.losses.items) n (length x.floors.items) d e h k same u.exchanged));
        known = λ a. subst (AreFloors lines ps part) (sym ef)
            (push_known lines ps part x.floors.items (get_or part (length x.floors.items) e) f (u.known a)
            (stands_at part (length x.floors.items) e k) (subst (λ (q : Piece). IsFloor lines ps q f) same (is a)));
        each = λ a b. subst (All (IsLoss lines)) (sym el) (u.each a b);
      }

  -- the piece is lost, and what is left of it is the next one of the part
  pub taken_cut : (m : ℕ) → m ≡ length x.floors.items → m < length part
      → (f : Floor) → y.floors.items ≡ x.floors.items ++ f ∷ []
      → y.losses.items ≡ x.losses.items ++ record { piece = get_or ps n d; rest = Some (get_or part m e) } ∷ []
      → (get_or ps n d).line ≡ (get_or part m e).line → (get_or ps n d).side ≡ (get_or part m e).side
      → ((get_or ps n d).from ≡ (get_or part m e).from) ⊎ ((get_or ps n d).to ≡ (get_or part m e).to)
      → (AreFloors lines ps ps floors → IsFloor lines ps (get_or ps n d) f)
      → IsUnderWay lines ps floors part (n + 1) y
  taken_cut m em there f ef gain line side ends is =
      let k = subst (λ i. i < length part) em there in
      let xs = x.losses.items in
      let at : ℕ → Loss = λ i. record { piece = get_or ps n d; rest = Some (get_or part i e) } in
      let eg = subst (λ i. y.losses.items ≡ xs ++ at i ∷ []) em gain in
      let z = length x.floors.items in
      let el = subst (λ i. (get_or ps n d).line ≡ (get_or part i e).line) em line in
      let es = subst (λ i. (get_or ps n d).side ≡ (get_or part i e).side) em side in
      let ee = subst (λ i. ((get_or ps n d).from ≡ (get_or part i e).from) ⊎ ((get_or ps n d).to ≡ (get_or part i e).to)) em ends in
      record {
        exchanged =
            subst (λ (l : List Loss). IsExchanged (take (n + 1) ps) (take (length y.floors.items) part) (wholes l) (rests l)) (sym eg)
            (subst (λ (i : ℕ). IsExchanged (take (n + 1) ps) (take i part) (wholes (xs ++ at z ∷ [])) (rests (xs ++ at z ∷ [])))
            (sym (longer x.floors.items y.floors.items f ef))
            (subst (λ (g : List Piece). IsExchanged (take (n + 1) ps) (take (z + 1) part) g (rests (xs ++ at z ∷ []))) (sym (wholes_append xs (at z ∷ [])))
            (subst (λ (g : List Piece). IsExchanged (take (n + 1) ps) (take (z + 1) part) (wholes xs ++ get_or ps n d ∷ []) g) (sym (rests_append xs (at z ∷ [])))
            (one_new (take (n + 1) ps) part (wholes xs ++ get_or ps n d ∷ []) (rests xs) z e k
            (one_gone ps part (wholes xs) (rests xs) n z d h u.exchanged)))));
        known = λ a. subst (AreFloors lines ps part) (sym ef)
            (push_known lines ps part x.floors.items (get_or part z e) f (u.known a)
            (stands_at part z e k) (same_floor lines ps (get_or ps n d) (get_or part z e) f el es (is a)));
        each = λ a b. subst (All (IsLoss lines)) (sym eg)
            (All-push (IsLoss lines) xs (at z) (u.each a b) (record { piece = a n d h; rest = record { piece = b z e k; line = el; side = es; ends = ee } }));
      }

  -- the piece is lost whole
  pub taken_gone : y.floors.items ≡ x.floors.items → y.losses.items ≡ x.losses.items ++ record { piece = get_or ps n d; rest = None } ∷ []
      → IsUnderWay lines ps floors part (n + 1) y
  taken_gone ef el =
      let xs = x.losses.items in
      let one : Loss = record { piece = get_or ps n d; rest = None } in
      record {
        exchanged =
            subst (λ (l : List Loss). IsExchanged (take (n + 1) ps) (take (length y.floors.items) part) (wholes l) (rests l)) (sym el)
            (subst (λ (fs : List Floor). IsExchanged (take (n + 1) ps) (take (length fs) part) (wholes (xs ++ one ∷ [])) (rests (xs ++ one ∷ []))) (sym ef)
            (subst (λ (g : List Piece). IsExchanged (take (n + 1) ps) (take (length x.floors.items) part) g (rests (xs ++ one ∷ []))) (sym (wholes_append xs (one ∷ [])))
            (subst (λ (g : List Piece). IsExchanged (take (n + 1) ps) (take (length x.floors.items) part) (wholes xs ++ get_or ps n d ∷ []) g) (sym (rests_append xs (one ∷ []) ∙ append-nil (rests xs)))
            (one_gone ps part (wholes xs) (rests xs) n (length x.floors.items) d h u.exchanged))));
        known = λ a. subst (AreFloors lines ps part) (sym ef) (u.known a);
        each = λ a b. subst (All (IsLoss lines)) (sym el) (All-push (IsLoss lines) xs one (u.each a b) (record { piece = a n d h; rest = tt }));
      }

-- all pieces of the list are taken, and all of the part have a floor
pub taken_all : (ps : List Piece) (floors : List Floor) (part : List Piece) (n : ℕ) (x : Exchange) → length ps ≤ n
    → length part ≤ length x.floors.items → length x.losses.items ≤ 256
    → ((lines : List Edge) → IsUnderWay lines ps floors part n x) → IsExchangeOf ps floors part x
taken_all ps floors part n x all both few u = record {
  exchanged =
      subst (λ (qs : List Piece). IsExchanged qs part (wholes x.losses.items) (rests x.losses.items)) (take_all n ps all)
      (subst (λ (qs : List Piece). IsExchanged (take n ps) qs (wholes x.losses.items) (rests x.losses.items)) (take_all (length x.floors.items) part both)
      (u []).exchanged);
  known = λ lines. (u lines).known;
  each = λ lines. (u lines).each;
  few = few;
}
