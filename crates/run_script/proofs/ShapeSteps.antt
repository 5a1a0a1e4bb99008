-- The commands of a shape, done in turn.
use Rattle.std.proofs.Common.{◌≡◌, ℕ, ◌+◌, ◌<◌, List, [], ◌∷◌, ◌++◌, length, take, drop, get_or, map, refl, sym, ◌∙◌, ap, subst, Ok}
use Rattle.std.proofs.lemmas.List.{at_drop_more, map-append, take_more, take-append-drop}
use Rattle.run_script.specs.Shaped.{DoesAll}
use Rattle.run_canvas.specs.declared.canvas.Canvas.{Ghosts}

DoesAll-more : {S : Type 0} (facts : Ghosts S) (lines : List (List ℕ)) (line : List ℕ) (old mid new : S) (n : ℕ)
    → DoesAll facts lines old mid → facts.changes mid line (Ok n) new → DoesAll facts (lines ++ line ∷ []) old new
DoesAll-more {S} facts [] line old mid new n same done = (new, (n, subst (λ (s : S). facts.changes s line (Ok n) new) same done), refl)
DoesAll-more facts (first ∷ lines) line old mid new n (next, done, rest) last = (next, done, DoesAll-more facts lines line next mid new n rest last)

module _ {V : Type 0} (text : V → List ℕ) where
  -- one command more was done
  pub does_more : {S : Type 0} (facts : Ghosts S) (vs : List V) (i : ℕ) (d : V) (old mid new : S) (n : ℕ) → i < length vs
      → DoesAll facts (map text (take i vs)) old mid → facts.changes mid (text (get_or vs i d)) (Ok n) new → DoesAll facts (map text (take (i + 1) vs)) old new
  does_more facts vs i d old mid new n below all done =
      subst (λ (lines : List (List ℕ)). DoesAll facts lines old new)
      (sym (ap (λ (xs : List V). map text xs) (take_more vs i d below) ∙ map-append text (take i vs) (get_or vs i d ∷ [])))
      (DoesAll-more facts (map text (take i vs)) (text (get_or vs i d)) old mid new n all done)

  -- a list is what stands in front of an item, the item, and what stands behind it
  pub parted_at : (vs : List V) (i : ℕ) (d : V) → i < length vs → map text vs ≡ map text (take i vs) ++ text (get_or vs i d) ∷ map text (drop (i + 1) vs)
  parted_at vs i d below =
      ap (λ (xs : List V). map text xs) (sym (take-append-drop i vs)) ∙ map-append text (take i vs) (drop i vs)
      ∙ ap (λ (ys : List (List ℕ)). map text (take i vs) ++ ys) (at_drop_more (λ (xs : List V). map text xs) vs i d below)
