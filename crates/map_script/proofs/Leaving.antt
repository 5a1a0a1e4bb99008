-- The names of a shape, when its drawing begins and when it ends.
use Rattle.std.proofs.Common.{◌≡◌, ℕ, ◌<◌, ◌≤◌, Bool, cond, List, ◌∷◌, length, ap, sym, ◌∙◌, Option}
use Rattle.std.proofs.lemmas.Bool.{le-ltb, lt-ltb}
use Rattle.map_script.specs.Layers.{Layer}
use Rattle.map_script.specs.Scopes.{Scope, left, with_layers}
use Rattle.map_script.specs.declared.placing.Placing.{Placing}
use Rattle.map_script.specs.declared.referent.Answer.{Answer}

-- names by their layers
pub scope_at : (p : Placing) (w : Bool) (a : Option Answer) {l k : Layer} {ls ks : List Layer} → l ≡ k → ls ≡ ks
    → ◌≡◌ {A = Scope} (record { names = l.names; held = l.held; outer = ls; placing = p; is_within = w; answered = a })
    (record { names = k.names; held = k.held; outer = ks; placing = p; is_within = w; answered = a })
scope_at p w a is same = λ i. record { names = (is i).names; held = (is i).held; outer = same i; placing = p; is_within = w; answered = a }

-- no more shapes are being drawn
pub not-left : (s : Scope) (shapes : ℕ) → length s.outer ≤ shapes → s ≡ left s shapes
not-left s shapes few = ap (λ t. cond t (with_layers s s.outer) s) (sym (le-ltb shapes (length s.outer) few))

-- the innermost shape is left
pub outside_of : (s : Scope) (shapes : ℕ) (l : Layer) (ls : List Layer) → shapes < length s.outer → s.outer ≡ l ∷ ls
    → ◌≡◌ {A = Scope} (record { names = l.names; held = l.held; outer = ls; placing = s.placing; is_within = s.is_within; answered = s.answered }) (left s shapes)
outside_of s shapes l ls more is =
    ap (with_layers s) (sym is) ∙ ap (λ t. cond t (with_layers s s.outer) s) (sym (lt-ltb shapes (length s.outer) more))
