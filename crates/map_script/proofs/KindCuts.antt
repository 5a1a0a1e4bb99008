-- Kinds of sums: what their parts make.
use Rattle.std.proofs.Common.{◌≡◌, ℕ, zero, suc, ◌+◌, ◌-◌, ◌<◌, List, get_or, take, drop, refl, sym, ◌∙◌, ap, ap₂, arith, Option, Some, None}
use Rattle.map_tables.specs.declared.kind.Kind.{Kind}
use Rattle.map_script.specs.Cuts.{behind_byte, cut_place, inside}
use Rattle.map_script.specs.Kinds.{kept_kind, kind_cut_at, referred_kind, sum_kind}
use Rattle.map_script.specs.Scopes.{Scope}

-- nothing nests less deep than 0
pub no_kind : (scope : Scope) (text : List ℕ) → ◌≡◌ {A = Option Kind} None (sum_kind 0 scope text)
unfolding sum_kind
no_kind scope text = refl

deeper : (d : ℕ) (scope : Scope) (text : List ℕ) → 0 < d
    → sum_kind d scope text ≡ kind_cut_at (λ part. sum_kind (d - 1) scope part) scope text (cut_place text)
unfolding sum_kind
deeper zero scope text below = absurd (omega arith)
deeper (suc d) scope text below =
    let less : d ≡ suc d - 1 = omega arith in
    ap (λ (k : ℕ). kind_cut_at (λ part. sum_kind k scope part) scope text (cut_place text)) less

-- a sum of two parts
pub two_kinds : (d : ℕ) (scope : Scope) (text : List ℕ) (i : ℕ) (x y r : Option Kind) → 0 < d
    → cut_place text ≡ Some i → x ≡ sum_kind (d - 1) scope (take i text) → y ≡ sum_kind (d - 1) scope (drop (i + 1) text)
    → r ≡ kept_kind (get_or text i 0) x y → r ≡ sum_kind d scope text
two_kinds d scope text i x y r below at is-x is-y is =
    is ∙ ap₂ (kept_kind (get_or text i 0)) is-x is-y
    ∙ sym (deeper d scope text below ∙ ap (kind_cut_at (λ part. sum_kind (d - 1) scope part) scope text) at)

-- a sum in parentheses
pub inner_kind : (d : ℕ) (scope : Scope) (text inner : List ℕ) (r : Option Kind) → 0 < d
    → cut_place text ≡ None → inside text ≡ Some inner → r ≡ sum_kind (d - 1) scope inner → r ≡ sum_kind d scope text
inner_kind d scope text inner r below at within is = cc (deeper d scope text below)

-- an operand
pub operand_kind : (d : ℕ) (scope : Scope) (text : List ℕ) (r : Option Kind) → 0 < d
    → cut_place text ≡ None → inside text ≡ None → r ≡ referred_kind scope (behind_byte 36 text) → r ≡ sum_kind d scope text
operand_kind d scope text r below at within is = cc (deeper d scope text below)
