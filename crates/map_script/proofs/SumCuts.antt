-- Sums: where they are cut, and what their parts make.
use Rattle.std.proofs.Common.{◌≡◌, ℕ, zero, suc, ◌+◌, ◌-◌, ◌<◌, Bool, true, false, cond, not, ◌&&◌, ◌||◌, ◌==◌, List, length, get_or, take, drop, refl, sym, ◌∙◌, ap, ap₂, arith, add-one, Option, Some, None, Result, Err}
use Rattle.std.specs.Prelude.{IfSome, ℤ}
use Rattle.std.specs.List.{count_by}
use Rattle.std.proofs.lemmas.List.Sums.{count_by_more_no, count_by_more_yes}
use Rattle.map_tables.specs.Tables.{Tables}
use Rattle.map_script.proofs.Leasts.{ltb_yes}
use Rattle.map_tables.specs.declared.kind.Kind.{Kind}
use Rattle.map_script.specs.Meant.{meant_by}
use Rattle.map_script.specs.Scopes.{Scope, visible}
use Rattle.map_script.specs.Names.{number_for}
use Rattle.map_script.specs.Cuts.{behind_byte, cut_place, cuts, has_operand, inside, is_sign, last_cut}
use Rattle.map_script.specs.Reckoned.{item_of_place, negated, number_in_text, reckoned_of}
use Rattle.map_script.specs.Sums.{number_value, operand_value, place_of_sums, place_value, reference_value, referred_value, sum_value, value_cut_at}
use Rattle.map_script.specs.declared.error.DrawError.{DrawError}
use Rattle.map_script.specs.declared.error.DrawError.TheVariants.{TooDeep}

-- ---- Where a sum is cut

-- one more byte: the cut at it, or the one before
pub cut_after : (one other : ℕ) (text : List ℕ) (i o c : ℕ) (found new : Option ℕ) (operand here : Bool) → found ≡ last_cut one other text i
    → operand ≡ has_operand text i → o ≡ count_by (λ b. b == 40) (take i text) → c ≡ count_by (λ b. b == 41) (take i text)
    → here ≡ ((get_or text i 0 == one) || (get_or text i 0 == other)) && (operand && (o == c)) → new ≡ cond here (Some i) found
    → new ≡ last_cut one other text (i + 1)
cut_after one other text i o c found new operand here is-found is-operand is-o is-c is-here is-new = rw add-one (cc)

-- what stands in front of the next byte
pub operand_after : (text : List ℕ) (i : ℕ) (r : Bool) → r ≡ is_sign (get_or text i 0) → not r ≡ has_operand text (i + 1)
operand_after text i r h =
    let at : i ≡ (i + 1) - 1 = omega arith in
    ap not h ∙ ap₂ (λ (t : Bool) (k : ℕ). t && not (is_sign (get_or text k 0))) (sym (ltb_yes 0 (i + 1) (omega arith))) at

count-by : (p : ℕ → Bool) (xs : List ℕ) (i : ℕ) (t : Bool) → p (get_or xs i 0) ≡ t → i < length xs → count_by p (take (i + 1) xs) ≡ count_by p (take i xs) + cond t 1 0
count-by p xs i true passes below = count_by_more_yes p xs i 0 below passes
count-by p xs i false fails below = count_by_more_no p xs i 0 below fails ∙ omega arith

-- one more byte is counted
pub count_after : (p : ℕ → Bool) (xs : List ℕ) (i n : ℕ) → i < length xs → n ≡ count_by p (take i xs) + cond (p (get_or xs i 0)) 1 0 → n ≡ count_by p (take (i + 1) xs)
count_after p xs i n below e = e ∙ sym (count-by p xs i (p (get_or xs i 0)) refl below)

below-by : (t : Bool) (n i : ℕ) (rest : Option ℕ) → (rest ≡ Some i → i < n) → cond t (Some n) rest ≡ Some i → i < suc n
below-by true n i rest h e = let same : n ≡ i = cc in omega (arith, same)
below-by false n i rest h e = omega (arith, h e)

cut-below : (one other : ℕ) (text : List ℕ) (n i : ℕ) → last_cut one other text n ≡ Some i → i < n
cut-below one other text zero i e = cc
cut-below one other text (suc n) i e = below-by (cuts one other text n) n i (last_cut one other text n) (cut-below one other text n i) e

-- a cut is in front of the end
pub cut_within : (one other : ℕ) (text : List ℕ) (n : ℕ) (r : Option ℕ) → r ≡ last_cut one other text n → IfSome r (λ i. i < n)
cut_within one other text n None e = tt
cut_within one other text n (Some i) e = cut-below one other text n i (sym e)

-- ---- Parts

-- no number nests less deep than 0
pub none_deep : (scope : Scope) (m : Tables) (text : List ℕ) → ◌≡◌ {A = Result ℤ DrawError} (Err TooDeep) (sum_value 0 scope m text)
unfolding sum_value
none_deep scope m text = refl

deeper : (d : ℕ) (scope : Scope) (m : Tables) (text : List ℕ) → 0 < d
    → sum_value d scope m text ≡ value_cut_at (λ part. sum_value (d - 1) scope m part) scope m text (cut_place text)
unfolding sum_value
deeper zero scope m text below = absurd (omega arith)
deeper (suc d) scope m text below =
    let less : d ≡ suc d - 1 = omega arith in
    ap (λ (k : ℕ). value_cut_at (λ part. sum_value k scope m part) scope m text (cut_place text)) less

-- a sum of two parts
pub two_parts : (d : ℕ) (scope : Scope) (m : Tables) (text : List ℕ) (i : ℕ) (x y r : Result ℤ DrawError) → 0 < d
    → cut_place text ≡ Some i → x ≡ sum_value (d - 1) scope m (take i text) → y ≡ sum_value (d - 1) scope m (drop (i + 1) text)
    → r ≡ reckoned_of (get_or text i 0) x y → r ≡ sum_value d scope m text
two_parts d scope m text i x y r below at is-x is-y is =
    is ∙ ap₂ (reckoned_of (get_or text i 0)) is-x is-y
    ∙ sym (deeper d scope m text below ∙ ap (value_cut_at (λ part. sum_value (d - 1) scope m part) scope m text) at)

-- a sum in parentheses
pub one_part : (d : ℕ) (scope : Scope) (m : Tables) (text inner : List ℕ) (r : Result ℤ DrawError) → 0 < d
    → cut_place text ≡ None → inside text ≡ Some inner → r ≡ sum_value (d - 1) scope m inner → r ≡ sum_value d scope m text
one_part d scope m text inner r below at within is = cc (deeper d scope m text below)

-- an operand
pub operand_alone : (d : ℕ) (scope : Scope) (m : Tables) (text : List ℕ) (r : Result ℤ DrawError) → 0 < d
    → cut_place text ≡ None → inside text ≡ None → r ≡ operand_value (λ part. sum_value (d - 1) scope m part) scope m text
    → r ≡ sum_value d scope m text
operand_alone d scope m text r below at within is = cc (deeper d scope m text below)

-- ---- Operands

-- an item at a place
pub at_place : (part : List ℕ → Result ℤ DrawError) (scope : Scope) (m : Tables) (text bs : List ℕ) (k : Kind) (x y : List ℕ)
    (r : Result ℤ DrawError) → behind_byte 36 text ≡ Some bs → place_of_sums (number_for scope m bs) bs ≡ Some (k, x, y)
    → r ≡ item_of_place scope.placing m k (part x) (part y) → r ≡ operand_value part scope m text
at_place part scope m text bs k x y r begun at is =
    is
    ∙ sym (ap (referred_value part scope m text) begun
    ∙ ap (λ (p : Option (Kind × List ℕ × List ℕ)). place_value part scope.placing m p (reference_value (meant_by (visible scope) bs) (number_for scope m bs))) at)

-- another reference
pub by_reference : (part : List ℕ → Result ℤ DrawError) (scope : Scope) (m : Tables) (text bs : List ℕ) (r : Result ℤ DrawError)
    → behind_byte 36 text ≡ Some bs → place_of_sums (number_for scope m bs) bs ≡ None
    → r ≡ reference_value (meant_by (visible scope) bs) (number_for scope m bs) → r ≡ operand_value part scope m text
by_reference part scope m text bs r begun none is =
    is
    ∙ sym (ap (referred_value part scope m text) begun
    ∙ ap (λ (p : Option (Kind × List ℕ × List ℕ)). place_value part scope.placing m p (reference_value (meant_by (visible scope) bs) (number_for scope m bs))) none)

-- an operand with a `-` in front
pub with_minus : (part : List ℕ → Result ℤ DrawError) (scope : Scope) (m : Tables) (text bs : List ℕ) (r : Result ℤ DrawError)
    → behind_byte 36 text ≡ None → behind_byte 45 text ≡ Some bs → r ≡ negated (part bs) → r ≡ operand_value part scope m text
with_minus part scope m text bs r none begun is =
    is ∙ sym (ap (referred_value part scope m text) none ∙ ap (number_value part text) begun)

-- a number
pub alone : (part : List ℕ → Result ℤ DrawError) (scope : Scope) (m : Tables) (text : List ℕ) (r : Result ℤ DrawError)
    → behind_byte 36 text ≡ None → behind_byte 45 text ≡ None → r ≡ number_in_text text → r ≡ operand_value part scope m text
alone part scope m text r none no_minus is =
    is ∙ sym (ap (referred_value part scope m text) none ∙ ap (number_value part text) no_minus)
