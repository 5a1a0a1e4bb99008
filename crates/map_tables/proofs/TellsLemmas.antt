-- What a test of an edit returns, if it begins with another test.
use Rattle.std.proofs.Common.{◌≡◌, ℕ, Bool, true, false, List, [], ◌∷◌, ◌++◌, refl, sym, ◌∙◌, ap}
use Rattle.std.specs.Prelude.{Result, Ok, Err, Some, None}
use Rattle.std.specs.Result.{IsErrAnd}
use Rattle.map_tables.specs.declared.error.MapError.{MapError}
use Rattle.map_tables.specs.Errors.{code_of}
use Rattle.map_tables.specs.Outcomes.{least, Tells}

-- a fault of the first test comes before those after it
pub told_before : (faults more : List (ℕ × Bool)) (code : ℕ) → least faults ≡ Some code → least (faults ++ more) ≡ Some code
told_before [] more code is = absurd (cc)
told_before ((first, true) ∷ faults) more code is = is
told_before ((first, false) ∷ faults) more code is = told_before faults more code is

-- if the first test finds none, the rest decides
pub told_behind : (faults more : List (ℕ × Bool)) → least faults ≡ None → least (faults ++ more) ≡ least more
told_behind [] more none = refl
told_behind ((first, true) ∷ faults) more none = absurd (cc)
told_behind ((first, false) ∷ faults) more none = told_behind faults more none

-- a test that passes a refusal on returns it
pub passed_on : {X : Type 0} (faults : List (ℕ × Bool)) (r : Result X MapError) (e : MapError) → IsErrAnd r (λ x. x ≡ e) → least faults ≡ Some (code_of e) → Tells r faults
passed_on faults (Ok x) e is told = absurd is
passed_on faults (Err x) e is told = told ∙ ap (λ (y : MapError). Some (code_of y)) (sym is)

-- a last fault whose test holds, and one whose test doesn't

pub told_last : (code : ℕ) (fault : Bool) → fault ≡ true → least ((code, fault) ∷ []) ≡ Some code
told_last code true is = refl
told_last code false is = absurd (cc)

pub none_last : (code : ℕ) (fault : Bool) → fault ≡ false → least ((code, fault) ∷ []) ≡ None
none_last code true is = absurd (cc)
none_last code false is = refl
