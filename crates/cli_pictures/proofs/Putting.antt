-- What a file that is put in its place was made of.
use Rattle.std.proofs.Common.{◌≡◌, ℕ, List, Option, Result, Ok, Err, subst}
use Rattle.std.specs.Prelude.{IfOk}
use Rattle.std.specs.Io.KnownBytes.{Appends}
use Rattle.cli_files.specs.NewFile.{IsMadeOf}

-- a file into which these bytes were written behind what a new one had was made of them
pub made_of : {F E : Type 0} (contents : F → Option (List ℕ)) (new : F) (r : Result F E) (a b : List ℕ) → a ≡ b
    → IfOk r (λ file. Appends (contents new) (contents file) a) → IfOk r (λ file. IsMadeOf contents file b)
made_of contents new (Ok file) a b same put = (new, subst (Appends (contents new) (contents file)) same put)
made_of contents new (Err e) a b same put = tt
