-- Which files a new one may replace.
use Rattle.std.specs.Prelude.{◌≡◌, ◌⊎◌, ◌++◌, ℕ, List, [], Option, None, Some, IfSome, codes}
use Rattle.cli_files.specs.declared.replaceable.Form.{Form}
use Rattle.cli_files.specs.declared.replaceable.Form.TheVariants.{Pwad, Picture}

-- the first bytes of every file of the form
abbrev pub front_of : Form → List ℕ
front_of Pwad = codes "PWAD"
front_of Picture = codes "<svg class=\"leveled\" "

-- no bytes, or the front and any bytes after it
abbrev pub BeginsOrEmpty : List ℕ → List ℕ → Type 0
BeginsOrEmpty front bytes = (bytes ≡ []) ⊎ ((rest : List ℕ) × (bytes ≡ front ++ rest))

-- no bytes, or the front of the form and any bytes after it
abbrev pub IsReplaceable : Form → List ℕ → Type 0
IsReplaceable form bytes = BeginsOrEmpty (front_of form) bytes

-- a file was looked at that may be replaced by one of the form, if one is given: where files tell
-- their bytes, its bytes allow it
abbrev pub WasAllowed : {F : Type 0} → (F → Option (List ℕ)) → Option Form → Type 0
WasAllowed remaining None = Unit {0}
WasAllowed {F = F} remaining (Some form) = (file : F) × IfSome (remaining file) (IsReplaceable form)

-- the same of a file that was taken for one which a killed program left
abbrev pub WasOurs : {F : Type 0} → (F → Option (List ℕ)) → Form → Type 0
WasOurs remaining form = WasAllowed remaining (Some form)
