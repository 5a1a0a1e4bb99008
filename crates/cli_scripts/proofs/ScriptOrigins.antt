-- What is written of where the items of a script's maps come from.
use Rattle.std.proofs.Common.{◌≡◌, ℕ, ◌≤◌, List, [], Option, Some, length, get_or, ap, ap₂}
use Rattle.std.specs.Prelude.{option_map, slice_get, unwrap_or}
use Rattle.std.proofs.lemmas.Option.{get_or_from_slice_get, slice_get_past}
use Rattle.cli_scripts.specs.ScriptOrigins.{line_origin, origin_text}

-- there is no line at the place
pub none_at : (lines : List (ℕ × List ℕ)) (files : List (List ℕ)) (place : ℕ) → length lines ≤ place → origin_text lines files (Some place) ≡ []
none_at lines files place past =
    ap (λ (o : Option (ℕ × List ℕ)). unwrap_or (option_map (line_origin (get_or files place [])) o) []) (slice_get_past lines place past)

-- there is one, in this file
pub line_at : (lines : List (ℕ × List ℕ)) (files : List (List ℕ)) (place : ℕ) (line : ℕ × List ℕ) (file : List ℕ) → slice_get lines place ≡ Some line → slice_get files place ≡ Some file
    → origin_text lines files (Some place) ≡ line_origin file line
line_at lines files place line file is in_file =
    ap₂ (λ (o : Option (ℕ × List ℕ)) (f : List ℕ). unwrap_or (option_map (line_origin f) o) []) is (get_or_from_slice_get files place file [] in_file)
