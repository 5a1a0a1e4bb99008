-- Texts that are made line by line, and where items come from behind them.
use Rattle.std.proofs.Common.{◌≡◌, ◌∙◌, ◌+◌, ◌<◌, ℕ, List, [], ◌∷◌, ◌++◌, Option, Some, None, Result, Ok, Err, IfOk}
use Rattle.std.proofs.Common.{length, get_or, map, take, refl, sym, ap, subst, append_assoc, append-nil}
use Rattle.std.specs.Prelude.{flat_map}
use Rattle.std.specs.Io.KnownBytes.{Appends}
use Rattle.std.proofs.lemmas.List.{flat_map_more, take_more}
use Rattle.lump_records.specs.Names.{name_text}
use Rattle.map_tables.specs.Tables.{Tables}
use Rattle.map_tables.specs.declared.kind.Kind.{Kind}
use Rattle.map_checks.specs.Findings.{findings}
use Rattle.map_checks.specs.Texts.{finding_text}
use Rattle.map_checks.specs.declared.finding.Finding.{Finding}
use Rattle.map_checks.specs.declared.finding.Finding.TheVariants.{VertexUnused, SideUnused, SectorUnused, TextureMissing, SectorOpen, NoPlayerStart}
use Rattle.map_lint.specs.Texts.{warning_text}
use Rattle.map_lint.specs.declared.warning.Warning.{Warning}
use Rattle.map_dump.specs.Texts.{with_lf}
use Rattle.run_edit.specs.Texts.{findings_text, total_text}
use Rattle.cli_print.specs.Checking.{checked_text}
use Rattle.cli_print.specs.Choosing.{LintWants, chosen_findings}
use Rattle.cli_print.specs.Linting.{behind, remarks, wanted_warnings}
use Rattle.cli_print.specs.Origins.{finding_told, item_of_kind, items_of_finding, items_of_warning, kind_of_rule, no_origin, origins_text, warning_told}
use Rattle.cli_print.specs.declared.items.Item.{Item}

-- ---- Lines

-- a remark's text behind what stands in front, and the origins of its items
abbrev pub told_line : {X : Type 0} → (List ℕ → Kind → ℕ → List ℕ) → List ℕ → List ℕ → (X → List ℕ) → (X → List Item) → X → List ℕ
told_line origin name front text items x = with_lf (front ++ (text x ++ origins_text origin name (items x)))

-- the lines of the first remarks, and that of one more
pub line_put : {X : Type 0} (origin : List ℕ → Kind → ℕ → List ℕ) (name front : List ℕ) (text : X → List ℕ) (items : X → List Item) (before : List ℕ) (xs : List X) (i : ℕ) (d : X)
    (about : List Item) (a b : List ℕ) → i < length xs → about ≡ items (get_or xs i d) → a ≡ before ++ flat_map (told_line origin name front text items) (take i xs)
    → b ≡ a ++ with_lf (front ++ (text (get_or xs i d) ++ origins_text origin name about)) → b ≡ before ++ flat_map (told_line origin name front text items) (take (i + 1) xs)
line_put origin name front text items before xs i d about a b within is so_far put =
    let x = get_or xs i d in
    let line = told_line origin name front text items in
    put ∙ (λ k. so_far k ++ with_lf (front ++ (text x ++ origins_text origin name (is k)))) ∙ flat_map_more line before (take i xs) x
    ∙ ap (λ ys. before ++ flat_map line ys) (sym (take_more xs i d within))

-- a line of its parts
pub line_joined : (before front said from a b c d : List ℕ) → a ≡ before ++ front → b ≡ a ++ said → c ≡ b ++ from → d ≡ c ++ 10 ∷ [] → d ≡ before ++ with_lf (front ++ (said ++ from))
line_joined before front said from a b c d first second third last =
    let parts : c ≡ before ++ (front ++ (said ++ from)) =
    third ∙ ap (λ t. t ++ from) (second ∙ ap (λ t. t ++ said) first) ∙ append_assoc (before ++ front) said from ∙ append_assoc before front (said ++ from) in
    last ∙ ap (λ t. t ++ 10 ∷ []) parts ∙ append_assoc before (front ++ (said ++ from)) (10 ∷ [])

-- the same, if the call that ends the line didn't fail
pub line_ended : {U E : Type 0} (how : Result U E) (before front said from a b c d : List ℕ) → a ≡ before ++ front → b ≡ a ++ said → c ≡ b ++ from → IfOk how (λ _. d ≡ c ++ 10 ∷ [])
    → IfOk how (λ _. d ≡ before ++ with_lf (front ++ (said ++ from)))
line_ended (Ok u) before front said from a b c d first second third last = line_joined before front said from a b c d first second third last
line_ended (Err e) before front said from a b c d first second third last = tt

-- ---- What `check` writes

-- lines made of the findings were written, and then a number
pub checked_told : (origin : List ℕ → Kind → ℕ → List ℕ) (m : Tables) (name : List ℕ) (found : List Finding) (new text bytes : List ℕ) (count : ℕ) (u w : Option (List ℕ))
    → name ≡ name_text m.name → found ≡ findings m → count ≡ length found → new ≡ [] → text ≡ new ++ flat_map (λ f. with_lf (finding_told origin name f)) found → bytes ≡ text
    → Appends u w (bytes ++ total_text count) → Appends u w (checked_text origin m)
checked_told origin m name found new text bytes count u w named is number empty made same told =
    let all : bytes ≡ flat_map (λ f. with_lf (finding_told origin (name_text m.name) f)) (findings m) =
    same ∙ made ∙ (λ i. empty i ++ flat_map (λ f. with_lf (finding_told origin (named i) f)) (is i)) in
    let sum : count ≡ length (findings m) = number ∙ ap length is in
    subst (λ (t : List ℕ). Appends u w t) (λ i. all i ++ total_text (sum i)) told

-- ---- Where nothing is known

untold_finding : (name : List ℕ) (f : Finding) → origins_text no_origin name (items_of_finding f) ≡ []
untold_finding name (VertexUnused n) = refl
untold_finding name (SideUnused n) = refl
untold_finding name (SectorUnused n) = refl
untold_finding name (TextureMissing line left texture) = refl
untold_finding name (SectorOpen sector vertex) = refl
untold_finding name NoPlayerStart = refl

untold_item : (name : List ℕ) (of : Option Kind) (n : ℕ) → origins_text no_origin name (item_of_kind of n) ≡ []
untold_item name None n = refl
untold_item name (Some of) n = refl

-- a finding is its text
pub finding_told-none : (name : List ℕ) (f : Finding) → finding_told no_origin name f ≡ finding_text f
finding_told-none name f = ap (λ t. finding_text f ++ t) (untold_finding name f) ∙ append-nil (finding_text f)

-- a warning is its text
pub warning_told-none : (name : List ℕ) (w : Warning) → warning_told no_origin name w ≡ warning_text w
warning_told-none name w = ap (λ t. warning_text w ++ t) (untold_item name (kind_of_rule w.rule) w.number) ∙ append-nil (warning_text w)

-- `check` writes the findings alone
pub checked_text-none : (m : Tables) → checked_text no_origin m ≡ findings_text (findings m)
checked_text-none m = λ i. flat_map (λ f. with_lf (finding_told-none (name_text m.name) f i)) (findings m) ++ total_text (length (findings m))

-- `lint` writes the findings and warnings alone
pub remarks-none : (wants : LintWants) (m : Tables)
    → remarks no_origin wants m ≡ map (behind (name_text m.name)) (map finding_text (chosen_findings wants.words (findings m)) ++ map warning_text (wanted_warnings wants m))
remarks-none wants m = λ i.
    map (behind (name_text m.name))
    (map (λ f. finding_told-none (name_text m.name) f i) (chosen_findings wants.words (findings m)) ++ map (λ w. warning_told-none (name_text m.name) w i) (wanted_warnings wants m))
