-- What there is to say of maps, one line after another.
use Rattle.std.proofs.Common.{◌≡◌, ◌∙◌, ◌+◌, ◌<◌, ℕ, List, [], ◌∷◌, ◌++◌, Option, Some, None, Result, Ok, Err}
use Rattle.std.proofs.Common.{length, get_or, map, take, drop, refl, sym, ap, subst, arith, append_assoc, append-nil, length-append}
use Rattle.std.specs.Prelude.{flat_map}
use Rattle.std.specs.Io.KnownBytes.{Appends, Keeps}
use Rattle.std.proofs.KnownBytes.{Appends-kept, Appends-nil, Appends-trans}
use Rattle.std.proofs.lemmas.Grind.{flat_map-append}
use Rattle.std.proofs.lemmas.List.{length-map, map-append, take-append-drop, take_more}
use Rattle.lump_records.specs.Names.{name_text}
use Rattle.map_tables.specs.Tables.{Tables, empty_tables}
use Rattle.map_tables.specs.declared.kind.Kind.{Kind}
use Rattle.map_checks.specs.Findings.{findings}
use Rattle.map_checks.specs.declared.finding.Finding.{Finding}
use Rattle.map_lint.specs.declared.warning.Warning.{Warning}
use Rattle.map_dump.specs.Texts.{WritesFront, with_lf, text_of}
use Rattle.cli_print.specs.Choosing.{LintWants, chosen_findings}
use Rattle.cli_print.specs.Linting.{AreTold, WritesRemarks, behind, lint_of, remarks, wanted_warnings}
use Rattle.cli_print.specs.Origins.{finding_told, warning_told}
use Rattle.cli_refusals.specs.Statuses.{status_after}
use Rattle.run_edit.specs.Texts.{total_text}
use Rattle.run_edit.specs.declared.error.EditorError.{EditorError}
use Rattle.run_edit.specs.declared.error.EditorError.TheVariants.{OutOfMemory, InputTooLong, ReaderFailed, WriterFailed}
use Rattle.cli_refusals.specs.declared.refusal.Refusal.TheVariants.{Lines}

-- the lines of remarks behind a name
abbrev pub lines_behind : {X : Type 0} → List ℕ → (X → List ℕ) → List X → List ℕ
lines_behind name text xs = flat_map (λ x. with_lf (behind name (text x))) xs

lines-behind : {X : Type 0} (name : List ℕ) (text : X → List ℕ) (xs : List X) → lines_behind name text xs ≡ text_of (map (behind name) (map text xs))
lines-behind name text [] = refl
lines-behind name text (x ∷ xs) = ap (λ (t : List ℕ). with_lf (behind name (text x)) ++ t) (lines-behind name text xs)

-- ---- A map

-- the findings of a map that are asked for
abbrev pub wanted_findings : LintWants → Tables → List Finding
wanted_findings wants m = chosen_findings wants.words (findings m)

text-remarks : (origin : List ℕ → Kind → ℕ → List ℕ) (wants : LintWants) (m : Tables)
    → lines_behind (name_text m.name) (finding_told origin (name_text m.name)) (wanted_findings wants m)
    ++ lines_behind (name_text m.name) (warning_told origin (name_text m.name)) (wanted_warnings wants m)
    ≡ text_of (remarks origin wants m)
text-remarks origin wants m =
    let name = name_text m.name in
    let found = map (finding_told origin name) (wanted_findings wants m) in
    let warned = map (warning_told origin name) (wanted_warnings wants m) in
    (λ i. lines-behind name (finding_told origin name) (wanted_findings wants m) i ++ lines-behind name (warning_told origin name) (wanted_warnings wants m) i)
    ∙ sym (ap text_of (map-append (behind name) found warned) ∙ flat_map-append with_lf (map (behind name) found) (map (behind name) warned))

length-remarks : (origin : List ℕ → Kind → ℕ → List ℕ) (wants : LintWants) (m : Tables) → length (remarks origin wants m) ≡ length (wanted_findings wants m) + length (wanted_warnings wants m)
length-remarks origin wants m =
    let name = name_text m.name in
    let found = map (finding_told origin name) (wanted_findings wants m) in
    let warned = map (warning_told origin name) (wanted_warnings wants m) in
    length-map (found ++ warned) (behind name) ∙ length-append found warned
    ∙ (λ i. length-map (wanted_findings wants m) (finding_told origin name) i + length-map (wanted_warnings wants m) (warning_told origin name) i)

-- the lines about a map
abbrev pub lines_of : (origin : List ℕ → Kind → ℕ → List ℕ) → List ℕ → List Finding → List Warning → List ℕ
lines_of origin name found warned = lines_behind name (finding_told origin name) found ++ lines_behind name (warning_told origin name) warned

-- what is found in a map was written
pub map_written : (origin : List ℕ → Kind → ℕ → List ℕ) (wants : LintWants) (m : Tables) (name : List ℕ) (found : List Finding) (warned : List Warning) (before count : ℕ)
    (text : List ℕ) (u w : Option (List ℕ))
    → name ≡ name_text m.name → found ≡ wanted_findings wants m → warned ≡ wanted_warnings wants m → count ≡ before + length found + length warned
    → text ≡ lines_of origin name found warned → Appends u w text → WritesRemarks (Ok count) before (remarks origin wants m) u w
map_written origin wants m name found warned before count text u w named is are sum made told =
    let same : text ≡ text_of (remarks origin wants m) =
    made ∙ (λ i. lines_of origin (named i) (is i) (are i)) ∙ text-remarks origin wants m in (
      omega (arith, sum, length-remarks origin wants m, ap length is, ap length are),
      subst (λ (t : List ℕ). Appends u w t) same told,
    )

-- no memory was found before the first line
pub none_written : (e : EditorError) (before : ℕ) (lines : List (List ℕ)) (u : Option (List ℕ)) → e ≡ OutOfMemory → WritesRemarks (Err e) before lines u u
none_written e before lines u is =
    let front : WritesFront lines u u = record { front = []; back = lines; parted = refl; written = Appends-nil u } in
    subst (λ (why : EditorError). WritesRemarks (Err why) before lines u u) (sym is) front

-- no map has a number where none stands
pub none_there : (o : Option Tables) (m : Tables) → o ≡ None → o ≡ Some m → ⊥
none_there o m none some = cc

-- the map of a number is one map
pub remarks_told : (origin : List ℕ → Kind → ℕ → List ℕ) (wants : LintWants) (r : Result ℕ EditorError) (o : Option Tables) (before : ℕ) (m : Tables) (u w : Option (List ℕ)) → o ≡ Some m
    → WritesRemarks r before (remarks origin wants m) u w → (t : Tables) → o ≡ Some t → WritesRemarks r before (remarks origin wants t) u w
remarks_told origin wants r o before m u w is told t at =
    let same : m ≡ t = cc in
    subst (λ (k : Tables). WritesRemarks r before (remarks origin wants k) u w) same told

-- ---- The maps

remarks-more : (origin : List ℕ → Kind → ℕ → List ℕ) (wants : LintWants) (ms : List Tables) (n : ℕ) → n < length ms → lint_of origin wants (take (n + 1) ms) ≡ lint_of origin wants (take n ms) ++ remarks origin wants (get_or ms n empty_tables)
remarks-more origin wants ms n within =
    let m = get_or ms n empty_tables in
    ap (lint_of origin wants) (take_more ms n empty_tables within) ∙ flat_map-append (remarks origin wants) (take n ms) (m ∷ [])
    ∙ ap (λ (lines : List (List ℕ)). lint_of origin wants (take n ms) ++ lines) (append-nil (remarks origin wants m))

-- this has been said of maps, and counted
abbrev pub HasSaid : (List ℕ → Kind → ℕ → List ℕ) → LintWants → List Tables → ℕ → Option (List ℕ) → Option (List ℕ) → Type 0
HasSaid origin wants ms count u w = (count ≡ length (lint_of origin wants ms)) × Appends u w (text_of (lint_of origin wants ms))

pub maps_more : (origin : List ℕ → Kind → ℕ → List ℕ) (wants : LintWants) (ms : List Tables) (n before sum : ℕ) (u v w : Option (List ℕ)) → n < length ms → HasSaid origin wants (take n ms) before u v
    → WritesRemarks (Ok sum) before (remarks origin wants (get_or ms n empty_tables)) v w → HasSaid origin wants (take (n + 1) ms) sum u w
maps_more origin wants ms n before sum u v w within (count, said) (more, told) =
    let m = get_or ms n empty_tables in
    let done = lint_of origin wants (take n ms) in
    let all = remarks-more origin wants ms n within in (
      omega (arith, count, more, ap length all, length-append done (remarks origin wants m)),
      subst (λ (t : List ℕ). Appends u w t) (sym (ap text_of all ∙ flat_map-append with_lf done (remarks origin wants m)))
          (Appends-trans u v w (text_of done) (text_of (remarks origin wants m)) said told),
    )

pub maps_stopped : (origin : List ℕ → Kind → ℕ → List ℕ) (wants : LintWants) (ms : List Tables) (n before : ℕ) (e : EditorError) (u v w : Option (List ℕ)) → n < length ms → HasSaid origin wants (take n ms) before u v
    → WritesRemarks (Err e) before (remarks origin wants (get_or ms n empty_tables)) v w → WritesRemarks (Err e) 0 (lint_of origin wants ms) u w
maps_stopped origin wants ms n before WriterFailed u v w within said told = tt
maps_stopped origin wants ms n before InputTooLong u v w within said told = absurd told
maps_stopped origin wants ms n before ReaderFailed u v w within said told = absurd told
maps_stopped origin wants ms n before OutOfMemory u v w within (count, said) told =
    let done = lint_of origin wants (take n ms) in
    let rest = lint_of origin wants (drop (n + 1) ms) in
    let here : lint_of origin wants (take (n + 1) ms) ≡ done ++ (told.front ++ told.back) =
    remarks-more origin wants ms n within ∙ ap (λ (lines : List (List ℕ)). done ++ lines) told.parted in
    record {
      front = done ++ told.front;
      back = told.back ++ rest;
      parted =
          ap (lint_of origin wants) (sym (take-append-drop (n + 1) ms)) ∙ flat_map-append (remarks origin wants) (take (n + 1) ms) (drop (n + 1) ms)
          ∙ ap (λ (lines : List (List ℕ)). lines ++ rest) (here ∙ sym (append_assoc done told.front told.back))
          ∙ append_assoc (done ++ told.front) told.back rest;
      written =
          subst (λ (t : List ℕ). Appends u w t) (sym (flat_map-append with_lf done told.front))
          (Appends-trans u v w (text_of done) (text_of told.front) said told.written);
    }

-- ---- Lines and their number

pub total_told : (lines : List (List ℕ)) (count status : ℕ) (u v w x : Option (List ℕ)) → status ≡ status_after count
    → WritesRemarks (Ok count) 0 lines u v → Appends v w (total_text count) → Keeps w x → AreTold lines (Ok status) u x
total_told lines count status u v w x is (sum, told) total kept =
    let same : count ≡ length lines = omega (arith, sum) in
    let all = Appends-trans u v w (text_of lines) (total_text count) told total in (
      is ∙ ap status_after same,
      subst (λ (n : ℕ). Appends u x (text_of lines ++ total_text n)) same (Appends-kept u w x (text_of lines ++ total_text count) all kept),
    )
