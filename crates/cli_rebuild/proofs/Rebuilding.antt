-- From what is told of each level of a WAD that is built anew to what the request `rebuild` promises.
use Rattle.std.proofs.Common.{◌≡◌, ◌∙◌, ◌+◌, ◌<◌, ℕ, Bool, List, [], ◌∷◌, ◌++◌, Option, Result, Ok, Err, length, get_or, map, take, ◌⊎◌, inl, inr, refl, sym, ap, subst, append-nil}
use Rattle.std.specs.Prelude.{All, MatchResult, flat_map}
use Rattle.std.specs.Io.KnownBytes.{Appends, Keeps}
use Rattle.std.proofs.KnownBytes.{Appends-trans}
use Rattle.std.proofs.lemmas.Grind.{flat_map-append}
use Rattle.std.proofs.lemmas.List.{take_more}
use Rattle.std.proofs.lemmas.List.Elements.{All-head, All-tail}
use Rattle.wad_levels.specs.Called.{is_level_asked}
use Rattle.wad_levels.specs.declared.entries.LevelEntries.{LevelEntries}
use Rattle.lump_records.specs.Names.{name_text}
use Rattle.lump_records.specs.declared.records.Name8.{Name8}
use Rattle.cli_print.specs.ShownNames.{shown}
use Rattle.cli_rebuild.specs.Rebuilding.{IsRebuiltOf, IsToldOf, fate_text, kept_line, kept_fault_lines, kept_notes, kept_of, left_as_text, made_text, status_rebuilt}
use Rattle.run_edit.specs.declared.error.EditorError.TheVariants.{WriterFailed}
use Rattle.wad_rebuild.specs.Rebuilt.{IsFate, IsRebuilt, IsRebuiltAs, kept_in}
use Rattle.wad_rebuild.specs.declared.cause.Cause.{Cause}
use Rattle.wad_rebuild.specs.declared.levels.Fate.{Fate}
use Rattle.wad_rebuild.specs.declared.levels.Fate.TheVariants.{NotAsked, Made, Left}
use Rattle.wad_rebuild.specs.declared.levels.RebuiltLevel.{RebuiltLevel}
use Rattle.wad_rebuild.specs.declared.made.MadeLumps.{MadeLumps}
use Rattle.cli_refusals.specs.declared.refusal.Refusal.{Refusal}
use Rattle.cli_refusals.specs.declared.refusal.Refusal.TheVariants.{Lines}

-- ---- A level

pub made_told : (name : Name8) (fate : Fate) (m : MadeLumps) (bytes : List ℕ) (u v w : Option (List ℕ)) → fate ≡ Made m → bytes ≡ name_text name
    → Appends u v (map shown bytes) → Appends v w (made_text m) → Appends u w (fate_text name fate)
made_told name fate m bytes u v w is named first rest =
    let all = Appends-trans u v w (map shown bytes) (made_text m) first rest in
    subst (λ (f : Fate). Appends u w (fate_text name f)) (sym is) (subst (λ (t : List ℕ). Appends u w (map shown t ++ made_text m)) named all)

pub left_told : (name : Name8) (fate : Fate) (c : Cause) (bytes : List ℕ) (u v w : Option (List ℕ)) → fate ≡ Left c → bytes ≡ name_text name
    → Appends u v (map shown bytes) → Appends v w (left_as_text c) → Appends u w (fate_text name fate)
left_told name fate c bytes u v w is named first rest =
    let all = Appends-trans u v w (map shown bytes) (left_as_text c) first rest in
    subst (λ (f : Fate). Appends u w (fate_text name f)) (sym is) (subst (λ (t : List ℕ). Appends u w (map shown t ++ left_as_text c)) named all)

-- ---- Texts

-- the text of one item more
pub texts_more : {X : Type 0} (f : X → List ℕ) (xs : List X) (n : ℕ) (x d : X) (u v w : Option (List ℕ)) → n < length xs → x ≡ get_or xs n d
    → Appends u v (flat_map f (take n xs)) → Appends v w (f x) → Appends u w (flat_map f (take (n + 1) xs))
texts_more f xs n x d u v w within is said more =
    let one = take_more xs n d within ∙ ap (λ (y : _). take n xs ++ y ∷ []) (sym is) in
    let all : flat_map f (take (n + 1) xs) ≡ flat_map f (take n xs) ++ f x =
    ap (flat_map f) one ∙ flat_map-append f (take n xs) (x ∷ []) ∙ ap (λ (t : List ℕ). flat_map f (take n xs) ++ t) (append-nil (f x)) in
    subst (Appends u w) (sym all) (Appends-trans u v w (flat_map f (take n xs)) (f x) said more)

-- ---- The faults that stay

kept_is : (wad : List ℕ) (asked : Bool) (l : LevelEntries) (fate : Fate) → IsFate wad asked l fate → kept_of fate ≡ kept_in wad l fate
kept_is wad asked l NotAsked is = refl
kept_is wad asked l (Made m) is = is.1.made.kept
kept_is wad asked l (Left c) is = refl

-- what stands beside what was made of the levels is what stays in them
pub kept_all : (wad : List ℕ) (all : List LevelEntries) (names : List (List ℕ)) (levels : List RebuiltLevel) → All (IsRebuilt wad all names) levels → kept_notes levels ≡ kept_fault_lines wad levels
kept_all wad all names [] each = refl
kept_all wad all names (l ∷ ls) each =
    let here = kept_is wad (is_level_asked wad all names l.entries) l.entries l.fate (All-head (IsRebuilt wad all names) l ls each).fate_is in
    let rest = kept_all wad all names ls (All-tail (IsRebuilt wad all names) l ls each) in
    (λ i. flat_map (kept_line l.name) (here i) ++ rest i)

-- ---- The request

-- what became of levels was told, and the faults that stay, or a writer failed
abbrev pub IsTold : Result ℕ Refusal → List RebuiltLevel → ℕ → Option (List ℕ) → Option (List ℕ) → Option (List ℕ) → Option (List ℕ) → Type 0
IsTold how levels size u w d x =
    MatchResult how (λ status. (status ≡ status_rebuilt levels) × IsToldOf levels size u w × Appends d x (kept_notes levels)) (λ refusal. (refusal ≡ Lines WriterFailed) × (IsToldOf levels size u w ⊎ Keeps d x))

-- a WAD was built anew, and told, or a writer failed
pub rebuilt_told : (how : Result ℕ Refusal) (wad : List ℕ) (names : List (List ℕ)) (levels : List RebuiltLevel) (bytes : List ℕ) (size : ℕ) (u w d x : Option (List ℕ))
    → IsRebuiltAs wad names levels bytes → size ≡ length bytes → IsTold how levels size u w d x
    → IsRebuiltOf wad names how u w d x
rebuilt_told (Ok status) wad names levels bytes size u w d x is long (same, told, beside) = (
  levels,
  bytes,
  is,
  same,
  subst (λ (n : ℕ). IsToldOf levels n u w) long told,
  subst (Appends d x) (kept_all wad (map (λ (l : RebuiltLevel). l.entries) levels) names levels is.levels_are.each) beside,
)
rebuilt_told (Err refusal) wad names levels bytes size u w d x is long (failed, inl told) = inr (failed, inl (levels, bytes, is, subst (λ (n : ℕ). IsToldOf levels n u w) long told))
rebuilt_told (Err refusal) wad names levels bytes size u w d x is long (failed, inr kept) = inr (failed, inr kept)
