-- What was told of the stops of a script, one after the other.
use Rattle.std.proofs.Common.{◌≡◌, ◌⊎◌, inl, inr, ℕ, ◌+◌, ◌<◌, ◌≤◌, Bool, true, false, List, [], ◌∷◌, ◌++◌, Option, None, Some, Ok, length, get_or, refl, sym, ap, ap₂, subst, ◌∙◌, arith, append-nil}
use Rattle.std.specs.Prelude.{IfSome, filter, flat_map, is_some, not, slice_get, unwrap_or}
use Rattle.std.specs.List.{remove}
use Rattle.std.proofs.lemmas.Grind.{flat_map-append}
use Rattle.std.proofs.lemmas.List.{length-append}
use Rattle.std.proofs.lemmas.List.Edits.{length-remove}
use Rattle.std.proofs.lemmas.List.Elements.{filter-append}
use Rattle.std.proofs.lemmas.Bool.{true≢false}
use Rattle.std.proofs.lemmas.Option.{get_or_from_slice_get, slice_get-get_or}
use Rattle.map_blocks.specs.Hanging.{hangs}
use Rattle.map_blocks.specs.Stops.{IsStopWithin}
use Rattle.map_blocks.specs.declared.stop.Stop.{Stop}
use Rattle.run_canvas.specs.Canvases.{Drafted, draft_canvas}
use Rattle.run_script.specs.Drawn.{IsScriptDrawn}
use Rattle.run_reasons.specs.Refused.{blocks_text}
use Rattle.run_stops.specs.ToldStops.{AreStopsTold, AreToldFrom, IsStopTold, IsToldAmong, StopsAt, told_count, told_text, with_left_out}
use Rattle.run_stops.specs.Telling.{MeetsStop, PutsTold, TellsOf, TellsOneMore}
use Rattle.run_stops.specs.declared.further.Telling.{Telling}

-- ---- One stop

-- what holds of a value holds of the one that is there
pub if_there : {X : Type 0} (P : X → Type 0) (o : Option X) (x : X) → o ≡ Some x → IfSome o P → P x
if_there {X = X} P o x is holds = subst (λ (p : Option X). IfSome p P) is holds

-- the lines are drawn up to a stop
pub stops_at : (first draft last : Drafted) (lines : List (ℕ × List ℕ)) (field : Option Stop) (stop : Stop) (answers : Option (List ℕ)) → draft ≡ first → field ≡ Some stop
    → IsScriptDrawn draft_canvas false lines (Ok field) draft None last answers → StopsAt first lines stop
stops_at first draft last lines field stop answers same is drawn = (
  last,
  answers,
  subst (λ (d : Drafted). IsScriptDrawn draft_canvas false lines (Ok (Some stop)) d None last answers) same
      (subst (λ (o : Option Stop). IsScriptDrawn draft_canvas false lines (Ok o) draft None last answers) is drawn),
)

-- what tells of a stop
pub told_among : (lines : List (ℕ × List ℕ)) (files : List (List ℕ)) (stop : Stop) (text : List ℕ) → IsStopWithin (length lines) stop → length files ≡ length lines
    → ((file : List ℕ) (line : ℕ × List ℕ) → slice_get files stop.place ≡ Some file → slice_get lines stop.place ≡ Some line
    → IsStopTold file line stop.code (blocks_text lines files stop.«open».items) text) → IsToldAmong lines files stop text
told_among lines files stop text within long told =
    let below : stop.place < length lines = within.0 in
    let inside : stop.place < length files = omega (arith, below, long) in
    let line : ℕ × List ℕ = get_or lines stop.place (0, []) in
    let file : List ℕ = get_or files stop.place [] in
    let is : slice_get lines stop.place ≡ Some line = slice_get-get_or lines stop.place (0, []) below in
    let in_file : slice_get files stop.place ≡ Some file = slice_get-get_or files stop.place [] inside in
    (line, file, is, in_file, told file line in_file is)

-- what was told of a stop is what tells of it
pub told_or_none : (told : Option (List ℕ)) (lines : List (ℕ × List ℕ)) (files : List (List ℕ)) (stop : Stop) (text : List ℕ) → IfSome told (λ t. t ≡ text)
    → IsToldAmong lines files stop text → IfSome told (IsToldAmong lines files stop)
told_or_none None lines files stop text is among = tt
told_or_none (Some t) lines files stop text is among = subst (λ (s : List ℕ). IsToldAmong lines files stop s) (sym is) among

-- one line more was left out
pub left_one : (old new out lines : List (ℕ × List ℕ)) (i : ℕ) (x : ℕ × List ℕ) → slice_get lines i ≡ Some x → old ≡ out → new ≡ old ++ x ∷ [] → new ≡ with_left_out out lines i
left_one old new out lines i x is same more =
    more ∙ ap₂ (λ (xs : List (ℕ × List ℕ)) (y : ℕ × List ℕ). xs ++ y ∷ []) same (sym (get_or_from_slice_get lines i x (0, []) is))

-- one stop more was met and told, or not
pub told_one : (first : Drafted) (old mid new : Telling) (stop : Stop) (text : List ℕ) (goes_on : Bool) → StopsAt first old.lines stop → IsToldAmong old.lines old.files stop text
    → IsStopWithin (length old.lines) stop → PutsTold stop text old mid → new.text.items ≡ mid.text.items → new.count ≡ mid.count
    → (goes_on ≡ true → (new.lines ≡ remove mid.lines stop.place) × (new.files ≡ remove mid.files stop.place) × (new.left_out ≡ with_left_out mid.left_out mid.lines stop.place))
    → TellsOneMore first old new goes_on
told_one first old mid new stop text goes_on stops among within put same kept left = inl (record {
  stop = stop;
  told = put.told;
  stops = stops;
  hung = put.hung;
  is = told_or_none put.told old.lines old.files stop text put.is among;
  tells = record { text = same ∙ put.tells.text; count = kept ∙ put.tells.count };
  within = within.0;
  left = λ goes. (
    (left goes).0 ∙ ap (λ (ls : List (ℕ × List ℕ)). remove ls stop.place) put.lines,
    (left goes).1 ∙ ap (λ (fs : List (List ℕ)). remove fs stop.place) put.files,
    (left goes).2 ∙ ap₂ (λ (os ls : List (ℕ × List ℕ)). with_left_out os ls stop.place) put.out put.lines,
  );
})

-- ---- One after the other

-- so much was told of the lines at which a script stops without these; behind them these lines are left, in these files, and these are left out
abbrev pub LeavesOut : Drafted → List (ℕ × List ℕ) → List (List ℕ) → List (ℕ × List ℕ) → List (Option (List ℕ)) → List (ℕ × List ℕ) → List (List ℕ) → List (ℕ × List ℕ) → Type 0
LeavesOut first lines files out [] rest places gone = (rest ≡ lines) × (places ≡ files) × (gone ≡ out)
LeavesOut first lines files out (told ∷ more) rest places gone =
    (stop : Stop) × StopsAt first lines stop × (is_some told ≡ not (hangs lines out stop)) × IfSome told (IsToldAmong lines files stop)
    × LeavesOut first (remove lines stop.place) (remove files stop.place) (with_left_out out lines stop.place) more rest places gone

told_from : (first : Drafted) (lines : List (ℕ × List ℕ)) (files : List (List ℕ)) (out : List (ℕ × List ℕ)) (tolds : List (Option (List ℕ))) (rest : List (ℕ × List ℕ)) (places : List (List ℕ))
    (gone : List (ℕ × List ℕ)) → LeavesOut first lines files out tolds rest places gone → AreToldFrom first lines files out tolds
told_from first lines files out [] rest places gone left = tt
told_from first lines files out (told ∷ more) rest places gone (stop, stops, hung, is, left) =
    (stop, stops, hung, is, told_from first (remove lines stop.place) (remove files stop.place) (with_left_out out lines stop.place) more rest places gone left)

one_more : (first : Drafted) (lines : List (ℕ × List ℕ)) (files : List (List ℕ)) (out : List (ℕ × List ℕ)) (tolds : List (Option (List ℕ))) (rest : List (ℕ × List ℕ)) (places : List (List ℕ))
    (gone : List (ℕ × List ℕ)) (stop : Stop) (told : Option (List ℕ)) → LeavesOut first lines files out tolds rest places gone → StopsAt first rest stop
    → is_some told ≡ not (hangs rest gone stop) → IfSome told (IsToldAmong rest places stop)
    → LeavesOut first lines files out (tolds ++ told ∷ []) (remove rest stop.place) (remove places stop.place) (with_left_out gone rest stop.place)
one_more first lines files out [] rest places gone stop told (same, here, left) stops hung is = (
  stop,
  subst (λ (ls : List (ℕ × List ℕ)). StopsAt first ls stop) same stops,
  hung ∙ ap₂ (λ (ls os : List (ℕ × List ℕ)). not (hangs ls os stop)) same left,
  subst (λ (ls : List (ℕ × List ℕ)). IfSome told (IsToldAmong ls files stop)) same (subst (λ (fs : List (List ℕ)). IfSome told (IsToldAmong rest fs stop)) here is),
  (
    ap (λ (ls : List (ℕ × List ℕ)). remove ls stop.place) same,
    ap (λ (fs : List (List ℕ)). remove fs stop.place) here,
    ap₂ (λ (os ls : List (ℕ × List ℕ)). with_left_out os ls stop.place) left same,
  ),
)
one_more first lines files out (t ∷ ts) rest places gone stop told (at, ends, hanged, was, left) stops hung is =
    (at, ends, hanged, was, one_more first (remove lines at.place) (remove files at.place) (with_left_out out lines at.place) ts rest places gone stop told left stops hung is)

text_more : (tolds : List (Option (List ℕ))) (told : Option (List ℕ)) → told_text (tolds ++ told ∷ []) ≡ told_text tolds ++ unwrap_or told []
text_more tolds told =
    flat_map-append (λ (t : Option (List ℕ)). unwrap_or t []) tolds (told ∷ []) ∙ ap (λ (s : List ℕ). told_text tolds ++ s) (append-nil (unwrap_or told []))

count_more : (tolds : List (Option (List ℕ))) (told : Option (List ℕ)) → told_count (tolds ++ told ∷ []) ≡ told_count tolds + told_count (told ∷ [])
count_more tolds told =
    ap (λ (xs : List (Option (List ℕ))). length xs) (filter-append (λ (t : Option (List ℕ)). is_some t) tolds (told ∷ []))
    ∙ length-append (filter is_some tolds) (filter is_some (told ∷ []))

one_at_most : (told : Option (List ℕ)) → told_count (told ∷ []) ≤ 1
one_at_most None = omega arith
one_at_most (Some t) = omega arith

-- ---- As far as it has come

-- so much was told of the lines at which a script stops without these
pub record HasTold (first : Drafted) (lines : List (ℕ × List ℕ)) (files : List (List ℕ)) (out : List (ℕ × List ℕ)) (t : Telling) : Type 0 where
  pub tolds : List (Option (List ℕ))
  pub left : LeavesOut first lines files out tolds t.lines t.files t.left_out
  pub text : t.text.items ≡ told_text tolds
  pub count : t.count ≡ told_count tolds
  pub most : t.count ≤ 19
  pub long : length t.files ≡ length t.lines

-- a file for each line is left where one is left out
same_long : {X Y : Type 0} (xs : List X) (ys : List Y) (i : ℕ) → length ys ≡ length xs → i < length xs → length (remove ys i) ≡ length (remove xs i)
same_long xs ys i long below =
    omega (arith, length-remove xs i below, length-remove ys i (subst (λ (n : ℕ). i < n) (sym long) below), long)

pub none_yet : (first : Drafted) (lines : List (ℕ × List ℕ)) (files : List (List ℕ)) (i : ℕ) (t : Telling) → t.lines ≡ remove lines i → t.files ≡ remove files i
    → t.left_out ≡ with_left_out [] lines i → t.text.items ≡ [] → t.count ≡ 0 → length files ≡ length lines → i < length lines
    → HasTold first (remove lines i) (remove files i) (with_left_out [] lines i) t
none_yet first lines files i t same here out none zero long below = record {
  tolds = [];
  left = (same, here, out);
  text = none;
  count = zero;
  most = omega (arith, zero);
  long = ap (λ (fs : List (List ℕ)). length fs) here ∙ same_long lines files i long below ∙ sym (ap (λ (ls : List (ℕ × List ℕ)). length ls) same);
}

-- what was left behind one stop more
left_next : (first : Drafted) (lines : List (ℕ × List ℕ)) (files : List (List ℕ)) (out : List (ℕ × List ℕ)) (tolds : List (Option (List ℕ))) (rest ls : List (ℕ × List ℕ)) (places fs : List (List ℕ))
    (gone os : List (ℕ × List ℕ)) → ls ≡ rest → fs ≡ places → os ≡ gone → LeavesOut first lines files out tolds rest places gone → LeavesOut first lines files out tolds ls fs os
left_next first lines files out tolds rest ls places fs gone os same here left is =
    subst (λ (xs : List (ℕ × List ℕ)). LeavesOut first lines files out tolds xs fs os) (sym same)
    (subst (λ (ys : List (List ℕ)). LeavesOut first lines files out tolds rest ys os) (sym here)
    (subst (λ (zs : List (ℕ × List ℕ)). LeavesOut first lines files out tolds rest places zs) (sym left) is))

pub told_next : (first : Drafted) (lines : List (ℕ × List ℕ)) (files : List (List ℕ)) (out : List (ℕ × List ℕ)) (t u : Telling) → HasTold first lines files out t → t.count < 19
    → TellsOneMore first t u true → HasTold first lines files out u
told_next first lines files out t u has few (inr (never, same, kept)) = absurd (true≢false never)
told_next first lines files out t u has few (inl met) =
    let stop = met.stop in
    let left : (u.lines ≡ remove t.lines stop.place) × (u.files ≡ remove t.files stop.place) × (u.left_out ≡ with_left_out t.left_out t.lines stop.place) = met.left refl in
    record {
      tolds = has.tolds ++ met.told ∷ [];
      left = left_next first lines files out (has.tolds ++ met.told ∷ []) (remove t.lines stop.place) u.lines (remove t.files stop.place) u.files
          (with_left_out t.left_out t.lines stop.place) u.left_out left.0 left.1 left.2
          (one_more first lines files out has.tolds t.lines t.files t.left_out stop met.told has.left met.stops met.hung met.is);
      text = met.tells.text ∙ ap (λ (s : List ℕ). s ++ unwrap_or met.told []) has.text ∙ sym (text_more has.tolds met.told);
      count = met.tells.count ∙ ap (λ (n : ℕ). n + told_count (met.told ∷ [])) has.count ∙ sym (count_more has.tolds met.told);
      most = omega (arith, met.tells.count, few, one_at_most met.told);
      long = ap (λ (fs : List (List ℕ)). length fs) left.1 ∙ same_long t.lines t.files stop.place has.long met.within ∙ sym (ap (λ (ls : List (ℕ × List ℕ)). length ls) left.0);
    }

-- ---- What was told in all

pub told_all : (first : Drafted) (lines : List (ℕ × List ℕ)) (files : List (List ℕ)) (out : List (ℕ × List ℕ)) (t : Telling) → HasTold first lines files out t
    → AreStopsTold 19 first lines files out t.text.items
told_all first lines files out t has =
    (has.tolds, told_from first lines files out has.tolds t.lines t.files t.left_out has.left, has.text, subst (λ (n : ℕ). n ≤ 19) has.count has.most)

pub told_last : (first : Drafted) (lines : List (ℕ × List ℕ)) (files : List (List ℕ)) (out : List (ℕ × List ℕ)) (t u : Telling) (goes_on : Bool) → HasTold first lines files out t
    → t.count < 19 → TellsOneMore first t u goes_on → AreStopsTold 19 first lines files out u.text.items
told_last first lines files out t u goes_on has few (inr (ends, same, kept)) =
    (has.tolds, told_from first lines files out has.tolds t.lines t.files t.left_out has.left, same ∙ has.text, subst (λ (n : ℕ). n ≤ 19) has.count has.most)
told_last first lines files out t u goes_on has few (inl met) =
    let all : LeavesOut first lines files out (has.tolds ++ met.told ∷ []) (remove t.lines met.stop.place) (remove t.files met.stop.place) (with_left_out t.left_out t.lines met.stop.place) =
    one_more first lines files out has.tolds t.lines t.files t.left_out met.stop met.told has.left met.stops met.hung met.is in
    let few_more : told_count (has.tolds ++ met.told ∷ []) ≤ 19 = omega (arith, count_more has.tolds met.told, has.count, few, one_at_most met.told) in (
      has.tolds ++ met.told ∷ [],
      told_from first lines files out (has.tolds ++ met.told ∷ []) (remove t.lines met.stop.place) (remove t.files met.stop.place) (with_left_out t.left_out t.lines met.stop.place) all,
      met.tells.text ∙ ap (λ (s : List ℕ). s ++ unwrap_or met.told []) has.text ∙ sym (text_more has.tolds met.told),
      few_more,
    )

-- nothing was told
pub told_none : (first : Drafted) (lines : List (ℕ × List ℕ)) (files : List (List ℕ)) (out : List (ℕ × List ℕ)) (text : List ℕ) → text ≡ [] → AreStopsTold 19 first lines files out text
told_none first lines files out text none = ([], tt, none, omega arith)
