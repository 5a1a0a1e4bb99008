-- Scripts that include files: their lines, and what is told of a line that can't include one.
use Rattle.std.proofs.Common.{◌≡◌, ◌∙◌, inl, inr, ℕ, zero, suc, ◌+◌, ◌-◌, ◌<◌, ◌≤◌, ◌||◌, Bool, true, false, List, [], ◌∷◌, ◌++◌, Option, None, Some, Result, Ok, Err, length, take, refl, sym, ap, ap₂, subst, arith, append_assoc}
use Rattle.std.specs.Prelude.{MatchResult, is_some, replicate, slice_get}
use Rattle.std.specs.List.{list_any}
use Rattle.std.specs.Io.KnownBytes.{Appends, Keeps}
use Rattle.std.specs.Path.{path_with_file_name}
use Rattle.std.proofs.KnownBytes.{Keeps-trans}
use Rattle.std.proofs.lemmas.List.{append-nil, length-append, take_all, take_more}
use Rattle.std.proofs.lemmas.Option.{get_or_from_slice_get, slice_get_within}
use Rattle.lump_text.specs.Shown.{shown_lines, shown_text}
use Rattle.map_script.specs.Includes.{include_words, is_include, only_word}
use Rattle.map_script.specs.Scripts.{script_lines}
use Rattle.map_script.specs.Words.{text_words}
use Rattle.run_canvas.specs.declared.canvas.Canvas as canvas
use Rattle.run_canvas.specs.declared.error.ScriptError.{ScriptError}
use Rattle.run_canvas.specs.declared.error.ScriptError.TheVariants as cut
use Rattle.run_edit.specs.declared.error.EditorError.TheVariants.{OutOfMemory}
use Rattle.cli_refusals.specs.Statuses.{status_in}
use Rattle.cli_refusals.specs.declared.refusal.Refusal.{Refusal}
use Rattle.cli_refusals.specs.declared.refusal.Refusal.TheVariants.{Lines}
use Rattle.cli_scripts.specs.Including.{AreJoined, AreJoinedBy, EndsUnjoined, IsScriptJoined, IsLineTold, PutsJoined, ShowsTold, LineStandsFor, StandsIn, StandsInBy, TellsNoFile}
use Rattle.cli_scripts.specs.ScriptMaps.{IsStoppedFrom}

-- ---- What was told, behind what tells nothing

appends_before : (d x y : Option (List ℕ)) (t : List ℕ) → Keeps d x → Appends x y t → Appends d y t
appends_before None x y t kept put = tt
appends_before (Some a) None y t kept put = absurd kept
appends_before (Some a) (Some b) None t kept put = absurd put
appends_before (Some a) (Some b) (Some c) t kept put = put ∙ ap (λ (s : List ℕ). s ++ t) kept

pub shows_before : {U : Type 0} (result : Result U ScriptError) (tells : List ℕ → Type 0) (d x y : Option (List ℕ)) → Keeps d x → ShowsTold result tells x y
    → ShowsTold result tells d y
shows_before (Ok u) tells d x y kept (told, is, put) = (told, is, appends_before d x y (shown_lines told) kept put)
shows_before (Err cut.OutOfMemory) tells d x y kept stays = Keeps-trans d x y kept stays
shows_before (Err cut.WriterFailed) tells d x y kept any = tt

pub stopped_before : {S : Type 0} (facts : canvas.Ghosts S) (first : S) (lines : List (ℕ × List ℕ)) (files : List (List ℕ)) (how : Result ℕ Refusal) (d x y : Option (List ℕ)) → Keeps d x
    → IsStoppedFrom facts first lines files how x y → IsStoppedFrom facts first lines files how d y
stopped_before facts first lines files (Ok status) d x y kept (three, (stop, new, written, drawn, told, mid, (line, file, is, in_file, shown), others)) =
    (three, (stop, new, written, drawn, told, mid, (line, file, is, in_file, shows_before told _ d x mid kept shown), others))
stopped_before facts first lines files (Err refusal) d x y kept is = is

-- ---- Lines, joined

-- each of them has its file
long_one : (rule : List ℕ → List (ℕ × List ℕ) → List (ℕ × List ℕ) → List (List ℕ) → Type 0)
    → ((p : List ℕ) (ls out : List (ℕ × List ℕ)) (fs : List (List ℕ)) → rule p ls out fs → length fs ≡ length out)
    → (path : List ℕ) (l : ℕ × List ℕ) (o : Option (List (List ℕ))) (part : List (ℕ × List ℕ)) (here : List (List ℕ)) → LineStandsFor rule path l o part here
    → length here ≡ length part
long_one rule all path l None part here (lines, files) = ap length files ∙ sym (ap length lines)
long_one rule all path l (Some words) part here (word, text, is, joined) = all (path_with_file_name path word) (script_lines text) part here joined

long_by : (rule : List ℕ → List (ℕ × List ℕ) → List (ℕ × List ℕ) → List (List ℕ) → Type 0)
    → ((p : List ℕ) (ls out : List (ℕ × List ℕ)) (fs : List (List ℕ)) → rule p ls out fs → length fs ≡ length out)
    → (path : List ℕ) (ls out : List (ℕ × List ℕ)) (fs : List (List ℕ)) → AreJoinedBy rule path ls out fs → length fs ≡ length out
long_by rule all path [] out fs (lines, files) = ap length files ∙ sym (ap length lines)
long_by rule all path (l ∷ ls) out fs (part, rest, here, behind, stands, joined, lines, files) =
    ap length files ∙ length-append here behind
    ∙ ap₂ (λ (a b : ℕ). a + b) (long_one rule all path l (include_words (text_words l.1)) part here stands) (long_by rule all path ls rest behind joined)
    ∙ sym (ap length lines ∙ length-append part rest)

long_joined : (n : ℕ) (path : List ℕ) (ls out : List (ℕ × List ℕ)) (fs : List (List ℕ)) → AreJoined n path ls out fs → length fs ≡ length out
unfolding AreJoined
long_joined zero path ls out fs never = absurd never
long_joined (suc n) path ls out fs joined = long_by (AreJoined n) (long_joined n) path ls out fs joined

pub joined_long : (path : List ℕ) (ls out : List (ℕ × List ℕ)) (fs : List (List ℕ)) → IsScriptJoined path ls out fs → length fs ≡ length out
joined_long path ls out fs joined = long_by (AreJoined 16) (long_joined 16) path ls out fs joined

-- one line more
one_more : (rule : List ℕ → List (ℕ × List ℕ) → List (ℕ × List ℕ) → List (List ℕ) → Type 0) (path : List ℕ) (ls : List (ℕ × List ℕ)) (l : ℕ × List ℕ)
    (out part : List (ℕ × List ℕ)) (fs here : List (List ℕ)) → AreJoinedBy rule path ls out fs → LineStandsFor rule path l (include_words (text_words l.1)) part here
    → AreJoinedBy rule path (ls ++ l ∷ []) (out ++ part) (fs ++ here)
one_more rule path [] l out part fs here (lines, files) stands =
    (part, [], here, [], stands, (refl, refl), ap (λ (o : List (ℕ × List ℕ)). o ++ part) lines ∙ sym (append-nil part), ap (λ (o : List (List ℕ)). o ++ here) files ∙ sym (append-nil here))
one_more rule path (k ∷ ls) l out part fs here (first, rest, front, behind, first_is, joined, lines, files) stands = (
  first,
  rest ++ part,
  front,
  behind ++ here,
  first_is,
  one_more rule path ls l rest part behind here joined stands,
  ap (λ (o : List (ℕ × List ℕ)). o ++ part) lines ∙ append_assoc first rest part,
  ap (λ (o : List (List ℕ)). o ++ here) files ∙ append_assoc front behind here,
)

-- ---- Lines that include no file

or_false : (a b : Bool) → a || b ≡ false → (a ≡ false) × (b ≡ false)
or_false true b is = cc
or_false false b is = (refl, is)

stands_alone : (rule : List ℕ → List (ℕ × List ℕ) → List (ℕ × List ℕ) → List (List ℕ) → Type 0) (path : List ℕ) (l : ℕ × List ℕ) (o : Option (List (List ℕ)))
    → is_some o ≡ false → LineStandsFor rule path l o (l ∷ []) (shown_text path ∷ [])
stands_alone rule path l None none = (refl, refl)
stands_alone rule path l (Some words) none = cc

pub joined_alone : (rule : List ℕ → List (ℕ × List ℕ) → List (ℕ × List ℕ) → List (List ℕ) → Type 0) (path : List ℕ) (ls : List (ℕ × List ℕ))
    → list_any is_include ls ≡ false → AreJoinedBy rule path ls ls (replicate (length ls) (shown_text path))
joined_alone rule path [] none = (refl, refl)
joined_alone rule path (l ∷ ls) none =
    let both : (is_include l ≡ false) × (list_any is_include ls ≡ false) = or_false (is_include l) (list_any is_include ls) none in (
      l ∷ [],
      ls,
      shown_text path ∷ [],
      replicate (length ls) (shown_text path),
      stands_alone rule path l (include_words (text_words l.1)) both.0,
      joined_alone rule path ls both.1,
      refl,
      refl,
    )

-- the lines of a script that includes no file, as the code makes them
pub alone_whole : (path shown : List ℕ) (own ls lines : List (ℕ × List ℕ)) (files : List (List ℕ)) → list_any is_include own ≡ false → own ≡ ls → lines ≡ own
    → shown ≡ shown_text path → files ≡ replicate (length own) shown → IsScriptJoined path ls lines files
alone_whole path shown own ls lines files none read same as_shown are =
    let noted : replicate (length own) (shown_text path) ≡ files = sym (are ∙ ap (λ (t : List ℕ). replicate (length own) t) as_shown) in
    subst (λ (xs : List (ℕ × List ℕ)). AreJoinedBy (AreJoined 16) path xs lines files) read
    (subst (λ (xs : List (ℕ × List ℕ)). AreJoinedBy (AreJoined 16) path own xs files) (sym same)
    (subst (λ (fs : List (List ℕ)). AreJoinedBy (AreJoined 16) path own own fs) noted (joined_alone (AreJoined 16) path own none)))

alone_one : (rule : List ℕ → List (ℕ × List ℕ) → List (ℕ × List ℕ) → List (List ℕ) → Type 0) (path : List ℕ) (l : ℕ × List ℕ) (o : Option (List (List ℕ)))
    (part : List (ℕ × List ℕ)) (here : List (List ℕ)) → is_some o ≡ false → LineStandsFor rule path l o part here → (part ≡ l ∷ []) × (here ≡ shown_text path ∷ [])
alone_one rule path l None part here none stands = stands
alone_one rule path l (Some words) part here none stands = cc

pub alone_stays : (rule : List ℕ → List (ℕ × List ℕ) → List (ℕ × List ℕ) → List (List ℕ) → Type 0) (path : List ℕ) (ls out : List (ℕ × List ℕ)) (fs : List (List ℕ))
    → list_any is_include ls ≡ false → AreJoinedBy rule path ls out fs → (out ≡ ls) × (fs ≡ replicate (length ls) (shown_text path))
alone_stays rule path [] out fs none joined = joined
alone_stays rule path (l ∷ ls) out fs none (part, rest, here, behind, stands, joined, lines, files) =
    let both : (is_include l ≡ false) × (list_any is_include ls ≡ false) = or_false (is_include l) (list_any is_include ls) none in
    let one : (part ≡ l ∷ []) × (here ≡ shown_text path ∷ []) = alone_one rule path l (include_words (text_words l.1)) part here both.0 stands in
    let more : (rest ≡ ls) × (behind ≡ replicate (length ls) (shown_text path)) = alone_stays rule path ls rest behind both.1 joined in
    (lines ∙ ap₂ (λ (a b : List (ℕ × List ℕ)). a ++ b) one.0 more.0, files ∙ ap₂ (λ (a b : List (List ℕ)). a ++ b) one.1 more.1)

-- ---- Lines that are put behind others

pub puts_none : (left : ℕ) (path : List ℕ) (ls old : List (ℕ × List ℕ)) (files : List (List ℕ)) → PutsJoined left path (take 0 ls) old old files files
puts_none left path ls old files =
    record { lines = []; files = []; joined = (refl, refl); put = sym (append-nil old); noted = sym (append-nil files) }

puts_part : (left : ℕ) (path : List ℕ) (ls : List (ℕ × List ℕ)) (i : ℕ) (line : ℕ × List ℕ) (old mid new part : List (ℕ × List ℕ)) (f g h here : List (List ℕ))
    → PutsJoined left path (take i ls) old mid f g → slice_get ls i ≡ Some line → LineStandsFor (AreJoined left) path line (include_words (text_words line.1)) part here
    → new ≡ mid ++ part → h ≡ g ++ here → PutsJoined left path (take (i + 1) ls) old new f h
puts_part left path ls i line old mid new part f g h here puts is stands lines files =
    let more : take (i + 1) ls ≡ take i ls ++ line ∷ [] =
    take_more ls i line (slice_get_within ls i line is) ∙ ap (λ (l : ℕ × List ℕ). take i ls ++ l ∷ []) (get_or_from_slice_get ls i line line is) in
    record {
      lines = puts.lines ++ part;
      files = puts.files ++ here;
      joined =
          subst (λ (xs : List (ℕ × List ℕ)). AreJoinedBy (AreJoined left) path xs (puts.lines ++ part) (puts.files ++ here)) (sym more)
          (one_more (AreJoined left) path (take i ls) line puts.lines part puts.files here puts.joined stands);
      put = lines ∙ ap (λ (m : List (ℕ × List ℕ)). m ++ part) puts.put ∙ append_assoc old puts.lines part;
      noted = files ∙ ap (λ (m : List (List ℕ)). m ++ here) puts.noted ∙ append_assoc f puts.files here;
    }

-- a line that stands for itself
pub puts_own : (left : ℕ) (path shown : List ℕ) (ls : List (ℕ × List ℕ)) (i : ℕ) (line : ℕ × List ℕ) (old mid new : List (ℕ × List ℕ)) (f g h : List (List ℕ))
    → PutsJoined left path (take i ls) old mid f g → slice_get ls i ≡ Some line → include_words (text_words line.1) ≡ None
    → shown ≡ shown_text path → new ≡ mid ++ line ∷ [] → h ≡ g ++ replicate 1 shown → PutsJoined left path (take (i + 1) ls) old new f h
puts_own left path shown ls i line old mid new f g h puts is none same lines files =
    puts_part left path ls i line old mid new (line ∷ []) f g h (shown_text path ∷ []) puts is
    (subst (λ (o : Option (List (List ℕ))). LineStandsFor (AreJoined left) path line o (line ∷ []) (shown_text path ∷ [])) (sym none) (refl, refl))
    lines (files ∙ ap (λ (s : List ℕ). g ++ s ∷ []) same)

deeper : (left : ℕ) (path : List ℕ) (ls out : List (ℕ × List ℕ)) (fs : List (List ℕ)) → 0 < left → AreJoinedBy (AreJoined (left - 1)) path ls out fs
    → AreJoined left path ls out fs
unfolding AreJoined
deeper zero path ls out fs below joined = absurd (omega (arith, below))
deeper (suc n) path ls out fs below joined =
    let same : suc n - 1 ≡ n = omega arith in
    subst (λ (k : ℕ). AreJoinedBy (AreJoined k) path ls out fs) same joined

-- a line that stands for those of a file
pub puts_inner : (left : ℕ) (path : List ℕ) (ls : List (ℕ × List ℕ)) (i : ℕ) (line : ℕ × List ℕ) (words : List (List ℕ)) (word text at : List ℕ)
    (inner old mid new : List (ℕ × List ℕ)) (f g h : List (List ℕ)) → PutsJoined left path (take i ls) old mid f g → slice_get ls i ≡ Some line
    → include_words (text_words line.1) ≡ Some words → only_word words ≡ Some word → at ≡ path_with_file_name path word → inner ≡ script_lines text → 0 < left
    → PutsJoined (left - 1) at inner mid new g h → PutsJoined left path (take (i + 1) ls) old new f h
puts_inner left path ls i line words word text at inner old mid new f g h puts is includes one beside read below more =
    let joined : AreJoinedBy (AreJoined (left - 1)) (path_with_file_name path word) (script_lines text) more.lines more.files =
    subst (λ (p : List ℕ). AreJoinedBy (AreJoined (left - 1)) p (script_lines text) more.lines more.files) beside
    (subst (λ (s : List (ℕ × List ℕ)). AreJoinedBy (AreJoined (left - 1)) at s more.lines more.files) read more.joined) in
    puts_part left path ls i line old mid new more.lines f g h more.files puts is
    (subst (λ (o : Option (List (List ℕ))). LineStandsFor (AreJoined left) path line o more.lines more.files) (sym includes)
    (word, text, one, deeper left (path_with_file_name path word) (script_lines text) more.lines more.files below joined))
    more.put more.noted

pub puts_all : (left : ℕ) (path : List ℕ) (ls old new : List (ℕ × List ℕ)) (f h : List (List ℕ)) (i : ℕ) → PutsJoined left path (take i ls) old new f h → length ls ≤ i
    → PutsJoined left path ls old new f h
puts_all left path ls old new f h i puts past =
    subst (λ (xs : List (ℕ × List ℕ)). PutsJoined left path xs old new f h) (take_all i ls past) puts

-- they were put behind none
pub puts_first : (left : ℕ) (path : List ℕ) (ls old new : List (ℕ × List ℕ)) (f h : List (List ℕ)) → PutsJoined left path ls old new f h → old ≡ [] → f ≡ []
    → AreJoinedBy (AreJoined left) path ls new h
puts_first left path ls old new f h puts none empty =
    let lines : puts.lines ≡ new = sym (puts.put ∙ ap (λ (o : List (ℕ × List ℕ)). o ++ puts.lines) none) in
    let files : puts.files ≡ h = sym (puts.noted ∙ ap (λ (o : List (List ℕ)). o ++ puts.files) empty) in
    subst (λ (o : List (ℕ × List ℕ)). AreJoinedBy (AreJoined left) path ls o h) lines
    (subst (λ (fs : List (List ℕ)). AreJoinedBy (AreJoined left) path ls puts.lines fs) files puts.joined)

-- ---- A refused line

fault_before : (left : ℕ) (file : List ℕ) (line : ℕ × List ℕ) (words : List (List ℕ)) (status : ℕ) (d x y : Option (List ℕ)) → Keeps d x
    → TellsNoFile left file line words status x y → TellsNoFile left file line words status d y
fault_before left file line words status d x y kept told =
    record {
      code = told.code;
      result = told.result;
      three = told.three;
      fault = told.fault;
      shown = shows_before told.result (IsLineTold file line told.code) d x y kept told.shown;
    }

-- it is one of the file
pub ends_own : (left : ℕ) (path shown : List ℕ) (ls : List (ℕ × List ℕ)) (i : ℕ) (line : ℕ × List ℕ) (words : List (List ℕ)) (how : Result ℕ Refusal) (d x y : Option (List ℕ))
    → slice_get ls i ≡ Some line → include_words (text_words line.1) ≡ Some words → shown ≡ shown_text path → Keeps d x
    → MatchResult how (λ status. TellsNoFile left shown line words status x y) (λ refusal. refusal ≡ Lines OutOfMemory) → EndsUnjoined left path ls how d y
ends_own left path shown ls i line words (Ok status) d x y is includes same kept told =
    record {
      file = shown;
      line = line;
      left = left;
      words = words;
      stands = inl (i, is, same, refl);
      includes = includes;
      told = fault_before left shown line words status d x y kept told;
    }
ends_own left path shown ls i line words (Err refusal) d x y is includes same kept memory = memory

stands_deeper : (left : ℕ) (path : List ℕ) (ls : List (ℕ × List ℕ)) (file : List ℕ) (line : ℕ × List ℕ) (at : ℕ) → 0 < left
    → StandsInBy (StandsIn (left - 1)) (left - 1) path ls file line at → StandsIn left path ls file line at
unfolding StandsIn
stands_deeper zero path ls file line at below stands = absurd (omega (arith, below))
stands_deeper (suc n) path ls file line at below stands =
    let same : suc n - 1 ≡ n = omega arith in
    subst (λ (k : ℕ). StandsInBy (StandsIn k) k path ls file line at) same stands

-- it is one of a file that a line includes
pub ends_inner : (left : ℕ) (path : List ℕ) (ls : List (ℕ × List ℕ)) (i : ℕ) (line : ℕ × List ℕ) (words : List (List ℕ)) (word text at : List ℕ) (inner : List (ℕ × List ℕ))
    (how : Result ℕ Refusal) (d x y : Option (List ℕ)) → slice_get ls i ≡ Some line → include_words (text_words line.1) ≡ Some words → only_word words ≡ Some word
    → at ≡ path_with_file_name path word → inner ≡ script_lines text → 0 < left → Keeps d x → EndsUnjoined (left - 1) at inner how x y → EndsUnjoined left path ls how d y
ends_inner left path ls i line words word text at inner (Ok status) d x y is includes one beside read below kept told =
    let stands : StandsInBy (StandsIn (left - 1)) (left - 1) (path_with_file_name path word) (script_lines text) told.file told.line told.left =
    subst (λ (p : List ℕ). StandsInBy (StandsIn (left - 1)) (left - 1) p (script_lines text) told.file told.line told.left) beside
    (subst (λ (s : List (ℕ × List ℕ)). StandsInBy (StandsIn (left - 1)) (left - 1) at s told.file told.line told.left) read told.stands) in
    record {
      file = told.file;
      line = told.line;
      left = told.left;
      words = told.words;
      stands = inr (i, line, is, words, includes, word, text, one, stands_deeper left (path_with_file_name path word) (script_lines text) told.file told.line told.left below stands);
      includes = told.includes;
      told = fault_before told.left told.file told.line told.words status d x y kept told.told;
    }
ends_inner left path ls i line words word text at inner (Err refusal) d x y is includes one beside read below kept memory = memory

pub ends_apart : (left : ℕ) (path : List ℕ) (ls : List (ℕ × List ℕ)) (how : Result ℕ Refusal) (d x : Option (List ℕ)) → EndsUnjoined left path ls how d x → status_in how ≡ 0 → ⊥
ends_apart left path ls (Ok status) d x told none = omega (arith, told.told.three, none)
ends_apart left path ls (Err refusal) d x memory none = omega (arith, none)
