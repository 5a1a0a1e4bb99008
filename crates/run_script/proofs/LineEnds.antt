-- A line of a script, by what it stands for.
use Rattle.std.proofs.Common.{◌≡◌, ℕ, List, Bool, false, Option, None, Some, Result, Ok, Err, inl, inr, refl}
use Rattle.std.specs.Prelude.{◌⊎◌, MatchResult}
use Rattle.std.specs.Io.KnownBytes.{Appends, append_known}
use Rattle.map_script.specs.Errors.{code_of}
use Rattle.map_tables.specs.Projects.{current_map}
use Rattle.map_script.specs.Lines.{TellsScriptFault, let_words, line_for, name_in, names_after}
use Rattle.map_script.specs.Referents.{referent_of}
use Rattle.map_script.specs.Scopes.{Scope}
use Rattle.map_script.specs.Words.{text_words}
use Rattle.map_script.specs.declared.firsts.Firsts.{Firsts}
use Rattle.map_script.specs.declared.firsts.Numbers.{Numbers}
use Rattle.map_script.specs.declared.error.DrawError.{DrawError}
use Rattle.map_script.specs.declared.error.DrawError.TheVariants.{NotALet, NotALoop, NotAnAt, NotADefine, NotItsWords, OutsideMap, NotAQuarter, NotAName, NotAReference, OtherKind, UnknownName, NothingAdded, NumberTooLarge, NothingThere, NotANumber, NotWhole, TooGreat, TooDeep, OpenBlock, TooManyLines, OutOfMemory}
use Rattle.run_script.specs.Lines.{Added, Does, DrawsLet, DrawsLine, DrawsOther, DrawsText, IsTried, Sketch, Stays, asks, sketch_of}
use Rattle.run_script.specs.Given.{GivesWords, noted_text, with_given_name}
use Rattle.run_canvas.specs.declared.canvas.Canvas.{Ghosts}
use Rattle.run_canvas.specs.declared.error.ScriptError.{ScriptError}
use Rattle.run_canvas.specs.declared.error.ScriptError.TheVariants as cut

-- what would be written
pub Appends-known : (w : Option (List ℕ)) (bs : List ℕ) → Appends w (append_known w bs) bs
Appends-known None bs = tt
Appends-known (Some xs) bs = refl

faulty : {S : Type 0} (facts : Ghosts S) (verbose : Bool) (line : ℕ × List ℕ) (old new : Sketch S) (e : DrawError)
    → line_for old.names (current_map (facts.maps_in old.canvas)) line.1 ≡ Err e → Stays old new → DrawsOther facts verbose line old (Some (code_of e)) new
faulty facts verbose line old new e is stays = inl (rw is (refl, stays))

-- a line that stands for nothing, or that finds no memory
pub refused_line : {S : Type 0} (facts : Ghosts S) (verbose : Bool) (line : ℕ × List ℕ) (old new : Sketch S) (e : DrawError)
    → TellsScriptFault e (line_for old.names (current_map (facts.maps_in old.canvas)) line.1) → Stays old new → DrawsOther facts verbose line old (Some (code_of e)) new
refused_line facts verbose line old new NotAName is stays = faulty facts verbose line old new NotAName is stays
refused_line facts verbose line old new NotAReference is stays = faulty facts verbose line old new NotAReference is stays
refused_line facts verbose line old new OtherKind is stays = faulty facts verbose line old new OtherKind is stays
refused_line facts verbose line old new UnknownName is stays = faulty facts verbose line old new UnknownName is stays
refused_line facts verbose line old new NothingAdded is stays = faulty facts verbose line old new NothingAdded is stays
refused_line facts verbose line old new NumberTooLarge is stays = faulty facts verbose line old new NumberTooLarge is stays
refused_line facts verbose line old new NothingThere is stays = faulty facts verbose line old new NothingThere is stays
refused_line facts verbose line old new NotALet is stays = faulty facts verbose line old new NotALet is stays
refused_line facts verbose line old new NotANumber is stays = faulty facts verbose line old new NotANumber is stays
refused_line facts verbose line old new NotWhole is stays = faulty facts verbose line old new NotWhole is stays
refused_line facts verbose line old new TooGreat is stays = faulty facts verbose line old new TooGreat is stays
refused_line facts verbose line old new TooDeep is stays = faulty facts verbose line old new TooDeep is stays
refused_line facts verbose line old new NotALoop is stays = faulty facts verbose line old new NotALoop is stays
refused_line facts verbose line old new NotAnAt is stays = faulty facts verbose line old new NotAnAt is stays
refused_line facts verbose line old new NotADefine is stays = faulty facts verbose line old new NotADefine is stays
refused_line facts verbose line old new NotItsWords is stays = faulty facts verbose line old new NotItsWords is stays
refused_line facts verbose line old new OutsideMap is stays = faulty facts verbose line old new OutsideMap is stays
refused_line facts verbose line old new NotAQuarter is stays = faulty facts verbose line old new NotAQuarter is stays
refused_line facts verbose line old new OpenBlock is stays = faulty facts verbose line old new OpenBlock is stays
refused_line facts verbose line old new TooManyLines is stays = faulty facts verbose line old new TooManyLines is stays
refused_line facts verbose line old new OutOfMemory is stays = inr (refl, stays)

-- a line that stands for a text
pub resolved_line : {S : Type 0} (facts : Ghosts S) (verbose : Bool) (line : ℕ × List ℕ) (old new : Sketch S) (refusal : Option ℕ) (text : List ℕ)
    → line_for old.names (current_map (facts.maps_in old.canvas)) line.1 ≡ Ok text → DrawsText facts verbose line old refusal new text → DrawsOther facts verbose line old refusal new
resolved_line facts verbose line old new refusal text is drawn = inl (rw is drawn)

-- its text is a command
pub tried_text : {S : Type 0} (facts : Ghosts S) (verbose : Bool) (line : ℕ × List ℕ) (old new : Sketch S) (refusal : Option ℕ) (text : List ℕ)
    → asks facts line.1 text ≡ false → IsTried facts verbose line text old refusal new → DrawsText facts verbose line old refusal new text
tried_text facts verbose line old new refusal text is tried = rw is tried

-- a line that was done, though what it answered was not said or kept
pub tried_unsaid : {S : Type 0} (facts : Ghosts S) (verbose : Bool) (line : ℕ × List ℕ) (text : List ℕ) (old : Sketch S) (canvas : S) (n : ℕ)
    (firsts : Firsts) → Does facts text old.canvas (Ok n) canvas → Added text (facts.maps_in old.canvas) (facts.maps_in canvas) firsts
    → (new : Sketch S) × IsTried facts verbose line text old None new × (canvas ≡ new.canvas)
tried_unsaid {S} facts verbose line text old canvas n firsts done adds =
    let said : List ℕ = noted_text verbose line.0 n in
    let numbers : Numbers = record { answer = n; firsts = firsts } in
    let new : Sketch S = sketch_of canvas (with_given_name (name_in (text_words line.1)) numbers (referent_of (text_words text)) old.names) (append_known old.written said) in (
      new,
      (Ok n, done, (refl, Appends-known old.written said, (firsts, adds, refl))),
      refl,
    )

-- how a line ends whose text is a command
pub ended_line : {S : Type 0} (facts : Ghosts S) (verbose : Bool) (line : ℕ × List ℕ) (old new : Sketch S) (canvas : S) (text : List ℕ)
    (r : Result (Option ℕ) ScriptError) → line_for old.names (current_map (facts.maps_in old.canvas)) line.1 ≡ Ok text → asks facts line.1 text ≡ false
    → MatchResult r (λ refusal. IsTried facts verbose line text old refusal new)
    (λ e. ((e ≡ cut.OutOfMemory) ⊎ (e ≡ cut.WriterFailed)) × ((x : Sketch S) × IsTried facts verbose line text old None x × (canvas ≡ x.canvas)))
    → MatchResult r (λ refusal. DrawsOther facts verbose line old refusal new)
    (λ e. ((e ≡ cut.OutOfMemory) ⊎ (e ≡ cut.WriterFailed))
    × (facts.settles old.canvas canvas ⊎ ((x : Sketch S) × DrawsOther facts verbose line old None x × (canvas ≡ x.canvas))))
ended_line facts verbose line old new canvas text (Ok refusal) is none tried =
    resolved_line facts verbose line old new refusal text is (tried_text facts verbose line old new refusal text none tried)
ended_line facts verbose line old new canvas text (Err e) is none (cause, (x, tried, at)) =
    (cause, inr (x, resolved_line facts verbose line old x None text is (tried_text facts verbose line old x None text none tried), at))

-- ---- Words that are given a name

-- words that were given a name
pub given_words : {S : Type 0} (facts : Ghosts S) (words : List (List ℕ)) (canvas : S) (old new : Scope)
    → names_after old (current_map (facts.maps_in canvas)) words ≡ Ok new → GivesWords facts words canvas old None new
given_words facts words canvas old new is = inl (rw is (refl, refl))

not-given : {S : Type 0} (facts : Ghosts S) (words : List (List ℕ)) (canvas : S) (old new : Scope) (e : DrawError)
    → names_after old (current_map (facts.maps_in canvas)) words ≡ Err e → new ≡ old → GivesWords facts words canvas old (Some (code_of e)) new
not-given facts words canvas old new e is same = inl (rw is (refl, same))

-- words that were refused a name
pub refused_words : {S : Type 0} (facts : Ghosts S) (words : List (List ℕ)) (canvas : S) (old new : Scope) (e : DrawError)
    → TellsScriptFault e (names_after old (current_map (facts.maps_in canvas)) words) → new ≡ old
    → GivesWords facts words canvas old (Some (code_of e)) new
refused_words facts words canvas old new NotALet is same = not-given facts words canvas old new NotALet is same
refused_words facts words canvas old new NotAName is same = not-given facts words canvas old new NotAName is same
refused_words facts words canvas old new NotAReference is same = not-given facts words canvas old new NotAReference is same
refused_words facts words canvas old new OtherKind is same = not-given facts words canvas old new OtherKind is same
refused_words facts words canvas old new UnknownName is same = not-given facts words canvas old new UnknownName is same
refused_words facts words canvas old new NothingAdded is same = not-given facts words canvas old new NothingAdded is same
refused_words facts words canvas old new NumberTooLarge is same = not-given facts words canvas old new NumberTooLarge is same
refused_words facts words canvas old new NothingThere is same = not-given facts words canvas old new NothingThere is same
refused_words facts words canvas old new NotANumber is same = not-given facts words canvas old new NotANumber is same
refused_words facts words canvas old new NotWhole is same = not-given facts words canvas old new NotWhole is same
refused_words facts words canvas old new TooGreat is same = not-given facts words canvas old new TooGreat is same
refused_words facts words canvas old new TooDeep is same = not-given facts words canvas old new TooDeep is same
refused_words facts words canvas old new NotALoop is same = not-given facts words canvas old new NotALoop is same
refused_words facts words canvas old new NotAnAt is same = not-given facts words canvas old new NotAnAt is same
refused_words facts words canvas old new NotADefine is same = not-given facts words canvas old new NotADefine is same
refused_words facts words canvas old new NotItsWords is same = not-given facts words canvas old new NotItsWords is same
refused_words facts words canvas old new OutsideMap is same = not-given facts words canvas old new OutsideMap is same
refused_words facts words canvas old new NotAQuarter is same = not-given facts words canvas old new NotAQuarter is same
refused_words facts words canvas old new OpenBlock is same = not-given facts words canvas old new OpenBlock is same
refused_words facts words canvas old new TooManyLines is same = not-given facts words canvas old new TooManyLines is same
refused_words facts words canvas old new OutOfMemory is same = inr (refl, same)

-- a line that gives words a name
pub let_line : {S : Type 0} (facts : Ghosts S) (verbose : Bool) (line : ℕ × List ℕ) (old new : Sketch S) (refusal : Option ℕ) (words : List (List ℕ))
    → let_words (text_words line.1) ≡ Some words → DrawsLet facts words old refusal new → DrawsLine facts verbose line old refusal new
let_line facts verbose line old new refusal words is drawn = rw is drawn

-- another line
other_line : {S : Type 0} (facts : Ghosts S) (verbose : Bool) (line : ℕ × List ℕ) (old new : Sketch S) (refusal : Option ℕ)
    → let_words (text_words line.1) ≡ None → DrawsOther facts verbose line old refusal new → DrawsLine facts verbose line old refusal new
other_line facts verbose line old new refusal is drawn = rw is drawn

-- how another line ends
pub other_ends : {S : Type 0} (facts : Ghosts S) (verbose : Bool) (line : ℕ × List ℕ) (old new : Sketch S) (canvas : S) (r : Result (Option ℕ) ScriptError)
    → let_words (text_words line.1) ≡ None
    → MatchResult r (λ refusal. DrawsOther facts verbose line old refusal new)
    (λ e. ((e ≡ cut.OutOfMemory) ⊎ (e ≡ cut.WriterFailed))
    × (facts.settles old.canvas canvas ⊎ ((x : Sketch S) × DrawsOther facts verbose line old None x × (canvas ≡ x.canvas))))
    → MatchResult r (λ refusal. DrawsLine facts verbose line old refusal new)
    (λ e. ((e ≡ cut.OutOfMemory) ⊎ (e ≡ cut.WriterFailed))
    × (facts.settles old.canvas canvas ⊎ ((x : Sketch S) × DrawsLine facts verbose line old None x × (canvas ≡ x.canvas))))
other_ends facts verbose line old new canvas (Ok refusal) is drawn = other_line facts verbose line old new refusal is drawn
other_ends facts verbose line old new canvas (Err e) is (cause, inl same) = (cause, inl same)
other_ends facts verbose line old new canvas (Err e) is (cause, inr (x, drawn, at)) = (cause, inr (x, other_line facts verbose line old x None is drawn, at))
