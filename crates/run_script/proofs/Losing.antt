-- What a line leaves to wait, and what is told where that is lost.
use Rattle.std.proofs.Common.{◌≡◌, ◌∙◌, ◌⊎◌, inl, inr, ℕ, ◌<◌, Bool, true, false, List, [], ◌∷◌, ◌++◌, Option, Some, None, Result, Ok, Err, refl, sym, ap, subst, append_assoc, append-nil, arith}
use Rattle.std.specs.Prelude.{MatchOption, MatchResult}
use Rattle.std.specs.Io.KnownBytes.{Appends, Keeps}
use Rattle.std.proofs.KnownBytes.{Keeps-refl}
use Rattle.std.proofs.lemmas.Bool.{true≢false}
use Rattle.map_commands.specs.declared.command.Command.{Command}
use Rattle.map_script.specs.Errors.{code_of}
use Rattle.map_script.specs.Lines.{let_words, line_for}
use Rattle.map_script.specs.Words.{text_words}
use Rattle.map_script.specs.declared.error.DrawError.{DrawError}
use Rattle.map_shapes.specs.Shapes.{is_shape_line}
use Rattle.map_tables.specs.Projects.{current_map}
use Rattle.map_blocks.specs.Defined.{Shape}
use Rattle.run_script.specs.Drawn.{Advances, AdvancesOver, DrawsNext, Progress, at_position, opened_by}
use Rattle.run_script.specs.Given.{GivesWords}
use Rattle.run_script.specs.Lines.{Does, DrawsLet, DrawsLine, DrawsOther, DrawsText, IsQueryTold, IsTried, Sketch, Stays, asks, sketch_of}
use Rattle.run_canvas.specs.Canvases.{OneOf}
use Rattle.run_script.specs.Shaped.{DoesAll, DrawsShape, IsPlanned, StopsAmong, command_lines}
use Rattle.run_script.specs.Turns.{EndsTurn, OpensBlock, Position}
use Rattle.run_canvas.specs.declared.canvas.Canvas.{Ghosts}

err_some : (n : ℕ) → ◌≡◌ {A = Option ℕ} None (Some n) → ⊥
err_some n is = cc

some_is : (a b : ℕ) → ◌≡◌ {A = Option ℕ} (Some a) (Some b) → a ≡ b
some_is a b is = cc

kept-nil : (a b : Option (List ℕ)) → Appends a b [] → Keeps a b
kept-nil None b is = tt
kept-nil (Some xs) None is = absurd is
kept-nil (Some xs) (Some ys) is = is ∙ append-nil xs

-- the laws of a canvas that are cited here
abbrev pub Since : {S : Type 0} → Ghosts S → Type 0
Since {S = S} facts = (old new last : S) (line : List ℕ) (outcome : Result ℕ ℕ) → facts.changes old line outcome new → facts.loses new last
    → ((facts.holds_earlier new ≡ facts.holds_earlier old) × facts.loses old last)
    ⊎ ((facts.holds_earlier new ≡ false) × (facts.is_alone old ≡ false) × facts.changes old line (Err 30) last)

abbrev pub Within : {S : Type 0} → Ghosts S → Type 0
Within {S = S} facts = (old new : S) (line : List ℕ) (code : ℕ) → facts.changes old line (Err code) new → facts.has_lost new ≡ true
    → (facts.has_lost old ≡ true) ⊎ ((code ≡ 30) × (facts.holds_earlier old ≡ true) × facts.loses old new)

abbrev pub Alone : {S : Type 0} → Ghosts S → Type 0
Alone {S = S} facts = (old new : S) (line : List ℕ) (number : ℕ) → facts.changes old line (Ok number) new
    → (facts.is_alone new ≡ facts.is_alone old) × (facts.has_lost new ≡ facts.has_lost old)

abbrev pub RoomMade : {S : Type 0} → Ghosts S → Type 0
RoomMade {S = S} facts = (old new : S) (lines : List (List ℕ)) → facts.makes_room old lines None new
    → (facts.is_alone new ≡ facts.is_alone old) × (facts.has_lost new ≡ facts.has_lost old)
    × ((last : S) → facts.loses new last → (facts.holds_earlier new ≡ facts.holds_earlier old) × facts.loses old last)

abbrev pub RoomRefused : {S : Type 0} → Ghosts S → Type 0
RoomRefused {S = S} facts = (old new : S) (lines : List (List ℕ)) (code : ℕ) → facts.makes_room old lines (Some code) new
    → ((last : S) → ¬ facts.loses new last)
    × (facts.has_lost new ≡ true → (facts.has_lost old ≡ true) ⊎ ((code ≡ 30) × (facts.holds_earlier old ≡ true) × facts.loses old new))

abbrev pub ToldAll : {S : Type 0} → Ghosts S → Type 0
ToldAll {S = S} facts = (old new last : S) (line : List ℕ) (refusal : Option ℕ) (u w : Option (List ℕ)) → facts.tells old line refusal new u w → ¬ facts.loses new last

abbrev pub LossTold : {S : Type 0} → Ghosts S → Type 0
LossTold {S = S} facts = (old new : S) (line : List ℕ) (code : ℕ) (u w : Option (List ℕ)) → facts.tells old line (Some code) new u w → facts.has_lost new ≡ true
    → (facts.has_lost old ≡ true) ⊎ ((code ≡ 30) × (facts.holds_earlier old ≡ true) × facts.loses old new × Keeps u w)

module _ {S : Type 0} (facts : Ghosts S) (since : Since facts) (within : Within facts) (alone : Alone facts) (made : RoomMade facts) (refused : RoomRefused facts) (told_all : ToldAll facts) (loss_told : LossTold facts) where
  -- what waits after these was lost: what waited before, or else a part of these first
  abbrev pub Lost : S → S → S → Type 0 → Type 0
  Lost old new last P = ((facts.holds_earlier new ≡ facts.holds_earlier old) × facts.loses old last)
      ⊎ ((facts.holds_earlier new ≡ false) × (facts.is_alone old ≡ false) × P)

  abbrev pub LostIn : ℕ → S → S → Type 0 → Type 0
  LostIn code old new P = (facts.has_lost old ≡ true) ⊎ ((code ≡ 30) × (facts.holds_earlier old ≡ true) × facts.loses old new × P)

  same_lost : (old new last : S) (P : Type 0) → new ≡ old → facts.loses new last → Lost old new last P
  same_lost old new last P same lost = inl (ap (λ (s : S). facts.holds_earlier s) same, subst (λ (s : S). facts.loses s last) same lost)

  same_in : (code : ℕ) (old new : S) (P : Type 0) → new ≡ old → facts.has_lost new ≡ true → LostIn code old new P
  same_in code old new P same lost = inl (sym (ap (λ (s : S). facts.has_lost s) same) ∙ lost)

  -- ---- A shape

  flags_all : (ls : List (List ℕ)) (old new : S) → DoesAll facts ls old new → (facts.is_alone new ≡ facts.is_alone old) × (facts.has_lost new ≡ facts.has_lost old)
  flags_all [] old new same = (ap (λ (s : S). facts.is_alone s) same, ap (λ (s : S). facts.has_lost s) same)
  flags_all (l ∷ ls) old new (mid, (n, changed), rest) =
      let first = alone old mid l n changed in
      let others = flags_all ls mid new rest in
      (others.0 ∙ first.0, others.1 ∙ first.1)

  stops_behind : (l : List ℕ) (ls : List (List ℕ)) (old mid last : S) (n : ℕ) → facts.changes old l (Ok n) mid → StopsAmong facts ls mid 30 last
      → StopsAmong facts (l ∷ ls) old 30 last
  stops_behind l ls old mid last n changed (m, front, d, back, is, does, stop) =
      (m, l ∷ front, d, back, ap (λ (xs : List (List ℕ)). l ∷ xs) is, (mid, (n, changed), does), stop)

  stops_before : (front more all : List (List ℕ)) (old last : S) → all ≡ front ++ more → StopsAmong facts front old 30 last → StopsAmong facts all old 30 last
  stops_before front more all old last whole (m, fore, d, back, is, does, stop) =
      (m, fore, d, back ++ more, whole ∙ ap (λ (xs : List (List ℕ)). xs ++ more) is ∙ append_assoc fore (d ∷ back) more, does, stop)

  all_lost : (ls : List (List ℕ)) (old new last : S) → DoesAll facts ls old new → facts.loses new last → Lost old new last (StopsAmong facts ls old 30 last)
  all_lost [] old new last same lost = same_lost old new last _ same lost
  all_lost (l ∷ ls) old new last (mid, (n, changed), rest) lost = go (all_lost ls mid new last rest lost)
    where
      next : facts.holds_earlier new ≡ facts.holds_earlier mid → Lost old mid last (facts.changes old l (Err 30) last)
          → Lost old new last (StopsAmong facts (l ∷ ls) old 30 last)
      next same (inl (before, gone)) = inl (same ∙ before, gone)
      next same (inr (none, together, change)) = inr (same ∙ none, together, (old, [], l, ls, refl, refl, change))

      go : Lost mid new last (StopsAmong facts ls mid 30 last) → Lost old new last (StopsAmong facts (l ∷ ls) old 30 last)
      go (inl (same, gone)) = next same (since old mid last l (Ok n) changed gone)
      go (inr (none, together, stops)) = inr (none, sym (alone old mid l n changed).0 ∙ together, stops_behind l ls old mid last n changed stops)

  -- commands that were done before one that was refused
  front_lost : (ls front back : List (List ℕ)) (l : List ℕ) (old mid new last : S) (code : ℕ) → ls ≡ front ++ l ∷ back → DoesAll facts front old mid
      → facts.changes mid l (Err code) new → facts.loses new last → Lost old new last (StopsAmong facts ls old 30 last)
  front_lost ls front back l old mid new last code is does change lost = changed (since mid new last l (Err code) change lost)
    where
      whole : facts.holds_earlier new ≡ facts.holds_earlier mid → Lost old mid last (StopsAmong facts front old 30 last) → Lost old new last (StopsAmong facts ls old 30 last)
      whole same (inl (before, gone)) = inl (same ∙ before, gone)
      whole same (inr (none, together, stops)) = inr (same ∙ none, together, stops_before front (l ∷ back) ls old last is stops)

      changed : Lost mid new last (facts.changes mid l (Err 30) last) → Lost old new last (StopsAmong facts ls old 30 last)
      changed (inl (same, gone)) = whole same (all_lost front old mid last does gone)
      changed (inr (none, together, change)) = inr (none, sym (flags_all front old mid does).0 ∙ together, (mid, front, l, back, is, does, change))

  -- the same behind room that was made
  behind_room : (line : List ℕ) (commands : List Command) (answer : ℕ) (old mid new last : S) → IsPlanned (facts.maps_in old) (facts.cap_in old) line commands answer
      → facts.makes_room old (command_lines commands) None mid → Lost mid new last (StopsAmong facts (command_lines commands) mid 30 last)
      → Lost old new last (DrawsShape facts line old (Err 30) last)
  behind_room line commands answer old mid new last planned room (inl (same, gone)) =
      let (before, lost) = (made old mid (command_lines commands) room).2 last gone in
      inl (same ∙ before, lost)
  behind_room line commands answer old mid new last planned room (inr (none, together, stops)) =
      inr (none, sym (made old mid (command_lines commands) room).0 ∙ together, inr (commands, answer, planned, inr (mid, room, stops)))

  shape_lost : (line : List ℕ) (old new last : S) (outcome : Result ℕ ℕ) → DrawsShape facts line old outcome new → facts.loses new last
      → Lost old new last (DrawsShape facts line old (Err 30) last)
  shape_lost line old new last (Ok answer) (commands, planned, mid, room, does) lost =
      behind_room line commands answer old mid new last planned room (all_lost (command_lines commands) mid new last does lost)
  shape_lost line old new last (Err code) (inl (whole, same)) lost = same_lost old new last _ same lost
  shape_lost line old new last (Err code) (inr (commands, answer, planned, inl none)) lost = absurd ((refused old new (command_lines commands) code none).0 last lost)
  shape_lost line old new last (Err code) (inr (commands, answer, planned, inr (start, room, (mid, front, l, back, is, does, stop)))) lost =
      behind_room line commands answer old start new last planned room (front_lost (command_lines commands) front back l start mid new last code is does stop lost)

  shape_in : (line : List ℕ) (old new : S) (code : ℕ) → DrawsShape facts line old (Err code) new → facts.has_lost new ≡ true → LostIn code old new (Unit {0})
  shape_in line old new code (inl (whole, same)) lost = same_in code old new _ same lost
  shape_in line old new code (inr (commands, answer, planned, inl none)) lost = go ((refused old new (command_lines commands) code none).1 lost)
    where
      go : (facts.has_lost old ≡ true) ⊎ ((code ≡ 30) × (facts.holds_earlier old ≡ true) × facts.loses old new) → LostIn code old new (Unit {0})
      go (inl before) = inl before
      go (inr (thirty, waits, gone)) = inr (thirty, waits, gone, tt)
  shape_in line old new code (inr (commands, answer, planned, inr (start, room, (mid, front, l, back, is, does, change)))) lost = go (within mid new l code change lost)
    where
      next : code ≡ 30 → facts.holds_earlier mid ≡ true → Lost start mid new (StopsAmong facts front start 30 new) → LostIn code old new (Unit {0})
      next thirty waits (inl (same, gone)) =
          let (before, lost) = (made old start (command_lines commands) room).2 new gone in
          inr (thirty, sym (same ∙ before) ∙ waits, lost, tt)
      next thirty waits (inr (none, together, stops)) = absurd (true≢false (sym waits ∙ none))

      go : (facts.has_lost mid ≡ true) ⊎ ((code ≡ 30) × (facts.holds_earlier mid ≡ true) × facts.loses mid new) → LostIn code old new (Unit {0})
      go (inl before) = inl (sym (made old start (command_lines commands) room).1 ∙ sym (flags_all front start mid does).1 ∙ before)
      go (inr (thirty, waits, gone)) = next thirty waits (all_lost front start mid new does gone)

  -- ---- A line

  does_lost : (b : Bool) (text : List ℕ) (old new last : S) (outcome : Result ℕ ℕ) → OneOf b (DrawsShape facts text old outcome new) (facts.changes old text outcome new)
      → facts.loses new last → Lost old new last (OneOf b (DrawsShape facts text old (Err 30) last) (facts.changes old text (Err 30) last))
  does_lost true text old new last outcome drawn lost = shape_lost text old new last outcome drawn lost
  does_lost false text old new last outcome changed lost = since old new last text outcome changed lost

  does_in : (b : Bool) (text : List ℕ) (old new : S) (code : ℕ) → OneOf b (DrawsShape facts text old (Err code) new) (facts.changes old text (Err code) new)
      → facts.has_lost new ≡ true → LostIn code old new (Unit {0})
  does_in true text old new code drawn lost = shape_in text old new code drawn lost
  does_in false text old new code changed lost = go (within old new text code changed lost)
    where
      go : (facts.has_lost old ≡ true) ⊎ ((code ≡ 30) × (facts.holds_earlier old ≡ true) × facts.loses old new) → LostIn code old new (Unit {0})
      go (inl before) = inl before
      go (inr (thirty, waits, gone)) = inr (thirty, waits, gone, tt)

  -- the writer has what it had, if no answer to a command is written, and what waits was lost
  abbrev pub LostOf : Bool → Sketch S → Sketch S → S → (Option (List ℕ) → Type 0) → Type 0
  LostOf verbose old new last P = (verbose ≡ false → Keeps old.written new.written)
      × Lost old.canvas new.canvas last ((w : Option (List ℕ)) → Keeps old.written w → P w)

  abbrev pub InLost : ℕ → Sketch S → Sketch S → Type 0
  InLost code old new = LostIn code old.canvas new.canvas (Keeps old.written new.written)

  tried_kept : (verbose : Bool) (line : ℕ × List ℕ) (text : List ℕ) (old new : Sketch S) (refusal : Option ℕ) → IsTried facts verbose line text old refusal new
      → verbose ≡ false → Keeps old.written new.written
  tried_kept true line text old new refusal tried is = absurd (true≢false is)
  tried_kept false line text old new refusal (Err code, does, (same, names, kept)) is = kept
  tried_kept false line text old new refusal (Ok n, does, (same, appends, rest)) is = kept-nil old.written new.written appends

  tried_lost : (verbose : Bool) (line : ℕ × List ℕ) (text : List ℕ) (old new : Sketch S) (refusal : Option ℕ) (last : S) → IsTried facts verbose line text old refusal new
      → facts.loses new.canvas last → LostOf verbose old new last (λ w. IsTried facts verbose line text old (Some 30) (sketch_of last old.names w))
  tried_lost verbose line text old new refusal last (outcome, does, ends) lost =
      (tried_kept verbose line text old new refusal (outcome, does, ends), go (does_lost (is_shape_line text) text old.canvas new.canvas last outcome does lost))
    where
      go : Lost old.canvas new.canvas last (Does facts text old.canvas (Err 30) last)
          → Lost old.canvas new.canvas last ((w : Option (List ℕ)) → Keeps old.written w → IsTried facts verbose line text old (Some 30) (sketch_of last old.names w))
      go (inl before) = inl before
      go (inr (none, together, done)) = inr (none, together, λ w kept. (Err 30, done, (refl, refl, kept)))

  tried_in : (verbose : Bool) (line : ℕ × List ℕ) (text : List ℕ) (old new : Sketch S) (code : ℕ) → IsTried facts verbose line text old (Some code) new
      → facts.has_lost new.canvas ≡ true → InLost code old new
  tried_in verbose line text old new code (Ok n, does, (is, said, rest)) lost = absurd (err_some code (sym is))
  tried_in verbose line text old new code (Err other, does, (is, names, kept)) lost = go (does_in (is_shape_line text) text old.canvas new.canvas other does lost)
    where
      go : LostIn other old.canvas new.canvas (Unit {0}) → InLost code old new
      go (inl before) = inl before
      go (inr (thirty, waits, gone, u)) = inr (some_is code other is ∙ thirty, waits, gone, kept)

  text_lost : (b verbose : Bool) (line : ℕ × List ℕ) (text : List ℕ) (old new : Sketch S) (refusal : Option ℕ) (last : S)
      → OneOf b (IsQueryTold facts text old refusal new) (IsTried facts verbose line text old refusal new) → facts.loses new.canvas last
      → LostOf verbose old new last (λ w. OneOf b (IsQueryTold facts text old (Some 30) (sketch_of last old.names w)) (IsTried facts verbose line text old (Some 30) (sketch_of last old.names w)))
  text_lost true verbose line text old new refusal last (tells, names) lost = absurd (told_all old.canvas new.canvas last text refusal old.written new.written tells lost)
  text_lost false verbose line text old new refusal last tried lost = tried_lost verbose line text old new refusal last tried lost

  text_in : (b verbose : Bool) (line : ℕ × List ℕ) (text : List ℕ) (old new : Sketch S) (code : ℕ)
      → OneOf b (IsQueryTold facts text old (Some code) new) (IsTried facts verbose line text old (Some code) new) → facts.has_lost new.canvas ≡ true → InLost code old new
  text_in true verbose line text old new code (tells, names) lost = loss_told old.canvas new.canvas text code old.written new.written tells lost
  text_in false verbose line text old new code tried lost = tried_in verbose line text old new code tried lost

  -- what a line may be that gives no words a name
  abbrev Others : Bool → ℕ × List ℕ → Sketch S → Option ℕ → Sketch S → Result (List ℕ) DrawError → Type 0
  Others verbose line old refusal new r =
      MatchResult r (DrawsText facts verbose line old refusal new) (λ fault. (refusal ≡ Some (code_of fault)) × Stays old new) ⊎ ((refusal ≡ Some 31) × Stays old new)

  stays_lost : (verbose : Bool) (old new : Sketch S) (last : S) (P : Option (List ℕ) → Type 0) → new.canvas ≡ old.canvas → Keeps old.written new.written
      → facts.loses new.canvas last → LostOf verbose old new last P
  stays_lost verbose old new last P same kept lost = (λ is. kept, same_lost old.canvas new.canvas last _ same lost)

  other_lost : (verbose : Bool) (line : ℕ × List ℕ) (old new : Sketch S) (refusal : Option ℕ) (last : S) (r : Result (List ℕ) DrawError) → Others verbose line old refusal new r
      → facts.loses new.canvas last → LostOf verbose old new last (λ w. Others verbose line old (Some 30) (sketch_of last old.names w) r)
  other_lost verbose line old new refusal last r (inr (is, stays)) lost = stays_lost verbose old new last _ stays.canvas stays.written lost
  other_lost verbose line old new refusal last (Err fault) (inl (is, stays)) lost = stays_lost verbose old new last _ stays.canvas stays.written lost
  other_lost verbose line old new refusal last (Ok text) (inl drawn) lost = go (text_lost (asks facts line.1 text) verbose line text old new refusal last drawn lost)
    where
      go : LostOf verbose old new last (λ w. DrawsText facts verbose line old (Some 30) (sketch_of last old.names w) text)
          → LostOf verbose old new last (λ w. Others verbose line old (Some 30) (sketch_of last old.names w) (Ok text))
      go (kept, inl before) = (kept, inl before)
      go (kept, inr (none, together, make)) = (kept, inr (none, together, λ w keeps. inl (make w keeps)))

  other_in : (verbose : Bool) (line : ℕ × List ℕ) (old new : Sketch S) (code : ℕ) (r : Result (List ℕ) DrawError) → Others verbose line old (Some code) new r
      → facts.has_lost new.canvas ≡ true → InLost code old new
  other_in verbose line old new code r (inr (is, stays)) lost = same_in code old.canvas new.canvas _ stays.canvas lost
  other_in verbose line old new code (Err fault) (inl (is, stays)) lost = same_in code old.canvas new.canvas _ stays.canvas lost
  other_in verbose line old new code (Ok text) (inl drawn) lost = text_in (asks facts line.1 text) verbose line text old new code drawn lost

  abbrev Lines : Bool → ℕ × List ℕ → Sketch S → Option ℕ → Sketch S → Option (List (List ℕ)) → Type 0
  Lines verbose line old refusal new o = MatchOption o (DrawsOther facts verbose line old refusal new) (λ words. DrawsLet facts words old refusal new)

  line_lost : (verbose : Bool) (line : ℕ × List ℕ) (old new : Sketch S) (refusal : Option ℕ) (last : S) (o : Option (List (List ℕ))) → Lines verbose line old refusal new o
      → facts.loses new.canvas last → LostOf verbose old new last (λ w. Lines verbose line old (Some 30) (sketch_of last old.names w) o)
  line_lost verbose line old new refusal last (Some words) (gives, same, kept) lost = stays_lost verbose old new last _ same kept lost
  line_lost verbose line old new refusal last None drawn lost =
      other_lost verbose line old new refusal last (line_for old.names (current_map (facts.maps_in old.canvas)) line.1) drawn lost

  line_in : (verbose : Bool) (line : ℕ × List ℕ) (old new : Sketch S) (code : ℕ) (o : Option (List (List ℕ))) → Lines verbose line old (Some code) new o
      → facts.has_lost new.canvas ≡ true → InLost code old new
  line_in verbose line old new code (Some words) (gives, same, kept) lost = same_in code old.canvas new.canvas _ same lost
  line_in verbose line old new code None drawn lost =
      other_in verbose line old new code (line_for old.names (current_map (facts.maps_in old.canvas)) line.1) drawn lost

  -- ---- A line or the end of a turn

  -- the progress with the first of these lines refused so
  abbrev pub refused_at : List (ℕ × (ℕ × List ℕ)) → Progress S → S → Option (List ℕ) → Progress S
  refused_at lines old last w = record { sketch = sketch_of last old.sketch.names w; lines = lines; turns = old.turns }

  abbrev pub StepOf : Bool → List Shape → List (ℕ × (ℕ × List ℕ)) → Progress S → S → Option (List ℕ) → Type 0
  StepOf verbose shapes lines old last w = (x : Progress S) × AdvancesOver facts verbose shapes lines old (Some 30) x × (x.sketch.canvas ≡ last) × (x.sketch.written ≡ w)

  placed_lost : (verbose : Bool) (shapes : List Shape) (lines : List (ℕ × (ℕ × List ℕ))) (old new : Progress S) (at : Position) (last : S) → new ≡ at_position old.sketch at → facts.loses new.sketch.canvas last
      → LostOf verbose old.sketch new.sketch last (λ w. StepOf verbose shapes lines old last w)
  placed_lost verbose shapes lines old new at last is lost =
      stays_lost verbose old.sketch new.sketch last _ (ap (λ (p : Progress S). p.sketch.canvas) is)
      (subst (λ (w : Option (List ℕ)). Keeps old.sketch.written w) (sym (ap (λ (p : Progress S). p.sketch.written) is)) (Keeps-refl old.sketch.written)) lost

  next_lost : (verbose : Bool) (shapes : List Shape) (l : ℕ × (ℕ × List ℕ)) (ls : List (ℕ × (ℕ × List ℕ))) (old new : Progress S) (refusal : Option ℕ) (last : S) (o : Option (Result Position DrawError))
      → opened_by facts shapes l ls old ≡ o
      → MatchOption o (DrawsNext facts verbose l.1 ls old refusal new) (λ outcome. (at : Position) × OpensBlock outcome old.sketch.names refusal at × (new ≡ at_position old.sketch at))
      → facts.loses new.sketch.canvas last → LostOf verbose old.sketch new.sketch last (λ w. StepOf verbose shapes (l ∷ ls) old last w)
  next_lost verbose shapes l ls old new refusal last (Some outcome) is (at, opens, same) lost = placed_lost verbose shapes (l ∷ ls) old new at last same lost
  next_lost verbose shapes l ls old new refusal last None is (drawn, lines, turns) lost = go (line_lost verbose l.1 old.sketch new.sketch refusal last (let_words (text_words l.1.1)) drawn lost)
    where
      step : (w : Option (List ℕ)) → DrawsLine facts verbose l.1 old.sketch (Some 30) (sketch_of last old.sketch.names w) → AdvancesOver facts verbose shapes (l ∷ ls) old (Some 30) (refused_at ls old last w)
      step w line = subst (λ (o : Option (Result Position DrawError)). MatchOption o (DrawsNext facts verbose l.1 ls old (Some 30) (refused_at ls old last w))
          (λ outcome. (at : Position) × OpensBlock outcome old.sketch.names (Some 30) at × (refused_at ls old last w ≡ at_position old.sketch at))) (sym is) (line, refl, refl)

      go : LostOf verbose old.sketch new.sketch last (λ w. DrawsLine facts verbose l.1 old.sketch (Some 30) (sketch_of last old.sketch.names w))
          → LostOf verbose old.sketch new.sketch last (λ w. StepOf verbose shapes (l ∷ ls) old last w)
      go (kept, inl before) = (kept, inl before)
      go (kept, inr (none, together, make)) = (kept, inr (none, together, λ w keeps. (refused_at ls old last w, step w (make w keeps), refl, refl)))

  over_lost : (verbose : Bool) (shapes : List Shape) (lines : List (ℕ × (ℕ × List ℕ))) (old new : Progress S) (refusal : Option ℕ) (last : S) → AdvancesOver facts verbose shapes lines old refusal new
      → facts.loses new.sketch.canvas last → LostOf verbose old.sketch new.sketch last (λ w. StepOf verbose shapes lines old last w)
  over_lost verbose shapes [] old new refusal last (at, ends, same) lost = placed_lost verbose shapes [] old new at last same lost
  over_lost verbose shapes (l ∷ ls) old new refusal last drawn lost = next_lost verbose shapes l ls old new refusal last (opened_by facts shapes l ls old) refl drawn lost

  pub advance_lost : (verbose : Bool) (shapes : List Shape) (old new : Progress S) (refusal : Option ℕ) (last : S) → Advances facts verbose shapes old refusal new → facts.loses new.sketch.canvas last
      → LostOf verbose old.sketch new.sketch last (λ w. StepOf verbose shapes old.lines old last w)
  advance_lost verbose shapes old new refusal last drawn lost = over_lost verbose shapes old.lines old new refusal last drawn lost

  placed_in : (old new : Progress S) (at : Position) (code : ℕ) → new ≡ at_position old.sketch at → facts.has_lost new.sketch.canvas ≡ true → InLost code old.sketch new.sketch
  placed_in old new at code is lost = same_in code old.sketch.canvas new.sketch.canvas _ (ap (λ (p : Progress S). p.sketch.canvas) is) lost

  next_in : (verbose : Bool) (shapes : List Shape) (l : ℕ × (ℕ × List ℕ)) (ls : List (ℕ × (ℕ × List ℕ))) (old new : Progress S) (code : ℕ) (o : Option (Result Position DrawError))
      → MatchOption o (DrawsNext facts verbose l.1 ls old (Some code) new) (λ outcome. (at : Position) × OpensBlock outcome old.sketch.names (Some code) at × (new ≡ at_position old.sketch at))
      → facts.has_lost new.sketch.canvas ≡ true → InLost code old.sketch new.sketch
  next_in verbose shapes l ls old new code (Some outcome) (at, opens, same) lost = placed_in old new at code same lost
  next_in verbose shapes l ls old new code None (drawn, lines, turns) lost = line_in verbose l.1 old.sketch new.sketch code (let_words (text_words l.1.1)) drawn lost

  over_in : (verbose : Bool) (shapes : List Shape) (lines : List (ℕ × (ℕ × List ℕ))) (old new : Progress S) (code : ℕ) → AdvancesOver facts verbose shapes lines old (Some code) new
      → facts.has_lost new.sketch.canvas ≡ true → InLost code old.sketch new.sketch
  over_in verbose shapes [] old new code (at, ends, same) lost = placed_in old new at code same lost
  over_in verbose shapes (l ∷ ls) old new code drawn lost = next_in verbose shapes l ls old new code (opened_by facts shapes l ls old) drawn lost

  pub advance_in : (verbose : Bool) (shapes : List Shape) (old new : Progress S) (code : ℕ) → Advances facts verbose shapes old (Some code) new
      → facts.has_lost new.sketch.canvas ≡ true → InLost code old.sketch new.sketch
  advance_in verbose shapes old new code drawn lost = over_in verbose shapes old.lines old new code drawn lost
