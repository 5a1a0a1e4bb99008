-- Lines whose commands wait together, and where a script is stopped if they are lost.
use Rattle.std.proofs.Common.{◌≡◌, ◌∙◌, ◌⊎◌, inl, inr, ℕ, ◌<◌, ◌==◌, Bool, true, false, List, [], Option, Some, None, Ok, refl, ap, sym, subst}
use Rattle.std.specs.Prelude.{IfSome, MatchOption, if◌then◌else◌, suc}
use Rattle.std.specs.Io.KnownBytes.{Keeps}
use Rattle.std.proofs.KnownBytes.{Keeps-refl, Keeps-trans}
use Rattle.std.proofs.lemmas.Bool.{true≢false}
use Rattle.run_canvas.specs.Canvases.{NothingWaits, OneOf}
use Rattle.map_blocks.specs.Defined.{Shape}
use Rattle.run_script.specs.Drawn.{Advances, ComesTo, EndsFrom, IsAtPlace, IsCutOff, IsStoppedAt, Progress, PutsAtEnd, Refuses, on_canvas}
use Rattle.run_script.specs.Opened.{open_blocks}
use Rattle.map_blocks.specs.Stops.{IsStop, IsStopWithin}
use Rattle.map_blocks.specs.declared.stop.OpenBlock.{OpenBlock}
use Rattle.map_blocks.specs.declared.stop.Stop.{Stop}
use Rattle.run_canvas.specs.declared.canvas.Canvas.{Ghosts}
use Rattle.run_script.proofs.Losing.{Alone, LossTold, Lost, LostIn, RoomMade, RoomRefused, Since, StepOf, ToldAll, Within, advance_in, advance_lost}
use Rattle.run_script.proofs.ToldBlocks.{alone_within}

abbrev pub Begun : {S : Type 0} → Ghosts S → Type 0
Begun {S = S} facts = (old new : S) (place : ℕ) (alone : Bool) → facts.begins old place alone new
    → (facts.has_lost new ≡ false) × (facts.is_alone new ≡ false → alone ≡ false)
    × ((last : S) → facts.loses new last → (facts.holds_earlier new ≡ true) × ((other : S) × facts.loses old other × facts.settles other last))

abbrev pub LostSettled : {S : Type 0} → Ghosts S → Type 0
LostSettled {S = S} facts = (old new : S) → facts.loses old new → facts.settles new new

abbrev pub SettledAgain : {S : Type 0} → Ghosts S → Type 0
SettledAgain {S = S} facts = (old mid new : S) → facts.settles old mid → facts.settles mid new → facts.settles old new

-- a line was refused, in these blocks
pub stopped_there : {S : Type 0} (facts : Ghosts S) (verbose : Bool) (shapes : List Shape) (start : Progress S) (limit n place code : ℕ) (mid new : Progress S) (told : List OpenBlock)
    (stop : Stop) (canvas : S) (w : Option (List ℕ)) → ComesTo facts verbose shapes start n mid → IsAtPlace mid.lines mid.turns place
    → Refuses facts verbose shapes limit n mid code new → IsStop place code told stop → told ≡ open_blocks code mid.lines mid.turns → PutsAtEnd facts (Some stop) new.sketch.canvas canvas
    → w ≡ new.sketch.written → IsStoppedAt facts verbose shapes start limit stop canvas w
stopped_there facts verbose shapes start limit n place code mid new told stop canvas w reached at refuses is blocks settled written = record {
  count = n;
  before = mid;
  after = new;
  reached = reached;
  at_place = subst (λ (p : ℕ). IsAtPlace mid.lines mid.turns p) (sym is.place) at;
  refused = subst (λ (c : ℕ). Refuses facts verbose shapes limit n mid c new) (sym is.code) refuses;
  blocks = is.blocks ∙ blocks ∙ sym (ap (λ (c : ℕ). open_blocks c mid.lines mid.turns) is.code);
  put = settled;
  has = written;
}

-- with 30 what waited was put
at_thirty : {S : Type 0} (facts : Ghosts S) (code : ℕ) (old new : S) → code ≡ 30 → facts.settles old new → OneOf (code == 31) (new ≡ old) (facts.settles old new)
at_thirty facts code old new is settled = subst (λ (c : ℕ). OneOf (c == 31) (new ≡ old) (facts.settles old new)) (sym is) settled

of_thirty : {S : Type 0} (facts : Ghosts S) (code : ℕ) (old new : S) → code ≡ 30 → OneOf (code == 31) (new ≡ old) (facts.settles old new) → facts.settles old new
of_thirty facts code old new is put = subst (λ (c : ℕ). OneOf (c == 31) (new ≡ old) (facts.settles old new)) is put

-- a stop at this place with 30, in no block, tells where the script was stopped
abbrev pub StopsAlone : {S : Type 0} → Ghosts S → Bool → List Shape → Progress S → ℕ → ℕ → S → Option (List ℕ) → Type 0
StopsAlone facts verbose shapes start limit place last w = (stop : Stop) → IsStop place 30 [] stop → IsStoppedAt facts verbose shapes start limit stop last w

-- where what waits is lost, the script is stopped at this place, of so many, with 30
abbrev pub IsLostFrom : {S : Type 0} → Ghosts S → Bool → List Shape → Progress S → ℕ → ℕ → ℕ → Option (List ℕ) → S → Type 0
IsLostFrom {S = S} facts verbose shapes start limit many place written canvas =
    (last : S) → facts.loses canvas last → (place < many) × (verbose ≡ false)
    × ((w : Option (List ℕ)) → Keeps written w → StopsAlone facts verbose shapes start limit place last w)

module _ {S : Type 0} (facts : Ghosts S) (since : Since facts) (within : Within facts) (alone : Alone facts) (made : RoomMade facts) (refused : RoomRefused facts) (told_all : ToldAll facts) (loss_told : LossTold facts)
    (begun : Begun facts) (lost_settled : LostSettled facts) (again : SettledAgain facts) where
  stop_then : (verbose : Bool) (shapes : List Shape) (start : Progress S) (limit place : ℕ) (other last : S) (w : Option (List ℕ))
      → StopsAlone facts verbose shapes start limit place other w → facts.settles other last → StopsAlone facts verbose shapes start limit place last w
  stop_then verbose shapes start limit place other last w stops settled stop is =
      let old = stops stop is in record {
        count = old.count;
        before = old.before;
        after = old.after;
        reached = old.reached;
        at_place = old.at_place;
        refused = old.refused;
        blocks = old.blocks;
        put = at_thirty facts stop.code old.after.sketch.canvas last is.code
            (again old.after.sketch.canvas other last (of_thirty facts stop.code old.after.sketch.canvas other is.code old.put) settled);
        has = old.has;
      }

  before_lost : (verbose : Bool) (shapes : List Shape) (start : Progress S) (limit many place at : ℕ) (old began last : S) (u w : Option (List ℕ)) → facts.begins old at verbose began
      → IsLostFrom facts verbose shapes start limit many place u old → facts.loses began last → (verbose ≡ false → Keeps u w)
      → (facts.holds_earlier began ≡ true) × (place < many) × (verbose ≡ false)
      × ((x : Option (List ℕ)) → Keeps w x → StopsAlone facts verbose shapes start limit place last x)
  before_lost verbose shapes start limit many place at old began last u w begins known lost kept =
      let (still, (other, gone, settled)) = (begun old began at verbose begins).2 last lost in
      let (below, quiet, stops) = known other gone in
      (still, below, quiet, λ x keeps. stop_then verbose shapes start limit place other last x (stops x (Keeps-trans u w x (kept quiet) keeps)) settled)

  pub next_lost : (verbose : Bool) (shapes : List Shape) (start : Progress S) (limit many n before place : ℕ) (mid new : Progress S) (began : S) (refusal : Option ℕ) → ComesTo facts verbose shapes start n mid
      → n < limit → place < many → IsAtPlace mid.lines mid.turns place → facts.begins mid.sketch.canvas place verbose began
      → Advances facts verbose shapes (on_canvas began mid) refusal new → IsLostFrom facts verbose shapes start limit many before mid.sketch.written mid.sketch.canvas
      → IsLostFrom facts verbose shapes start limit many (if facts.holds_earlier new.sketch.canvas then before else place) new.sketch.written new.sketch.canvas
  next_lost verbose shapes start limit many n before place mid new began refusal reached under inside at begins drawn known last lost =
      let (kept, lines) = advance_lost facts since within alone made refused told_all loss_told verbose shapes (on_canvas began mid) new refusal last drawn lost in go kept lines
    where
      StopsAt : ℕ → Type 0
      StopsAt p = (p < many) × (verbose ≡ false) × ((w : Option (List ℕ)) → Keeps new.sketch.written w → StopsAlone facts verbose shapes start limit p last w)

      stopped : (w : Option (List ℕ)) → StepOf facts since within alone made refused told_all loss_told verbose shapes mid.lines (on_canvas began mid) last w
          → StopsAlone facts verbose shapes start limit place last w
      stopped w (x, drawn, canvas, written) stop is =
          stopped_there facts verbose shapes start limit n place 30 mid x [] stop last w reached at (inl (under, (place, at, began, begins, drawn))) is refl
          (at_thirty facts stop.code x.sketch.canvas last is.code (subst (λ (s : S). facts.settles s last) (sym canvas) (lost_settled new.sketch.canvas last lost))) (sym written)

      go : (verbose ≡ false → Keeps mid.sketch.written new.sketch.written)
          → Lost facts since within alone made refused told_all loss_told began new.sketch.canvas last
          ((w : Option (List ℕ)) → Keeps mid.sketch.written w → StepOf facts since within alone made refused told_all loss_told verbose shapes mid.lines (on_canvas began mid) last w)
          → StopsAt (if facts.holds_earlier new.sketch.canvas then before else place)
      go kept (inl (same, gone)) =
          let (still, below, quiet, stops) = before_lost verbose shapes start limit many before place mid.sketch.canvas began last mid.sketch.written new.sketch.written begins known gone kept in
          subst (λ (b : Bool). StopsAt (if b then before else place)) (sym (same ∙ still)) (below, quiet, stops)
      go kept (inr (none, together, make)) =
          let quiet : verbose ≡ false = (begun mid.sketch.canvas began place verbose begins).1 together in
          subst (λ (b : Bool). StopsAt (if b then before else place)) (sym none)
          (inside, quiet, λ w keeps. stopped w (make w (Keeps-trans mid.sketch.written new.sketch.written w (kept quiet) keeps)))

  -- a line that lost what earlier ones had
  pub line_lost : (verbose : Bool) (shapes : List Shape) (start : Progress S) (limit many before place : ℕ) (mid new : Progress S) (began : S) (code : ℕ) → facts.begins mid.sketch.canvas place verbose began
      → Advances facts verbose shapes (on_canvas began mid) (Some code) new → facts.has_lost new.sketch.canvas ≡ true
      → IsLostFrom facts verbose shapes start limit many before mid.sketch.written mid.sketch.canvas
      → (before < many) × StopsAlone facts verbose shapes start limit before new.sketch.canvas new.sketch.written
  line_lost verbose shapes start limit many before place mid new began code begins drawn lost known =
      go (advance_in facts since within alone made refused told_all loss_told verbose shapes (on_canvas began mid) new code drawn lost)
    where
      go : LostIn facts since within alone made refused told_all loss_told code began new.sketch.canvas (Keeps mid.sketch.written new.sketch.written)
          → (before < many) × StopsAlone facts verbose shapes start limit before new.sketch.canvas new.sketch.written
      go (inl already) = absurd (true≢false (sym already ∙ (begun mid.sketch.canvas began place verbose begins).0))
      go (inr (thirty, waits, gone, kept)) =
          let (still, (other, lost, settled)) = (begun mid.sketch.canvas began place verbose begins).2 new.sketch.canvas gone in
          let (below, quiet, stops) = known other lost in
          (below, stop_then verbose shapes start limit before other new.sketch.canvas new.sketch.written (stops new.sketch.written kept) settled)

-- the place of the first line whose commands wait
pub at_first_place : {S : Type 0} (facts : Ghosts S) (verbose : Bool) (shapes : List Shape) (start : Progress S) (limit many p before place : ℕ) (b : Bool) (written : Option (List ℕ)) (canvas : S)
    → p ≡ (if b then before else place) → b ≡ facts.holds_earlier canvas
    → IsLostFrom facts verbose shapes start limit many (if facts.holds_earlier canvas then before else place) written canvas → IsLostFrom facts verbose shapes start limit many p written canvas
at_first_place facts verbose shapes start limit many p before place b written canvas is holds lost =
    subst (λ (q : ℕ). IsLostFrom facts verbose shapes start limit many q written canvas) (sym is)
    (subst (λ (h : Bool). IsLostFrom facts verbose shapes start limit many (if h then before else place) written canvas) (sym holds) lost)

-- nothing waits before the first line
pub none_lost_from : {S : Type 0} (facts : Ghosts S) (verbose : Bool) (shapes : List Shape) (start : Progress S) (limit many place : ℕ) (written : Option (List ℕ)) (canvas : S) → NothingWaits facts canvas
    → IsLostFrom facts verbose shapes start limit many place written canvas
none_lost_from facts verbose shapes start limit many place written canvas nothing last lost = absurd (nothing last lost)

-- ---- The end

abbrev Finishes : {S : Type 0} → Ghosts S → S → S → Option Stop → Option Stop → ℕ → Type 0
Finishes facts old new ended result first =
    (PutsAtEnd facts ended old new × (result ≡ ended)) ⊎ (facts.loses old new × MatchOption result ⊥ (IsStop first 30 []))

pub finished : {S : Type 0} (facts : Ghosts S) (verbose : Bool) (shapes : List Shape) (start : Progress S) (limit many first : ℕ) (written : Option (List ℕ)) (old new : S) (ended result : Option Stop)
    → (PutsAtEnd facts ended old new → EndsFrom facts verbose shapes start limit (Ok ended) new written) → IsLostFrom facts verbose shapes start limit many first written old
    → Finishes facts old new ended result first → EndsFrom facts verbose shapes start limit (Ok result) new written
finished facts verbose shapes start limit many first written old new ended result ends lost (inl (settled, is)) =
    subst (λ (o : Option Stop). EndsFrom facts verbose shapes start limit (Ok o) new written) (sym is) (ends settled)
finished facts verbose shapes start limit many first written old new ended None ends lost (inr (gone, none)) = absurd none
finished facts verbose shapes start limit many first written old new ended (Some stop) ends lost (inr (gone, is)) =
    let (below, quiet, stops) = lost new gone in
    stops written (Keeps-refl written) stop is

pub finished_within : {S : Type 0} (facts : Ghosts S) (verbose : Bool) (shapes : List Shape) (start : Progress S) (limit many first : ℕ) (written : Option (List ℕ)) (old new : S) (ended result : Option Stop)
    → IfSome ended (IsStopWithin many) → IsLostFrom facts verbose shapes start limit many first written old → Finishes facts old new ended result first
    → IfSome result (IsStopWithin many)
finished_within facts verbose shapes start limit many first written old new ended result inside lost (inl (settled, is)) =
    subst (λ (o : Option Stop). IfSome o (IsStopWithin many)) (sym is) inside
finished_within facts verbose shapes start limit many first written old new ended None inside lost (inr (gone, none)) = absurd none
finished_within facts verbose shapes start limit many first written old new ended (Some stop) inside lost (inr (gone, is)) =
    let (below, quiet, stops) = lost new gone in
    alone_within many first 30 stop is below

-- lines were drawn, and perhaps one more, when a call was cut off
pub cut_off_at : {S : Type 0} (facts : Ghosts S) (verbose : Bool) (shapes : List Shape) (first mid : Progress S) (began canvas new : S) (n place : ℕ) → ComesTo facts verbose shapes first n mid
    → IsAtPlace mid.lines mid.turns place → facts.begins mid.sketch.canvas place verbose began
    → facts.settles began canvas ⊎ ((last : Progress S) × Advances facts verbose shapes (on_canvas began mid) None last × (canvas ≡ last.sketch.canvas))
    → facts.settles canvas new ⊎ facts.loses canvas new → IsCutOff facts verbose shapes first new
cut_off_at facts verbose shapes first mid began canvas new n place reached at begins (inl settled) leaves =
    record { count = n; last = mid; reached = reached; left = canvas; settled = inr (place, at, began, begins, settled); leaves = leaves }
cut_off_at facts verbose shapes first mid began canvas new n place reached at begins (inr (last, drawn, is)) leaves =
    record { count = suc n; last = last; reached = (mid, reached, (place, at, began, begins, drawn)); left = canvas; settled = inl is; leaves = leaves }
