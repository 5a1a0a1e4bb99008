-- The file after a one-byte write at the other slot's gate.
use Rattle.std.proofs.Common.{◌≡◌, ◌⊎◌, inl, inr, ⊎_elim, ◌<◌, ◌≤◌, ◌+◌, ℕ, Bool, true, false, List, [], ◌∷◌, length, get_or, eqb, cond, sym, ◌∙◌, subst, arith}
use Rattle.std.proofs.lemmas.Bool.{cases_eq, true≢false}
use Rattle.store_disk.specs.Files.{HasAt, KeepsOutside, Torn, Written}
use Rattle.store_disk.specs.Gates.{IsClosedAt}
use Rattle.store_disk.specs.Moments.{LeavesOnly}
use Rattle.store_disk.specs.Stops.{From, Follows}
use Rattle.store_disk.proofs.Moments.{weaker}
use Rattle.store_disk.specs.declared.area.Area.{Area}
use Rattle.store_disk.proofs.Gates.{closed_now}
use Rattle.store_disk.proofs.Bytes.{keeps_wider, has_one, written_torn}
use Rattle.store_disk.specs.Areas.{IsApart}
use Rattle.store_disk.specs.declared.disk.Disk.{Ghosts}
use Rattle.store_slots.specs.Bodies.{HasContent, IsOpen, IsOpenWith, IsOlder, IsLive}
use Rattle.store_slots.specs.Handles.{live_of, other_of, generation_of, second_of, finds_open, HasSomeSlots}
use Rattle.store_slots.specs.Steps.{IsNextBy, IsSomeLive, IsFilled, KeepsLive, ClosesOther, OpensOther, MayOpenOther}
use Rattle.store_slots.specs.declared.slots.Slots.{Slots}
use Rattle.store_slots.proofs.Kept.{open_with, head_kept, content_kept, open_kept}

-- the slots of a handle are apart, and none is empty
pub record AreApart (s : Slots) : Type 0 where
  pub apart : IsApart (live_of s) (other_of s).base (other_of s).length
  pub live_some : 0 < (live_of s).length
  pub other_some : 0 < (other_of s).length
  pub before : (at : ℕ) → (second_of s).base + (second_of s).length ≤ at → ((live_of s).base + (live_of s).length ≤ at) × ((other_of s).base + (other_of s).length ≤ at)

pub are_apart : (s : Slots) → AreApart s
are_apart s = record {
  apart = at (eqb s.slot 0);
  live_some = some (eqb s.slot 0) s.a s.b s.a_some s.b_some;
  other_some = some (eqb s.slot 0) s.b s.a s.b_some s.a_some;
  before = λ k le. ends (eqb s.slot 0) k le;
}
  where
    at : (t : Bool) → IsApart (cond t s.a s.b) (cond t s.b s.a).base (cond t s.b s.a).length
    at true = inl s.in_order
    at false = inr s.in_order

    some : (t : Bool) (x y : Area) → 0 < x.length → 0 < y.length → 0 < (cond t x y).length
    some true x y one other = one
    some false x y one other = other

    ends : (t : Bool) (k : ℕ) → s.b.base + s.b.length ≤ k → ((cond t s.a s.b).base + (cond t s.a s.b).length ≤ k) × ((cond t s.b s.a).base + (cond t s.b s.a).length ≤ k)
    ends true k le = (omega (arith, le, s.in_order), le)
    ends false k le = (le, omega (arith, le, s.in_order))

-- the live slot is apart from each part of the other one
pub apart_from : (s : Slots) (at n : ℕ) → (other_of s).base ≤ at → at + n ≤ (other_of s).base + (other_of s).length → IsApart (live_of s) at n
apart_from s at n low high = ⊎_elim (λ below. inl (omega (arith, below, low))) (λ above. inr (omega (arith, above, high))) (are_apart s).apart

module _ (live other : Area) (generation : ℕ) (apart : IsApart live other.base 1) (old new : List ℕ) (keeps : KeepsOutside other.base 1 old new) where
  filled_kept : (g : ℕ) (body : List ℕ) → HasContent other g body old → HasContent other g body new
  filled_kept g body is = content_kept other.base 1 old new keeps other g body (inr (omega arith)) is

  -- a gate at which a write may have left any byte
  live_stays : (body : List ℕ) → IsLive live other generation body old → IsClosedAt other.base new ⊎ IsOlder other generation new → IsLive live other generation body new
  live_stays body is behind = record { is_open = open_kept other.base 1 old new keeps live generation body apart is.is_open; behind = behind }

  -- an older slot may be open or closed
  pub torn_older : (body : List ℕ) → IsLive live other generation body old → IsOlder other generation old → IsLive live other generation body new
  torn_older body is older =
      let there : other.base < length new = omega (arith, older.2.head.within, keeps.no_shorter) in
      live_stays body is (elim (cases_eq (get_or new other.base 0) 165) [
        | inl is_open ↦ inr (
          older.0,
          older.1,
          record {
            gate = has_one other.base 165 new there is_open;
            head =
                head_kept other.base 1 old new keeps other older.0 older.1 (inr (omega arith)) older.2.head;
          },
          older.3,
        )
        | inr shut ↦ inl (record { within = there; closed = shut })
      ])

  pub now_open : (live_body body : List ℕ) → IsLive live other generation live_body old
      → HasContent other (generation + 1) body old → HasAt other.base (165 ∷ []) new
      → IsLive other live (generation + 1) body new
  now_open live_body body is filled gate = record {
    is_open = record { gate = gate; content = filled_kept (generation + 1) body filled };
    behind = inr (generation, length live_body, open_with live generation live_body new (open_kept other.base 1 old new keeps live generation live_body apart is.is_open), omega arith);
  }

  -- a slot that is filled after its gate is either the live one or not
  pub torn_filled : (live_body body : List ℕ) → IsLive live other generation live_body old → HasContent other (generation + 1) body old
      → IsLive live other generation live_body new ⊎ IsLive other live (generation + 1) body new
  torn_filled live_body body is filled =
      let there : other.base < length new = omega (arith, filled.head.within, keeps.no_shorter) in
      elim (cases_eq (get_or new other.base 0) 165) [
        | inl is_open ↦ inr (now_open live_body body is filled (has_one other.base 165 new there is_open))
        | inr shut ↦ inl (live_stays live_body is (inl (record { within = there; closed = shut })))
      ]

module _ (s : Slots) where
  abbrev at : ℕ
  at = (other_of s).base

  gate_apart : IsApart (live_of s) at 1
  gate_apart = apart_from s at 1 (omega arith) (omega (arith, (are_apart s).other_some))

  inside : (old new : List ℕ) → KeepsOutside at 1 old new → KeepsOutside at (other_of s).length old new
  inside old new keeps = keeps_wider at 1 at (other_of s).length old new (omega arith) (omega (arith, (are_apart s).other_some)) keeps

  -- the gate of an older slot is written
  pub keeps_live : (old new : List ℕ) → IsOlder (other_of s) (generation_of s) old → Torn at 1 old new → KeepsLive s old new
  keeps_live old new older torn = record {
    keeps = inside old new torn.keeps;
    no_longer = omega (arith, torn.no_longer, older.2.head.within);
    live = λ body is. torn_older (live_of s) (other_of s) (generation_of s) gate_apart old new torn.keeps body is older;
  }

  pub closes : (old new : List ℕ) → IsOlder (other_of s) (generation_of s) old → Written at (0 ∷ []) old new → ClosesOther s old new
  closes old new older written = record { keeps = keeps_live old new older (written_torn at (0 ∷ []) old new written); closed = closed_now at old new written }

  pub may_open : (old new : List ℕ) → IsFilled s old → Torn at 1 old new → MayOpenOther s old new
  may_open old new filled torn = record {
    keeps = inside old new torn.keeps;
    no_longer = omega (arith, torn.no_longer, filled.1.head.within);
    either = λ live_body body is filled. torn_filled (live_of s) (other_of s) (generation_of s) gate_apart old new torn.keeps live_body body is filled;
  }

  pub opens : (old new : List ℕ) → IsSomeLive s old → IsFilled s old → Written at (165 ∷ []) old new → OpensOther s old new
  opens old new live filled written = record {
    keeps = inside old new written.keeps;
    no_longer = omega (arith, written.long (omega arith), filled.1.head.within);
    live = λ body filled. now_open (live_of s) (other_of s) (generation_of s) gate_apart old new written.keeps live.0 body live.1 filled (written.has (omega arith));
  }

-- after the change, what the turned handle says is true of the file
pub turned_slots : (s t : Slots) (other : Area) (old new : List ℕ) → other ≡ other_of s → live_of t ≡ other_of s → other_of t ≡ live_of s → generation_of t ≡ generation_of s + 1 → finds_open t ≡ true
    → IsSomeLive s old → IsFilled s old → Written other.base (165 ∷ []) old new → HasSomeSlots t new
turned_slots s t other old new is live_is other_is generation_is open_is live filled written =
    let here : Written (other_of s).base (165 ∷ []) old new = subst (λ (a : Area). Written a.base (165 ∷ []) old new) is written in
    let next : IsNextBy s filled.0 new = (opens s old new live filled here).live filled.0 filled.1 in
    let kept : IsOpenWith (live_of s) (generation_of s) (length live.0) new = open_with (live_of s) (generation_of s) live.0 new
    (open_kept (other_of s).base 1 old new here.keeps (live_of s) (generation_of s) live.0
    (apart_from s (other_of s).base 1 (omega arith) (omega (arith, (are_apart s).other_some))) live.1.is_open) in (
      filled.0,
      record {
        live = subst (λ (a : Area). IsOpen a (generation_of t) filled.0 new) (sym live_is) (subst (λ (k : ℕ). IsOpen (other_of s) k filled.0 new) (sym generation_is) next.is_open);
        shut = λ closed. absurd (true≢false (sym open_is ∙ closed));
        older = λ _. (generation_of s, length live.0, subst (λ (a : Area). IsOpenWith a (generation_of s) (length live.0) new) (sym other_is) kept, omega (arith, generation_is));
      },
    )

-- the same about images, as the clauses state it
module _ {D : Type 0} (facts : Ghosts D) (s : Slots) (d0 d1 : D) (other : Area) (is : other ≡ other_of s) where
  pub close_moments : ((file : List ℕ) → facts.may_leave d0 file → IsOlder (other_of s) (generation_of s) file)
      → LeavesOnly facts d0 d1 (From (facts.may_leave d0) (Torn other.base 1))
      → LeavesOnly facts d0 d1 (From (facts.may_leave d0) (KeepsLive s))
  close_moments older leaves = weaker facts d0 d1 (From (facts.may_leave d0) (Torn other.base 1)) (From (facts.may_leave d0) (KeepsLive s)) leaves
      (λ file left. (left.0, left.1, keeps_live s left.0 file (older left.0 left.1) (subst (λ (a : Area). Torn a.base 1 left.0 file) is left.2)))

  pub close_done : ((file : List ℕ) → facts.may_leave d0 file → IsOlder (other_of s) (generation_of s) file)
      → Follows (Written other.base (0 ∷ [])) (facts.may_leave d0) (facts.may_leave d1)
      → Follows (ClosesOther s) (facts.may_leave d0) (facts.may_leave d1)
  close_done older written file left =
      let was = written file left in
      (was.0, was.1, closes s was.0 file (older was.0 was.1) (subst (λ (a : Area). Written a.base (0 ∷ []) was.0 file) is was.2))

  pub open_moments : ((file : List ℕ) → facts.may_leave d0 file → IsFilled s file)
      → LeavesOnly facts d0 d1 (From (facts.may_leave d0) (Torn other.base 1))
      → LeavesOnly facts d0 d1 (From (facts.may_leave d0) (MayOpenOther s))
  open_moments filled leaves = weaker facts d0 d1 (From (facts.may_leave d0) (Torn other.base 1)) (From (facts.may_leave d0) (MayOpenOther s)) leaves
      (λ file left. (left.0, left.1, may_open s left.0 file (filled left.0 left.1) (subst (λ (a : Area). Torn a.base 1 left.0 file) is left.2)))

  pub open_done : ((file : List ℕ) → facts.may_leave d0 file → IsSomeLive s file × IsFilled s file)
      → Follows (Written other.base (165 ∷ [])) (facts.may_leave d0) (facts.may_leave d1) → Follows (OpensOther s) (facts.may_leave d0) (facts.may_leave d1)
  open_done ready written file left =
      let was = written file left in
      (was.0, was.1, opens s was.0 file (ready was.0 was.1).0 (ready was.0 was.1).1 (subst (λ (a : Area). Written a.base (165 ∷ []) was.0 file) is was.2))
