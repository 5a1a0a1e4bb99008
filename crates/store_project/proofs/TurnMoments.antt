-- The change of the live slot over the images of a disk, as the clauses say it.
use Rattle.std.proofs.Common.{◌≡◌, inr, ℕ, List, [], ◌∷◌, sym, ◌∙◌, subst, arith}
use Rattle.store_disk.specs.Gates.{IsClosedAt}
use Rattle.store_disk.specs.Moments.{LeavesOnly}
use Rattle.store_disk.specs.Stops.{Each, Follows, From}
use Rattle.store_disk.specs.declared.area.Area.{Area}
use Rattle.store_disk.specs.Files.{HasAt, KeepsOutside}
use Rattle.store_disk.specs.declared.disk.Disk.{Ghosts}
use Rattle.store_disk.proofs.Moments.{weaker, and_then}
use Rattle.store_disk.proofs.Bytes.{has_kept, one_has}
use Rattle.store_slots.specs.Handles.{live_of, other_of, generation_of}
use Rattle.store_slots.specs.Steps.{KeepsLive, ClosesOther, MayFill, Fills, OpensOther, MayOpenOther}
use Rattle.store_slots.specs.declared.slots.Slots.{Slots}
use Rattle.store_project.specs.Places.{IsInOrder}
use Rattle.store_project.specs.Turns.{MayTurn, Turns}
use Rattle.store_project.specs.declared.places.Parts.{Parts}
use Rattle.store_project.proofs.Turning.{turn_closing, turn_filling, turn_opening, turn_opened}

module _ {D : Type 0} (facts : Ghosts D) (s s1 : Slots) (same1 : s1 ≡ s) (q : Parts) (order : IsInOrder q) (live_is : live_of s ≡ q.live) (other_is : other_of s ≡ q.other)
    (bytes : List ℕ) (d0 d1 : D) where
  abbrev May : ℕ → List ℕ → Type 0
  May cap = From (facts.may_leave d0) (MayTurn cap (generation_of s) q bytes)

  pub closing : LeavesOnly facts d0 d1 (From (facts.may_leave d0) (KeepsLive s)) → (cap : ℕ) → LeavesOnly facts d0 d1 (May cap)
  closing first cap = weaker facts d0 d1 (From (facts.may_leave d0) (KeepsLive s)) (May cap) first
      (λ file left. (left.0, left.1, turn_closing s q order live_is other_is cap bytes left.0 file left.2))

  module _ (closed : Follows (ClosesOther s) (facts.may_leave d0) (facts.may_leave d1)) where
    module _ (d2 : D) where
      pub filling : LeavesOnly facts d0 d1 (From (facts.may_leave d0) (KeepsLive s))
          → LeavesOnly facts d1 d2 (From (facts.may_leave d1) (MayFill s1 q.other_journal)) → (cap : ℕ)
          → LeavesOnly facts d0 d2 (May cap)
      filling first second cap = and_then facts d0 d1 d2 (May cap) (closing first cap)
          (weaker facts d1 d2 (From (facts.may_leave d1) (MayFill s1 q.other_journal)) (May cap) second
          (λ file left.
          let was = closed left.0 left.1 in
          (was.0, was.1, turn_filling s q order live_is other_is cap bytes was.0 left.0 file was.2.keeps (subst (λ (t : Slots). MayFill t q.other_journal left.0 file) same1 left.2))))

      module _ (s2 : Slots) (same2 : s2 ≡ s1) (filled : Follows (Fills s1 bytes q.other_journal) (facts.may_leave d1) (facts.may_leave d2)) where
        fills_here : (old new : List ℕ) → Fills s1 bytes q.other_journal old new → Fills s bytes q.other_journal old new
        fills_here old new fills = subst (λ (t : Slots). Fills t bytes q.other_journal old new) same1 fills

        pub opening : (d3 : D) → LeavesOnly facts d0 d1 (From (facts.may_leave d0) (KeepsLive s))
            → LeavesOnly facts d1 d2 (From (facts.may_leave d1) (MayFill s1 q.other_journal))
            → LeavesOnly facts d2 d3 (From (facts.may_leave d2) (MayOpenOther s2))
            → (cap : ℕ) → LeavesOnly facts d0 d3 (May cap)
        opening d3 first second third cap = and_then facts d0 d2 d3 (May cap) (filling first second cap)
            (weaker facts d2 d3 (From (facts.may_leave d2) (MayOpenOther s2)) (May cap) third
            (λ file left.
            let last = filled left.0 left.1 in
            let was = closed last.0 last.1 in (
              was.0,
              was.1,
              turn_opening s q order live_is other_is cap bytes was.0 last.0 left.0 file was.2.keeps
                  (fills_here last.0 left.0 last.2) (subst (λ (t : Slots). MayOpenOther t left.0 file)
                  (same2 ∙ same1) left.2),
            )))

        pub opened : (d3 : D) → Follows (OpensOther s2) (facts.may_leave d2) (facts.may_leave d3) → (cap : ℕ) → Follows (Turns cap (generation_of s) q bytes) (facts.may_leave d0) (facts.may_leave d3)
        opened d3 opens cap file left =
            let from = opens file left in
            let last = filled from.0 from.1 in
            let was = closed last.0 last.1 in (
              was.0,
              was.1,
              turn_opened s q order live_is other_is cap bytes was.0 last.0 from.0 file was.2.keeps
                  (fills_here last.0 from.0 last.2) (subst (λ (t : Slots). OpensOther t from.0 file)
                  (same2 ∙ same1) from.2),
            )

        pub begun : (d3 : D) → Follows (OpensOther s2) (facts.may_leave d2) (facts.may_leave d3) → Each (facts.may_leave d3) (IsClosedAt q.other_journal.base)
        begun d3 opens file left =
            let from = opens file left in
            let last = filled from.0 from.1 in
            let keeps : KeepsOutside q.other.base q.other.length from.0 file =
            subst (λ (a : Area). KeepsOutside a.base a.length from.0 file) other_is
            (subst (λ (t : Slots). OpensOther t from.0 file) (same2 ∙ same1) from.2).keeps in
            let has : HasAt q.other_journal.base (0 ∷ []) file = has_kept q.other.base q.other.length q.other_journal.base (0 ∷ []) from.0 file (inr order.other_behind) keeps last.2.begins in
            record { within = omega (arith, has.within); closed = λ is_open. absurd (omega (arith, sym (one_has q.other_journal.base 0 [] file has) ∙ is_open)) }
