-- Proofs, which stand here since an impl cites them: what waits when room was made, or was refused.
use Rattle.std.proofs.Common.{◌≡◌, ◌∙◌, ◌⊎◌, inl, inr, ℕ, true, List, Option, Some, None, sym, ap, subst}
use Rattle.store_disk.specs.declared.disk.Disk.{Ghosts}
use Rattle.run_canvas.specs.LossLaws.{none_lost}
use Rattle.run_canvas.specs.Rooms.{BeginsGroup, ClearsJournal, MakesRoom, PutsBefore, TurnsFor}
use Rattle.run_canvas.specs.Waiting.{Drawing, Loses}

module _ {D : Type 0} (facts : Ghosts D) where
  -- a drawing of which nothing waits, with the flags of this one
  pub record IsEmptyOf (old new : Drawing D) : Type 0 where
    pub none : new.group ≡ None
    pub alone : new.is_alone ≡ old.is_alone
    pub lost : new.has_lost ≡ old.has_lost

  put_empty : (old new : Drawing D) (lines : List (List ℕ)) → PutsBefore facts old lines new
      → IsEmptyOf old new
  put_empty old new lines put = record {
    none = put.settled.none;
    alone = put.flags.alone;
    lost = put.flags.lost;
  }

  turned_empty : (old mid new : Drawing D) → new ≡ record mid { project = new.project }
      → IsEmptyOf old mid → IsEmptyOf old new
  turned_empty old mid new is empty = record {
    none = ap (λ (d : Drawing D). d.group) is ∙ empty.none;
    alone = ap (λ (d : Drawing D). d.is_alone) is ∙ empty.alone;
    lost = ap (λ (d : Drawing D). d.has_lost) is ∙ empty.lost;
  }

  turns_empty : (old mid new : Drawing D) (lines : List (List ℕ)) (refusal : Option ℕ)
      → TurnsFor facts mid lines refusal new → IsEmptyOf old mid → IsEmptyOf old new
  turns_empty old mid new lines None (inl (room, same)) empty =
      subst (λ (d : Drawing D). IsEmptyOf old d) (sym same) empty
  turns_empty old mid new lines None (inr (lacks, (n, turned))) empty =
      turned_empty old mid new turned.others empty
  turns_empty old mid new lines (Some code) (lacks, (e, is, turned)) empty =
      turned_empty old mid new turned.others empty

  -- a drawing with the flags of this one, of which nothing waits that didn't before
  pub record IsLeftOf (old new : Drawing D) : Type 0 where
    pub alone : new.is_alone ≡ old.is_alone
    pub lost : new.has_lost ≡ old.has_lost
    pub loses : (last : Drawing D) → Loses facts new last
        → (new.holds_earlier ≡ old.holds_earlier) × Loses facts old last

  left_same : (old new : Drawing D) → new ≡ old → IsLeftOf old new
  left_same old new same = record {
    alone = ap (λ (d : Drawing D). d.is_alone) same;
    lost = ap (λ (d : Drawing D). d.has_lost) same;
    loses = λ last lost. (
      ap (λ (d : Drawing D). d.holds_earlier) same,
      subst (λ (d : Drawing D). Loses facts d last) same lost,
    );
  }

  left_empty : (old new : Drawing D) → IsEmptyOf old new → IsLeftOf old new
  left_empty old new empty = record {
    alone = empty.alone;
    lost = empty.lost;
    loses = λ last lost. absurd (none_lost facts new last empty.none lost);
  }

  left_by : (old mid new : Drawing D) → IsLeftOf old mid → IsLeftOf mid new → IsLeftOf old new
  left_by old mid new front back = record {
    alone = back.alone ∙ front.alone;
    lost = back.lost ∙ front.lost;
    loses = λ last lost.
        let (same, before) = back.loses last lost in
        let (earlier, first) = front.loses last before in
        (same ∙ earlier, first);
  }

  left_cleared : (old new : Drawing D) (lines : List (List ℕ))
      → ClearsJournal facts old lines None new → IsLeftOf old new
  left_cleared old new lines (inl (room, same)) = left_same old new same
  left_cleared old new lines (inr (mid, put, turns)) =
      left_empty old new (turns_empty old mid new lines None turns (put_empty old mid lines put))

  left_begun : (old new : Drawing D) → BeginsGroup old None new → IsLeftOf old new
  left_begun old new (inl (has, same)) = left_same old new same
  left_begun old new (inr (none, is)) = left_empty old new (record {
    none = ap (λ (d : Drawing D). d.group) is ∙ none;
    alone = ap (λ (d : Drawing D). d.is_alone) is;
    lost = ap (λ (d : Drawing D). d.has_lost) is;
  })

  left_room : (old new : Drawing D) (lines : List (List ℕ)) → MakesRoom facts old lines None new
      → IsLeftOf old new
  left_room old new lines (inl (alone, same)) = left_same old new same
  left_room old new lines (inr (together, mid, clears, begins)) =
      left_by old mid new (left_cleared old mid lines clears) (left_begun mid new begins)

  pub room_made : (old new : Drawing D) (lines : List (List ℕ)) → MakesRoom facts old lines None new
      → (new.is_alone ≡ old.is_alone) × (new.has_lost ≡ old.has_lost)
      × ((last : Drawing D) → Loses facts new last
      → (new.holds_earlier ≡ old.holds_earlier) × Loses facts old last)
  room_made old new lines room =
      let left = left_room old new lines room in (left.alone, left.lost, left.loses)

  pub room_refused : (old new : Drawing D) (lines : List (List ℕ)) (code : ℕ)
      → MakesRoom facts old lines (Some code) new
      → ((last : Drawing D) → ¬ Loses facts new last)
      × (new.has_lost ≡ true → (old.has_lost ≡ true)
      ⊎ ((code ≡ 30) × (old.holds_earlier ≡ true) × Loses facts old new))
  room_refused old new lines code (together, inl (inl (is, lacks, gone))) = (
    λ last lost. none_lost facts new last gone.none lost,
    λ lost. inr (is, sym gone.lost ∙ lost, gone),
  )
  room_refused old new lines code (together, inl (inr (mid, put, turns))) =
      let empty = turns_empty old mid new lines (Some code) turns (put_empty old mid lines put) in
      (λ last lost. none_lost facts new last empty.none lost, λ lost. inl (sym empty.lost ∙ lost))
  room_refused old new lines code (together, inr (mid, clears, (none, spare, same, why))) =
      let left = left_by old mid new (left_cleared old mid lines clears)
      (left_same mid new same) in (
        λ last lost. none_lost facts new last (ap (λ (d : Drawing D). d.group) same ∙ none) lost,
        λ lost. inl (sym left.lost ∙ lost),
      )
