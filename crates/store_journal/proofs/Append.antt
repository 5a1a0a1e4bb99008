-- What the two writes of a group leave of the area's list.
use Rattle.std.proofs.Common.{◌≡◌, ◌≢◌, ◌⊎◌, inl, inr, ◌<◌, ◌≤◌, ◌+◌, ℕ, List, [], ◌∷◌, ◌++◌, length, get_or, sym, ◌∙◌, ap, subst, arith, length-append}
use Rattle.std.proofs.lemmas.Bool.{cases_eq}
use Rattle.std.proofs.lemmas.List.Elements.{All-append}
use Rattle.store_disk.specs.Files.{HasAt, KeepsOutside, Torn, Written}
use Rattle.store_disk.specs.Moments.{LeavesOnly}
use Rattle.store_disk.specs.Stops.{From, Follows, Each}
use Rattle.store_disk.specs.declared.disk.Disk.{Ghosts}
use Rattle.store_disk.proofs.Moments.{weaker, and_then}
use Rattle.store_disk.specs.declared.area.Area.{Area}
use Rattle.store_disk.proofs.Bytes.{keeps_wider, keeps_then, has_kept, has_left, has_right, has_both, has_one, one_has}
use Rattle.store_journal.specs.Records.{records_bytes, IsJournal, EndsAt}
use Rattle.store_journal.specs.Append.{Appends, MayAppend}
use Rattle.store_journal.specs.Groups.{IsGroupOf}
use Rattle.store_journal.proofs.Groups.{length-group, some_behind}
use Rattle.store_journal.proofs.Lengths.{records_bytes-append}
use Rattle.store_journal.proofs.OneReading.{one_journal}

module _ (area : Area) (next : ℕ) (more : List (List ℕ)) (block : List ℕ) (group : IsGroupOf more (165 ∷ block)) (fits : next + length block < area.length) where
  abbrev gate : ℕ
  gate = area.base + next

  -- all that stood up to the gate stands, and it's closed
  stays : (payloads : List (List ℕ)) (old new : List ℕ) → length (records_bytes payloads) ≡ next
      → IsJournal area payloads old → KeepsOutside gate 1 old new → get_or new gate 0 ≢ 165
      → IsJournal area payloads new
  stays payloads old new ends is keeps shut =
      let at : area.base + length (records_bytes payloads) ≡ gate = omega (arith, ends) in
      record {
        records = has_kept gate 1 area.base (records_bytes payloads) old new (inl (omega (arith, ends))) keeps is.records;
        gate = record { within = omega (arith, is.gate.within, keeps.no_shorter); closed = λ is_open. shut (ap (λ (k : ℕ). get_or new k 0) (sym at) ∙ is_open) };
        room = is.room;
        short = is.short;
      }

  -- the same for a write behind the gate
  behind : (payloads : List (List ℕ)) (old new : List ℕ) → length (records_bytes payloads) ≡ next
      → IsJournal area payloads old → KeepsOutside (gate + 1) (length block) old new → IsJournal area payloads new
  behind payloads old new ends is keeps =
      let at : area.base + length (records_bytes payloads) ≡ gate = omega (arith, ends) in
      let kept : get_or new (area.base + length (records_bytes payloads)) 0
      ≡ get_or old (area.base + length (records_bytes payloads)) 0 =
      keeps.same (area.base + length (records_bytes payloads)) is.gate.within (inl (omega (arith, at))) in
      record {
        records = has_kept (gate + 1) (length block) area.base (records_bytes payloads) old new (inl (omega (arith, ends))) keeps is.records;
        gate = record { within = omega (arith, is.gate.within, keeps.no_shorter); closed = λ is_open. is.gate.closed (sym kept ∙ is_open) };
        room = is.room;
        short = is.short;
      }

  size : length block ≡ length (records_bytes more)
  size = omega (arith, length-group more (165 ∷ block) group)

  -- with the block behind it and the gate open, there are these more
  opened : (payloads : List (List ℕ)) (mid new : List ℕ) → length (records_bytes payloads) ≡ next
      → IsJournal area payloads mid → HasAt (gate + 1) block mid → KeepsOutside gate 1 mid new
      → get_or new gate 0 ≡ 165 → IsJournal area (payloads ++ more) new
  opened payloads mid new ends is has keeps is_open =
      let all = records_bytes payloads in
      let at : area.base + length all ≡ gate = omega (arith, ends) in
      let both_are = records_bytes-append payloads more in
      let length_is : length (records_bytes (payloads ++ more)) ≡ next + length block = ap length both_are ∙ omega (arith, length-append all (records_bytes more), ends, size) in
      let has_new : HasAt (gate + 1) block new = has_kept gate 1 (gate + 1) block mid new (inr (omega arith)) keeps has in
      let one : HasAt gate (165 ∷ []) new = has_one gate 165 new (omega (arith, has_new.within)) is_open in
      let whole : HasAt gate (records_bytes more ++ 0 ∷ []) new = subst (λ (l : List ℕ). HasAt gate l new) group.are (has_both gate (165 ∷ []) block new one has_new) in
      let records : HasAt gate (records_bytes more) new = has_left gate (records_bytes more) (0 ∷ []) new whole in
      let front : HasAt area.base all new = has_kept gate 1 area.base all mid new (inl (omega (arith, ends))) keeps is.records in
      let both : HasAt area.base (all ++ records_bytes more) new = has_both area.base all (records_bytes more) new front (subst (λ (k : ℕ). HasAt k (records_bytes more) new) (sym at) records) in
      let last : HasAt (gate + length (records_bytes more)) (0 ∷ []) new = has_right gate (records_bytes more) (0 ∷ []) new whole in
      let next_gate : gate + length (records_bytes more) ≡ area.base + length (records_bytes (payloads ++ more)) = omega (arith, length_is, size) in
      let closed_gate : get_or new (area.base + length (records_bytes (payloads ++ more))) 0 ≡ 0 =
      ap (λ (k : ℕ). get_or new k 0) (sym next_gate) ∙ one_has (gate + length (records_bytes more)) 0 [] new last in
      record {
        records = subst (λ (l : List ℕ). HasAt area.base l new) (sym both_are) both;
        gate = record { within = omega (arith, last.within, next_gate); closed = λ open_too. absurd (omega (arith, sym closed_gate ∙ open_too)) };
        room = omega (arith, length_is, fits);
        short = All-append (λ (p : List ℕ). length p ≤ 256) payloads more is.short group.short;
      }

  ends_there : (payloads : List (List ℕ)) (old : List ℕ) → EndsAt area next old → IsJournal area payloads old → length (records_bytes payloads) ≡ next
  ends_there payloads old ends is = ap (λ (ps : List (List ℕ)). length (records_bytes ps)) (one_journal area old payloads ends.0 is ends.1) ∙ ends.2

  -- the first write, cut short anywhere, leaves the list
  pub torn_behind : (old new : List ℕ) → EndsAt area next old → Torn (gate + 1) (length block) old new → MayAppend area more old new
  torn_behind old new ends torn = record {
    keeps = keeps_wider (gate + 1) (length block) area.base area.length old new (omega arith) (omega (arith, fits)) torn.keeps;
    no_longer = omega (arith, torn.no_longer, fits);
    journal = λ payloads is. inl (behind payloads old new (ends_there payloads old ends is) is torn.keeps);
  }

  -- the second leaves it with the new payloads or without
  pub torn_gate : (old mid new : List ℕ) → EndsAt area next old → Written (gate + 1) block old mid → Torn gate 1 mid new → MayAppend area more old new
  torn_gate old mid new ends written torn = record {
    keeps = keeps_then area.base area.length old mid new
        (keeps_wider (gate + 1) (length block) area.base area.length old mid (omega arith)
        (omega (arith, fits)) written.keeps)
        (keeps_wider gate 1 area.base area.length mid new (omega arith) (omega (arith, fits)) torn.keeps);
    no_longer = omega (arith, written.long (some_behind more block group), torn.no_longer, fits);
    journal = λ payloads is. either payloads (ends_there payloads old ends is) is;
  }
    where
      either : (payloads : List (List ℕ)) → length (records_bytes payloads) ≡ next → IsJournal area payloads old → IsJournal area payloads new ⊎ IsJournal area (payloads ++ more) new
      either payloads at is =
          let staged : IsJournal area payloads mid = behind payloads old mid at is written.keeps in
          elim (cases_eq (get_or new gate 0) 165) [
            | inl is_open ↦ inr (opened payloads mid new at staged (written.has (some_behind more block group)) torn.keeps is_open)
            | inr shut ↦ inl (stays payloads mid new at staged torn.keeps shut)
          ]

  pub written_gate : (old mid new : List ℕ) → EndsAt area next old → Written (gate + 1) block old mid → Written gate (165 ∷ []) mid new → Appends area more old new
  written_gate old mid new ends written opens = record {
    keeps = keeps_then area.base area.length old mid new
        (keeps_wider (gate + 1) (length block) area.base area.length old mid (omega arith)
        (omega (arith, fits)) written.keeps)
        (keeps_wider gate 1 area.base area.length mid new (omega arith) (omega (arith, fits)) opens.keeps);
    no_longer = omega (arith, written.long (some_behind more block group), opens.long (omega arith), fits);
    journal = λ payloads is.
        let at = ends_there payloads old ends is in
        let staged : IsJournal area payloads mid = behind payloads old mid at is written.keeps in
        opened payloads mid new at staged (written.has (some_behind more block group)) opens.keeps (one_has gate 165 [] new (opens.has (omega arith)));
  }

  module _ {D : Type 0} (facts : Ghosts D) (d0 d1 d2 : D) (ends : Each (facts.may_leave d0) (EndsAt area next)) where
    pub first_moments : LeavesOnly facts d0 d1 (From (facts.may_leave d0) (Torn (gate + 1) (length block))) → LeavesOnly facts d0 d1 (From (facts.may_leave d0) (MayAppend area more))
    first_moments first =
        weaker facts d0 d1 (From (facts.may_leave d0) (Torn (gate + 1) (length block))) (From (facts.may_leave d0) (MayAppend area more)) first
        (λ file left. (left.0, left.1, torn_behind left.0 file (ends left.0 left.1) left.2))

    pub both_moments : LeavesOnly facts d0 d1 (From (facts.may_leave d0) (Torn (gate + 1) (length block))) → Follows (Written (gate + 1) block) (facts.may_leave d0) (facts.may_leave d1)
        → LeavesOnly facts d1 d2 (From (facts.may_leave d1) (Torn gate 1)) → LeavesOnly facts d0 d2 (From (facts.may_leave d0) (MayAppend area more))
    both_moments first written second =
        and_then facts d0 d1 d2 (From (facts.may_leave d0) (MayAppend area more)) (first_moments first)
        (weaker facts d1 d2 (From (facts.may_leave d1) (Torn gate 1)) (From (facts.may_leave d0) (MayAppend area more)) second
        (λ file left.
        let was = written left.0 left.1 in
        (was.0, was.1, torn_gate was.0 left.0 file (ends was.0 was.1) was.2 left.2)))

    pub acknowledged : Follows (Written (gate + 1) block) (facts.may_leave d0) (facts.may_leave d1)
        → Follows (Written gate (165 ∷ [])) (facts.may_leave d1) (facts.may_leave d2)
        → Follows (Appends area more) (facts.may_leave d0) (facts.may_leave d2)
    acknowledged written opens file left =
        let mid = opens file left in
        let was = written mid.0 mid.1 in
        (was.0, was.1, written_gate was.0 mid.0 file (ends was.0 was.1) was.2 mid.2)

    pub again : Follows (Appends area more) (facts.may_leave d0) (facts.may_leave d2) → Each (facts.may_leave d2) (EndsAt area (next + length block))
    again follows file left =
        let was = follows file left in
        let ended = ends was.0 was.1 in (
          ended.0 ++ more,
          was.2.journal ended.0 ended.1,
          ap length (records_bytes-append ended.0 more)
              ∙ omega (
                arith,
                length-append (records_bytes ended.0) (records_bytes more),
                size,
                ended.2,
              ),
        )
