-- Commands for which room was made come to wait one behind the other.
use Rattle.std.proofs.Common.{◌≡◌, ◌∙◌, ◌⊎◌, inl, inr, ℕ, ◌+◌, ◌-◌, ◌≤◌, true, false, List, [], ◌∷◌, ◌++◌, length, Option, Some, None, Result, Ok, Err, refl, sym, ap, subst, arith, length-append}
use Rattle.std.specs.Prelude.{MatchOption, is_some}
use Rattle.std.proofs.lemmas.Bool.{true≢false}
use Rattle.std.proofs.lemmas.List.{map-append}
use Rattle.store_disk.specs.declared.disk.Disk.{Ghosts}
use Rattle.store_journal.specs.Records.{record_bytes, records_bytes}
use Rattle.store_journal.specs.State.{IsAbove}
use Rattle.store_journal.proofs.Groups.{length-group}
use Rattle.store_journal.proofs.Lengths.{length-push, length-record}
use Rattle.store_project.specs.Groups.{CanPut, GroupState, IsFullFor, Staged, staged_lines}
use Rattle.store_project.specs.Outcomes.{IsEmptied}
use Rattle.store_project.specs.States.{State}
use Rattle.run_canvas.specs.Rooms.{BeginsGroup, ClearsJournal, HasGroup, IsCheckpointed, LacksRoomFor, MakesRoom, TurnsFor, waiting_len}
use Rattle.run_canvas.specs.Waiting.{AreWaiting, CannotWait, ChangesProject, Drawing, IsStaged}

above_more : (room : Option ℕ) (a b : ℕ) → a ≤ b → IsAbove room a → IsAbove room b
above_more None a b more above = tt
above_more (Some room) a b more above = omega (arith, more, above)

len_first : (line : List ℕ) (lines : List (List ℕ)) → length (records_bytes (line ∷ lines)) ≡ 5 + length line + length (records_bytes lines)
len_first line lines = omega (arith, length-append (record_bytes line) (records_bytes lines), length-record line)

no_item : (staged : List Staged) (s : Staged) → ◌≡◌ {A = List Staged} (staged ++ s ∷ []) [] → ⊥
no_item staged s is = absurd (omega (arith, ap length is, length-append staged (s ∷ [])))

not_err : (n : ℕ) → ◌≡◌ {A = Result ℕ ℕ} (Ok n) (Err 30) → ⊥
not_err n is = cc

module _ {D : Type 0} where
  -- how many bytes these waiting commands take
  waits_len : (project : State D) (o : Option GroupState) (staged : List Staged)
      → MatchOption o (staged ≡ []) (λ g. CanPut project g staged) → waiting_len o ≡ length (records_bytes (staged_lines staged))
  waits_len project None staged none = sym (ap (λ (xs : List Staged). length (records_bytes (staged_lines xs))) none)
  waits_len project (Some g) staged can = omega (arith, length-group (staged_lines staged) g.bytes can.lines)

  -- one command more waits
  more_len : (old new : Drawing D) (staged : List Staged) (s : Staged) → AreWaiting old staged → AreWaiting new (staged ++ s ∷ [])
      → waiting_len new.group ≡ waiting_len old.group + 5 + length s.line
  more_len old new staged s before after =
      waits_len new.project new.group (staged ++ s ∷ []) after
      ∙ ap (λ (ls : List (List ℕ)). length (records_bytes ls)) (map-append (λ (t : Staged). t.line) staged (s ∷ []))
      ∙ length-push (staged_lines staged) s.line
      ∙ ap (λ (n : ℕ). n + 5 + length s.line) (sym (waits_len old.project old.group staged before))

  some_waits : (project : State D) (o : Option GroupState) (staged : List Staged) (s : Staged)
      → MatchOption o (staged ++ s ∷ [] ≡ []) (λ g. CanPut project g (staged ++ s ∷ [])) → is_some o ≡ true
  some_waits project None staged s none = absurd (no_item staged s none)
  some_waits project (Some g) staged s can = refl

  -- behind a command that came to wait something waits
  pub staged_some : (old new : Drawing D) (line : List ℕ) (n : ℕ) → IsStaged old line n new → is_some new.group ≡ true
  staged_some old new line n staged =
      let (front, before) = staged.had in
      some_waits new.project new.group front (record { line = line; number = n }) (staged.waits front before)

  -- these lines can wait behind what waits
  pub record HaveRoom (d : Drawing D) (lines : List (List ℕ)) : Type 0 where
    pub together : d.is_alone ≡ false
    pub group : HasGroup d
    pub room : LacksRoomFor d lines → ⊥

  room_behind : (old new : Drawing D) (line : List ℕ) (lines : List (List ℕ)) (n : ℕ) → HaveRoom old (line ∷ lines) → IsStaged old line n new
      → HaveRoom new lines
  room_behind old new line lines n had staged =
      let (front, before) = staged.had in
      let s : Staged = record { line = line; number = n } in
      let len = more_len old new front s before (staged.waits front before) in
      record {
        together = staged.flags.alone ∙ had.together;
        group = inl (staged_some old new line n staged);
        room = λ lacks. had.room (above_more old.project.room (waiting_len new.group + length (records_bytes lines) - 5)
            (waiting_len old.group + length (records_bytes (line ∷ lines)) - 5) (omega (arith, len, len_first line lines))
            (subst (λ (p : State D). IsAbove p.room (waiting_len new.group + length (records_bytes lines) - 5)) staged.project lacks));
      }

  spare_kept : (d : Drawing D) → d.group ≡ None → HasGroup d → d.has_spare ≡ false → ⊥
  spare_kept d none (inl some) gone = absurd (true≢false (sym some ∙ ap is_some none))
  spare_kept d none (inr spare) gone = absurd (true≢false (sym spare ∙ gone))

  -- a line for which there is room has it
  never_full : (old : Drawing D) (line : List ℕ) (lines : List (List ℕ)) (o : Option GroupState) → old.group ≡ o → HaveRoom old (line ∷ lines)
      → MatchOption o (IsAbove old.project.room (length line) ⊎ (old.has_spare ≡ false)) (λ g. IsFullFor old.project g line) → ⊥
  never_full old line lines None is had (inr gone) = spare_kept old is had.group gone
  never_full old line lines None is had (inl full) =
      had.room (above_more old.project.room (length line) (waiting_len old.group + length (records_bytes (line ∷ lines)) - 5)
      (omega (arith, ap waiting_len is, len_first line lines)) full)
  never_full old line lines (Some g) is had full =
      had.room (above_more old.project.room (length g.bytes - 1 + length line) (waiting_len old.group + length (records_bytes (line ∷ lines)) - 5)
      (omega (arith, ap waiting_len is, len_first line lines)) full)

  -- a command for which there is room can wait
  pub can_wait : (old : Drawing D) (line : List ℕ) (lines : List (List ℕ)) → HaveRoom old (line ∷ lines) → CannotWait old line → ⊥
  can_wait old line lines had (inl alone) = absurd (true≢false (sym alone ∙ had.together))
  can_wait old line lines had (inr full) = never_full old line lines old.group refl had full

module _ {D : Type 0} (facts : Ghosts D) where
  -- an accepted command for which there is room waits
  pub waits_behind : (old new : Drawing D) (line : List ℕ) (lines : List (List ℕ)) (n : ℕ) → HaveRoom old (line ∷ lines) → ChangesProject facts old line (Ok n) new
      → IsStaged old line n new × HaveRoom new lines
  waits_behind old new line lines n had (inl staged) = (staged, room_behind old new line lines n had staged)
  waits_behind old new line lines n had (inr (inl (why, done))) = absurd (can_wait old line lines had why)
  waits_behind old new line lines n had (inr (inr (is, gone))) = absurd (not_err n is)

  longer : (mid new : Drawing D) (lines : List (List ℕ)) (n : ℕ) → IsCheckpointed facts mid (Ok n) new → mid.group ≡ None → LacksRoomFor new lines
      → new.project.journal ≤ length (records_bytes lines)
  longer mid new lines n turned none lacks =
      let empty : new.group ≡ None = ap (λ (d : Drawing D). d.group) turned.others ∙ none in
      let emptied : IsEmptied new.project = turned.made.emptied in
      let above : IsAbove (Some (new.project.journal - 6)) (0 + length (records_bytes lines) - 5) =
      subst (λ (o : Option ℕ). IsAbove o (0 + length (records_bytes lines) - 5)) emptied
      (subst (λ (o : Option GroupState). IsAbove new.project.room (waiting_len o + length (records_bytes lines) - 5)) empty lacks) in
      omega (arith, above)

  turned_room : (mid new : Drawing D) (lines : List (List ℕ)) → TurnsFor facts mid lines None new → mid.group ≡ None
      → LacksRoomFor new lines → new.project.journal ≤ length (records_bytes lines)
  turned_room mid new lines (inl (room, same)) none lacks = absurd (room (subst (λ (d : Drawing D). LacksRoomFor d lines) same lacks))
  turned_room mid new lines (inr (lacked, (n, turned))) none lacks = longer mid new lines n turned none lacks

  abbrev FitsOrLonger : Drawing D → List (List ℕ) → Type 0
  FitsOrLonger d lines = LacksRoomFor d lines → d.project.journal ≤ length (records_bytes lines)

  cleared_room : (old new : Drawing D) (lines : List (List ℕ)) → ClearsJournal facts old lines None new → FitsOrLonger new lines
  cleared_room old new lines (inl (room, same)) lacks = absurd (room (subst (λ (d : Drawing D). LacksRoomFor d lines) same lacks))
  cleared_room old new lines (inr (mid, put, turns)) lacks = turned_room mid new lines turns put.settled.none lacks

  begun_room : (old new : Drawing D) (lines : List (List ℕ)) → BeginsGroup old None new → FitsOrLonger old lines → FitsOrLonger new lines
  begun_room old new lines (inl (has, same)) fits = subst (λ (d : Drawing D). FitsOrLonger d lines) (sym same) fits
  begun_room old new lines (inr (none, is)) fits = subst (λ (d : Drawing D). FitsOrLonger d lines) (sym is) fits

  begun_group : (old new : Drawing D) → BeginsGroup old None new → HasGroup new
  begun_group old new (inl (has, same)) = subst (λ (d : Drawing D). HasGroup d) (sym same) has
  begun_group old new (inr (none, is)) = inr (ap (λ (d : Drawing D). d.has_spare) is)

  -- what room was made for finds it, unless it is longer than a journal
  pub room_or_longer : (old new : Drawing D) (lines : List (List ℕ)) → old.is_alone ≡ false → MakesRoom facts old lines None new → FitsOrLonger new lines
  room_or_longer old new lines together (inl (alone, same)) = absurd (true≢false (sym alone ∙ together))
  room_or_longer old new lines together (inr (is, mid, clears, begins)) = begun_room mid new lines begins (cleared_room old mid lines clears)

  -- it has a group to wait in
  pub group_made : (old new : Drawing D) (lines : List (List ℕ)) → old.is_alone ≡ false → MakesRoom facts old lines None new → HasGroup new
  group_made old new lines together (inl (alone, same)) = absurd (true≢false (sym alone ∙ together))
  group_made old new lines together (inr (is, mid, clears, begins)) = begun_group mid new begins
