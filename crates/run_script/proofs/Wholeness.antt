-- The commands of a shape wait together.
use Rattle.std.proofs.Common.{◌≡◌, ◌∙◌, ◌⊎◌, ◌≤◌, inl, inr, ℕ, Bool, true, false, List, [], ◌∷◌, ◌++◌, length, None, Ok, Err, Result, refl, sym, ap, subst, append-nil, append_assoc, arith}
use Rattle.std.proofs.Math.Dec.{leb}
use Rattle.std.proofs.lemmas.Bool.{leb-true, leb-false, true≢false}
use Rattle.std.specs.Prelude.{is_some}
use Rattle.store_disk.specs.declared.disk.Disk.{Ghosts}
use Rattle.store_journal.specs.Records.{records_bytes}
use Rattle.store_project.specs.Groups.{Staged}
use Rattle.run_canvas.specs.Canvases.{project_canvas}
use Rattle.run_canvas.specs.RoomLaws.{room_made}
use Rattle.run_canvas.specs.Rooms.{MakesRoom}
use Rattle.run_canvas.specs.Waiting.{AreWaiting, ChangesProject, Drawing, IsStaged, IsUnchanged}
use Rattle.run_canvas.proofs.Gathering.{HaveRoom, can_wait, group_made, room_or_longer, staged_some, waits_behind}
use Rattle.run_script.specs.Shaped.{DoesAll, DrawsShape, StopsAmong, command_lines}
use Rattle.run_script.specs.Whole.{IsDrawnWhole, IsRefusedWhole, StopsTogether, WaitTogether}

module _ {D : Type 0} (facts : Ghosts D) where
  wait_none : (old new : Drawing D) → new ≡ old → WaitTogether old [] new
  wait_none old new same = record {
    staged = [];
    are = refl;
    wait = λ before waits. subst (λ (xs : List Staged). AreWaiting new xs) (sym (append-nil before)) (subst (λ (d : Drawing D). AreWaiting d before) (sym same) waits);
    project = ap (λ (d : Drawing D). d.project) same;
  }

  wait_behind : (old mid new : Drawing D) (line : List ℕ) (lines : List (List ℕ)) (n : ℕ) → IsStaged old line n mid → WaitTogether mid lines new
      → WaitTogether old (line ∷ lines) new
  wait_behind old mid new line lines n staged others =
      let s : Staged = record { line = line; number = n } in record {
        staged = s ∷ others.staged;
        are = ap (λ (ls : List (List ℕ)). line ∷ ls) others.are;
        wait = λ before waits. subst (λ (xs : List Staged). AreWaiting new xs) (append_assoc before (s ∷ []) others.staged)
            (others.wait (before ++ s ∷ []) (staged.waits before waits));
        project = others.project ∙ staged.project;
      }

  -- commands for which there is room all wait
  all_wait : (lines : List (List ℕ)) (old new : Drawing D) → HaveRoom old lines → DoesAll (project_canvas facts) lines old new → WaitTogether old lines new
  all_wait [] old new had same = wait_none old new same
  all_wait (line ∷ lines) old new had (mid, (n, changed), rest) =
      let (staged, room) = waits_behind facts old mid line lines n had changed in
      wait_behind old mid new line lines n staged (all_wait lines mid new room rest)

  err_is : (a b : ℕ) → ◌≡◌ {A = Result ℕ ℕ} (Err a) (Err b) → a ≡ b
  err_is a b is = cc

  -- where a command is refused, those before it wait as they did
  wait_same : (old new : Drawing D) → IsUnchanged old new → WaitTogether old [] new
  wait_same old new same = record {
    staged = [];
    are = refl;
    wait = λ before waits. subst (λ (xs : List Staged). AreWaiting new xs) (sym (append-nil before)) (same.waits before waits);
    project = same.project;
  }

  stops_at : (line : List ℕ) (back : List (List ℕ)) (old new : Drawing D) (code : ℕ) → HaveRoom old (line ∷ back) → ChangesProject facts old line (Err code) new
      → StopsTogether facts old (line ∷ back) code new
  stops_at line back old new code had (inl (same, why)) = inl ([], line, back, refl, wait_same old new same)
  stops_at line back old new code had (inr (inl (why, done))) = absurd (can_wait old line back had why)
  stops_at line back old new code had (inr (inr (is, gone))) = inr (err_is code 30 is, line, back, refl, gone)

  -- commands for which there is room wait up to one that is refused
  stops_behind : (front : List (List ℕ)) (line : List ℕ) (back : List (List ℕ)) (old mid new : Drawing D) (code : ℕ) → HaveRoom old (front ++ line ∷ back)
      → DoesAll (project_canvas facts) front old mid → ChangesProject facts mid line (Err code) new → StopsTogether facts old (front ++ line ∷ back) code new
  stops_behind [] line back old mid new code had same change =
      stops_at line back old new code had (subst (λ (d : Drawing D). ChangesProject facts d line (Err code) new) same change)
  stops_behind (l ∷ ls) line back old mid new code had (next, (n, changed), rest) change =
      let (staged, room) = waits_behind facts old next l (ls ++ line ∷ back) n had changed in
      go staged (stops_behind ls line back next mid new code room rest change)
    where
      go : IsStaged old l n next → StopsTogether facts next (ls ++ line ∷ back) code new → StopsTogether facts old (l ∷ ls ++ line ∷ back) code new
      go staged (inl (front, d, others, is, wait)) =
          inl (l ∷ front, d, others, ap (λ (xs : List (List ℕ)). l ∷ xs) is, wait_behind old next new l front n staged wait)
      go staged (inr (is, d, others, same, gone)) = absurd (true≢false (sym (staged_some old next l n staged) ∙ ap is_some gone.first))

  stops_among : (lines : List (List ℕ)) (old new : Drawing D) (code : ℕ) → HaveRoom old lines → StopsAmong (project_canvas facts) lines old code new
      → StopsTogether facts old lines code new
  stops_among lines old new code had (mid, front, line, back, is, does, stop) =
      subst (λ (ls : List (List ℕ)). StopsTogether facts old ls code new) (sym is)
      (stops_behind front line back old mid new code (subst (λ (ls : List (List ℕ)). HaveRoom old ls) is had) does stop)

  -- room was made for these, or they are longer than a journal
  room_for : (lines : List (List ℕ)) (old mid : Drawing D) → old.is_alone ≡ false → MakesRoom facts old lines None mid
      → HaveRoom mid lines ⊎ (mid.project.journal ≤ length (records_bytes lines))
  room_for lines old mid together room = by (leb mid.project.journal (length (records_bytes lines))) refl
    where
      by : (b : Bool) → leb mid.project.journal (length (records_bytes lines)) ≡ b → HaveRoom mid lines ⊎ (mid.project.journal ≤ length (records_bytes lines))
      by true is = inr (leb-true mid.project.journal (length (records_bytes lines)) is)
      by false is = inl (record {
        together = (room_made facts old mid lines room).0 ∙ together;
        group = group_made facts old mid lines together room;
        room = λ lacks. absurd (omega (arith, leb-false mid.project.journal (length (records_bytes lines)) is, room_or_longer facts old mid lines together room lacks));
      })

  ends_whole : (lines : List (List ℕ)) (mid new : Drawing D) → HaveRoom mid lines ⊎ (mid.project.journal ≤ length (records_bytes lines))
      → DoesAll (project_canvas facts) lines mid new → WaitTogether mid lines new ⊎ (mid.project.journal ≤ length (records_bytes lines))
  ends_whole lines mid new (inl had) done = inl (all_wait lines mid new had done)
  ends_whole lines mid new (inr longer) done = inr longer

  stops_whole : (lines : List (List ℕ)) (mid new : Drawing D) (code : ℕ) → HaveRoom mid lines ⊎ (mid.project.journal ≤ length (records_bytes lines))
      → StopsAmong (project_canvas facts) lines mid code new → StopsTogether facts mid lines code new ⊎ (mid.project.journal ≤ length (records_bytes lines))
  stops_whole lines mid new code (inl had) stops = inl (stops_among lines mid new code had stops)
  stops_whole lines mid new code (inr longer) stops = inr longer

  pub drawn_whole : (old new : Drawing D) (line : List ℕ) (answer : ℕ) → old.is_alone ≡ false → DrawsShape (project_canvas facts) line old (Ok answer) new
      → IsDrawnWhole facts line old answer new
  drawn_whole old new line answer together (commands, planned, mid, room, done) =
      (commands, planned, mid, room, ends_whole (command_lines commands) mid new (room_for (command_lines commands) old mid together room) done)

  pub refused_whole : (old new : Drawing D) (line : List ℕ) (code : ℕ) → old.is_alone ≡ false → DrawsShape (project_canvas facts) line old (Err code) new
      → IsRefusedWhole facts line old code new
  refused_whole old new line code together (inl whole) = inl whole
  refused_whole old new line code together (inr (commands, answer, planned, inl none)) = inr (commands, answer, planned, inl none)
  refused_whole old new line code together (inr (commands, answer, planned, inr (mid, room, stops))) =
      inr (commands, answer, planned, inr (mid, room, stops_whole (command_lines commands) mid new code (room_for (command_lines commands) old mid together room) stops))
