-- What the three steps of a change of the live slot make of a project's file.
use Rattle.std.proofs.Common.{◌≡◌, ◌⊎◌, inl, inr, ⊎_elim, ◌≤◌, ◌+◌, ℕ, List, [], ◌∷◌, length, refl, sym, ◌∙◌, subst, arith}
use Rattle.store_disk.specs.Files.{HasAt, KeepsOutside}
use Rattle.store_disk.specs.Gates.{IsClosedAt}
use Rattle.store_disk.specs.declared.area.Area.{Area}
use Rattle.store_disk.proofs.Bytes.{has_kept, one_has}
use Rattle.store_journal.specs.Records.{IsJournal}
use Rattle.store_journal.proofs.Kept.{journal_kept, journal_none}
use Rattle.store_slots.specs.Bodies.{HasContent, IsLive}
use Rattle.store_slots.specs.Handles.{live_of, other_of, generation_of}
use Rattle.store_slots.specs.Steps.{IsLiveBy, IsNextBy, KeepsLive, MayFill, Fills, OpensOther, MayOpenOther}
use Rattle.store_slots.specs.declared.slots.Slots.{Slots}
use Rattle.map_tables.specs.Projects.{ProjectMaps, WellFormedProject}
use Rattle.map_tables.specs.ProjectBody.{project_body}
use Rattle.store_project.specs.Places.{IsInOrder}
use Rattle.store_project.specs.Stands.{StandsAt}
use Rattle.store_project.specs.Turns.{turned, KeepsHeader, MayTurn, Turns}
use Rattle.store_project.specs.declared.places.Parts.{Parts}
use Rattle.store_project.proofs.Placing.{header_kept}

module _ (s : Slots) (q : Parts) (order : IsInOrder q) (live_is : live_of s ≡ q.live) (other_is : other_of s ≡ q.other) (cap : ℕ) where
  abbrev g : ℕ
  g = generation_of s

  to_parts : (x file : List ℕ) → IsLiveBy s x file → IsLive q.live q.other g x file
  to_parts x file is = subst (λ (a : Area). IsLive a q.other g x file) live_is (subst (λ (a : Area). IsLive (live_of s) a g x file) other_is is)

  of_parts : (x file : List ℕ) → IsLive q.live q.other g x file → IsLiveBy s x file
  of_parts x file is = subst (λ (a : Area). IsLive (live_of s) a g x file) (sym other_is) (subst (λ (a : Area). IsLive a q.other g x file) (sym live_is) is)

  next_parts : (x file : List ℕ) → IsNextBy s x file → IsLive q.other q.live (g + 1) x file
  next_parts x file is = subst (λ (a : Area). IsLive q.other a (g + 1) x file) live_is (subst (λ (a : Area). IsLive a (live_of s) (g + 1) x file) other_is is)

  -- bytes of the other slot change
  slot_keeps : (old new : List ℕ) → KeepsOutside (other_of s).base (other_of s).length old new → KeepsOutside q.other.base q.other.length old new
  slot_keeps old new keeps = subst (λ (a : Area). KeepsOutside a.base a.length old new) other_is keeps

  slot_header : (old new : List ℕ) → KeepsOutside (other_of s).base (other_of s).length old new → KeepsHeader old new
  slot_header old new keeps = header_kept q.other.base q.other.length old new order.header (slot_keeps old new keeps)

  slot_journal : (old new : List ℕ) → KeepsOutside (other_of s).base (other_of s).length old new → (lines : List (List ℕ)) → IsJournal q.journal lines old → IsJournal q.journal lines new
  slot_journal old new keeps lines is = journal_kept q.journal lines q.other.base q.other.length old new (inr order.other_first) (slot_keeps old new keeps) is

  -- the first byte of the other journal changes
  mark_header : (old new : List ℕ) → KeepsOutside q.other_journal.base 1 old new → KeepsHeader old new
  mark_header old new keeps = header_kept q.other_journal.base 1 old new (omega (arith, order.header, order.other_behind)) keeps

  mark_journal : (old new : List ℕ) → KeepsOutside q.other_journal.base 1 old new → (lines : List (List ℕ)) → IsJournal q.journal lines old → IsJournal q.journal lines new
  mark_journal old new keeps lines is =
      journal_kept q.journal lines q.other_journal.base 1 old new (⊎_elim (λ below. inl below) (λ above. inr (omega (arith, above, order.other_room))) order.journals) keeps is

  stands_kept : (map : ProjectMaps) (old new : List ℕ) → length old ≤ length new → (st : StandsAt cap q map g old)
      → ((x : List ℕ) → IsLiveBy s x old → IsLiveBy s x new) → ((lines : List (List ℕ)) → IsJournal q.journal lines old → IsJournal q.journal lines new) → StandsAt cap q map g new
  stands_kept map old new longer st live journal = record {
    base = st.base;
    bytes = st.bytes;
    lines = st.lines;
    well_formed = st.well_formed;
    body = st.body;
    live = to_parts st.bytes new (live st.bytes (of_parts st.bytes old st.live));
    journal = journal st.lines st.journal;
    other = omega (arith, st.other, longer);
    leads = st.leads;
  }

  -- the other slot is closed
  pub close_stands : (map : ProjectMaps) (old new : List ℕ) → KeepsLive s old new → StandsAt cap q map g old → StandsAt cap q map g new
  close_stands map old new keeps st = stands_kept map old new keeps.keeps.no_shorter st keeps.live (slot_journal old new keeps.keeps)

  -- it is filled
  pub fill_stands : (map : ProjectMaps) (old new : List ℕ) → MayFill s q.other_journal old new → StandsAt cap q map g old → StandsAt cap q map g new
  fill_stands map old new may st =
      stands_kept map old new (omega (arith, may.first.no_shorter, may.second.no_shorter)) st may.live
      (λ lines is. mark_journal may.middle new may.second lines (slot_journal old may.middle may.first lines is))

  pub fill_header : (old new : List ℕ) → MayFill s q.other_journal old new → KeepsHeader old new
  fill_header old new may bytes short has = mark_header may.middle new may.second bytes short (slot_header old may.middle may.first bytes short has)

  -- it is opened: the new live slot has the map, and a journal without records
  turned_stands : (map : ProjectMaps) (old new : List ℕ) → KeepsOutside (other_of s).base (other_of s).length old new
      → HasAt q.other_journal.base (0 ∷ []) old → WellFormedProject map → (st : StandsAt cap q map g old)
      → IsNextBy s (project_body map) new → StandsAt cap (turned q) map (g + 1) new
  turned_stands map old new keeps begins formed st next =
      let begun : HasAt q.other_journal.base (0 ∷ []) new = has_kept q.other.base q.other.length q.other_journal.base (0 ∷ []) old new (inr order.other_behind) (slot_keeps old new keeps) begins in
      let shut : IsClosedAt q.other_journal.base new =
      record {
        within = omega (arith, begun.within);
        closed = λ is_open.
            absurd (omega (arith, sym (one_has q.other_journal.base 0 [] new begun) ∙ is_open));
      } in
      let journal = slot_journal old new keeps st.lines st.journal in
      record {
        base = map;
        bytes = project_body map;
        lines = [];
        well_formed = formed;
        body = inl refl;
        live = next_parts (project_body map) new next;
        journal = journal_none q.other_journal new (omega (arith, order.other_room)) shut;
        other = omega (arith, journal.gate.within);
        leads = refl;
      }

  -- the three steps, each from a file of before
  module _ (bytes : List ℕ) where
    pub turn_closing : (old new : List ℕ) → KeepsLive s old new → MayTurn cap g q bytes old new
    turn_closing old new keeps = record {
      header = slot_header old new keeps.keeps;
      stands = λ map formed is st. inl (close_stands map old new keeps st);
    }

    pub turn_filling : (old mid new : List ℕ) → KeepsLive s old mid → MayFill s q.other_journal mid new → MayTurn cap g q bytes old new
    turn_filling old mid new closed may = record {
      header = λ b short has. fill_header mid new may b short (slot_header old mid closed.keeps b short has);
      stands = λ map formed is st. inl (fill_stands map mid new may (close_stands map old mid closed st));
    }

    pub turn_opening : (old mid last new : List ℕ) → KeepsLive s old mid → Fills s bytes q.other_journal mid last → MayOpenOther s last new → MayTurn cap g q bytes old new
    turn_opening old mid last new closed fills may = record {
      header = λ b short has. slot_header last new may.keeps b short (fill_header mid last fills.may b short (slot_header old mid closed.keeps b short has));
      stands = λ map formed is st. at map formed is (fill_stands map mid last fills.may (close_stands map old mid closed st));
    }
      where
        at : (map : ProjectMaps) → WellFormedProject map → project_body map ≡ bytes → StandsAt cap q map g last → StandsAt cap q map g new ⊎ StandsAt cap (turned q) map (g + 1) new
        at map formed is st =
            let content : HasContent (other_of s) (g + 1) (project_body map) last = subst (λ (x : List ℕ). HasContent (other_of s) (g + 1) x last) (sym is) fills.content in
            ⊎_elim
            (λ (live : IsLiveBy s st.bytes new). inl (record {
              base = st.base;
              bytes = st.bytes;
              lines = st.lines;
              well_formed = st.well_formed;
              body = st.body;
              live = to_parts st.bytes new live;
              journal = slot_journal last new may.keeps st.lines st.journal;
              other = omega (arith, st.other, may.keeps.no_shorter);
              leads = st.leads;
            }))
            (λ (next : IsNextBy s (project_body map) new). inr (turned_stands map last new may.keeps fills.begins formed st next))
            (may.either st.bytes (project_body map) (of_parts st.bytes last st.live) content)

    pub turn_opened : (old mid last new : List ℕ) → KeepsLive s old mid → Fills s bytes q.other_journal mid last → OpensOther s last new → Turns cap g q bytes old new
    turn_opened old mid last new closed fills opens = record {
      header = λ b short has. slot_header last new opens.keeps b short (fill_header mid last fills.may b short (slot_header old mid closed.keeps b short has));
      stands = λ map formed is st. turned_stands map last new opens.keeps fills.begins formed (fill_stands map mid last fills.may (close_stands map old mid closed st))
          (opens.live (project_body map) (subst (λ (x : List ℕ). HasContent (other_of s) (g + 1) x last) (sym is) fills.content));
    }
