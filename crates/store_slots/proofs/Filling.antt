-- The file after the two writes of `fill`.
use Rattle.std.proofs.Common.{◌≡◌, inl, ◌<◌, ◌≤◌, ◌+◌, ◌^◌, ℕ, List, [], ◌∷◌, length, subst, arith, length-append}
use Rattle.store_disk.specs.Files.{HasAt, KeepsOutside, Torn, Written}
use Rattle.store_disk.specs.Gates.{IsClosedAt}
use Rattle.store_disk.specs.Moments.{LeavesOnly}
use Rattle.store_disk.specs.Stops.{Each, Elapses, From, Follows}
use Rattle.store_disk.specs.declared.disk.Disk.{Ghosts}
use Rattle.store_disk.proofs.Moments.{started, goes_on, weaker, and_then}
use Rattle.store_disk.specs.declared.area.Area.{Area}
use Rattle.store_disk.proofs.Gates.{closed_kept}
use Rattle.store_disk.proofs.Bytes.{torn_itself, written_torn, keeps_wider, has_left, has_right}
use Rattle.store_slots.specs.Bodies.{head_bytes, content_bytes, HasContent}
use Rattle.store_slots.specs.Handles.{live_of, other_of, generation_of, second_of}
use Rattle.store_slots.specs.Steps.{IsLiveBy, MayFill, Fills, HasClosed, HasFilled}
use Rattle.store_slots.specs.declared.slots.Slots.{Slots}
use Rattle.store_slots.proofs.Kept.{content_kept, open_kept, live_kept}
use Rattle.store_slots.proofs.Gate.{are_apart, apart_from}

pub length-content : (g : ℕ) (body : List ℕ) → length (content_bytes g body) ≡ 12 + length body
length-content g body = length-append (head_bytes g (length body)) body

-- the written bytes are at their offset, also if there are none
pub written_has : (at : ℕ) (bytes old new : List ℕ) → at ≤ length new → Written at bytes old new → HasAt at bytes new
written_has at [] old new le written = record { within = omega (arith, le); same = λ i lt. absurd (omega (arith, lt)) }
written_has at (b ∷ bytes) old new le written = written.has (omega arith)

module _ (s : Slots) (journal : Area) (body : List ℕ) (fits : 13 + length body ≤ (other_of s).length) (number : generation_of s + 1 < 2 ^ 64) (count : length body < 2 ^ 32)
    (behind : (second_of s).base + (second_of s).length ≤ journal.base) where
  abbrev at : ℕ
  at = (other_of s).base

  abbrev content : List ℕ
  content = content_bytes (generation_of s + 1) body

  size : length content ≡ 12 + length body
  size = length-content (generation_of s + 1) body

  -- the content of a closed slot is written
  live_staged : (old mid : List ℕ) → IsClosedAt at old → KeepsOutside (at + 1) (length content) old mid → (live_body : List ℕ) → IsLiveBy s live_body old → IsLiveBy s live_body mid
  live_staged old mid shut keeps live_body is = record {
    is_open = open_kept (at + 1) (length content) old mid keeps (live_of s) (generation_of s) live_body (apart_from s (at + 1) (length content) (omega arith) (omega (arith, size, fits))) is.is_open;
    behind = inl (closed_kept at (at + 1) (length content) old mid (inl (omega arith)) keeps shut);
  }

  -- the first gate of the other journal is written
  live_marked : (mid new : List ℕ) → KeepsOutside journal.base 1 mid new → (live_body : List ℕ) → IsLiveBy s live_body mid → IsLiveBy s live_body new
  live_marked mid new keeps live_body is =
      let ends = (are_apart s).before journal.base behind in
      live_kept journal.base 1 mid new keeps (live_of s) (other_of s) (generation_of s) live_body (are_apart s).other_some (inl ends.0) (inl ends.1) is

  inside : (old mid : List ℕ) → KeepsOutside (at + 1) (length content) old mid → KeepsOutside at (other_of s).length old mid
  inside old mid keeps = keeps_wider (at + 1) (length content) at (other_of s).length old mid (omega arith) (omega (arith, size, fits)) keeps

  pub may_both : (old mid new : List ℕ) → IsClosedAt at old → Torn (at + 1) (length content) old mid → Torn journal.base 1 mid new → MayFill s journal old new
  may_both old mid new shut first second =
      let ends = (are_apart s).before journal.base behind in
      record {
        middle = mid;
        first = inside old mid first.keeps;
        second = second.keeps;
        no_longer = omega (arith, second.no_longer, first.no_longer, size, fits, ends.1);
        live = λ live_body is. live_marked mid new second.keeps live_body (live_staged old mid shut first.keeps live_body is);
      }

  pub may_first : (old mid : List ℕ) → IsClosedAt at old → Torn (at + 1) (length content) old mid → MayFill s journal old mid
  may_first old mid shut first = may_both old mid mid shut first (torn_itself journal.base 1 mid)

  pub fills : (old mid new : List ℕ) → IsClosedAt at old → Written (at + 1) content old mid → Written journal.base (0 ∷ []) mid new → Fills s body journal old new
  fills old mid new shut first second =
      let ends = (are_apart s).before journal.base behind in
      let has : HasAt (at + 1) content mid = first.has (omega (arith, size)) in
      let there : at + 1 + 12 ≡ at + 13 = omega arith in
      let stands : HasAt (at + 13) body mid = subst (λ (k : ℕ). HasAt k body mid) there (has_right (at + 1) (head_bytes (generation_of s + 1) (length body)) body mid has) in
      let staged : HasContent (other_of s) (generation_of s + 1) body mid = record {
        head = record {
          head = has_left (at + 1) (head_bytes (generation_of s + 1) (length body)) body mid has;
          room = fits;
          within = stands.within;
          number = number;
          count = count;
        };
        stands = stands;
      } in
      record {
        may = may_both old mid new shut (written_torn (at + 1) content old mid first) (written_torn journal.base (0 ∷ []) mid new second);
        closed = closed_kept at journal.base 1 mid new
            (inl (omega (arith, ends.1, (are_apart s).other_some))) second.keeps
            (closed_kept at (at + 1) (length content) old mid (inl (omega arith)) first.keeps shut);
        content = content_kept journal.base 1 mid new second.keeps (other_of s) (generation_of s + 1) body (inl ends.1) staged;
        begins = second.has (omega arith);
      }

  -- the same about images, as the clauses state it
  module _ {D : Type 0} (facts : Ghosts D) (d0 d1 d2 : D) (place : ℕ) (bytes : List ℕ) (there : place ≡ at + 1) (is : bytes ≡ content)
      (shut : Each (facts.may_leave d0) (IsClosedAt at)) (only_now : (file : List ℕ) → facts.left_since d0 (facts.moment d0) file → facts.may_leave d0 file)
      (torn : Follows (Torn place (length bytes)) (facts.may_leave d0) (facts.may_leave d1))
      (time : Elapses (facts.moment d0) (facts.moment d1) (facts.left_since d0) (facts.left_since d1)
      (facts.may_leave d1)) where
    abbrev May : List ℕ → Type 0
    May = From (facts.may_leave d0) (MayFill s journal)

    staged_from : (old mid : List ℕ) → Torn place (length bytes) old mid → Torn (at + 1) (length content) old mid
    staged_from old mid torn =
        subst (λ (k : ℕ). Torn k (length content) old mid) there (subst (λ (l : List ℕ). Torn place (length l) old mid) is torn)

    pub first_moments : LeavesOnly facts d0 d1 May
    first_moments =
        goes_on facts d0 d0 d1 May (facts.may_leave d1)
        (started facts d0 May (λ file left. let now = only_now file left in (file, now, may_first file file (shut file now) (torn_itself (at + 1) (length content) file))))
        time
        (λ file left. let was = torn file left in (was.0, was.1, may_first was.0 file (shut was.0 was.1) (staged_from was.0 file was.2)))

    pub both_moments : LeavesOnly facts d1 d2 (From (facts.may_leave d1) (Torn journal.base 1)) → LeavesOnly facts d0 d2 May
    both_moments second =
        and_then facts d0 d1 d2 May first_moments
        (weaker facts d1 d2 (From (facts.may_leave d1) (Torn journal.base 1)) May second
        (λ file left.
        let was = torn left.0 left.1 in
        (was.0, was.1, may_both was.0 left.0 file (shut was.0 was.1) (staged_from was.0 left.0 was.2) left.2)))

    pub filled : ((file : List ℕ) → facts.reads d0 file → facts.may_leave d0 file) → Follows (Written place bytes) (facts.reads d0) (facts.reads d1)
        → Follows (Written journal.base (0 ∷ [])) (facts.reads d1) (facts.reads d2)
        → Each (facts.may_leave d2) (facts.reads d2)
        → Follows (Fills s body journal) (facts.may_leave d0) (facts.may_leave d2)
    filled reads_image first second durable file left =
        let marked = second file (durable file left) in
        let staged = first marked.0 marked.1 in
        let image = reads_image staged.0 staged.1 in (
          staged.0,
          image,
          fills staged.0 marked.0 file (shut staged.0 image)
              (subst (λ (k : ℕ). Written k content staged.0 marked.0) there (subst (λ (l : List ℕ). Written place l staged.0 marked.0) is staged.2)) marked.2,
        )

-- what `open_other` requires
pub fill_ready : (s : Slots) (body : List ℕ) (journal : Area) (old new : List ℕ → Type 0) → Each old (HasClosed s) → Follows (Fills s body journal) old new → Each new (HasFilled s)
fill_ready s body journal old new ready fills file left =
    let was = fills file left in
    let before = (ready was.0 was.1).live in
    record {
      closed = record { live = (before.0, was.2.may.live before.0 before.1); closed = was.2.closed };
      filled = (body, was.2.content);
    }
