-- What `open` finds in two slots, and what `first` writes there.
use Rattle.std.proofs.Common.{◌≡◌, inl, ◌<◌, ◌≤◌, ◌+◌, ◌^◌, ℕ, List, [], ◌∷◌, length, Option, None, Some, ap, subst, arith}
use Rattle.store_disk.specs.Files.{HasAt, Written}
use Rattle.store_disk.specs.declared.area.Area.{Area}
use Rattle.store_disk.proofs.Gates.{closed_now}
use Rattle.store_disk.proofs.Bytes.{keeps_wider, keeps_then, has_kept, has_left, has_right}
use Rattle.store_slots.specs.Bodies.{head_bytes, HasContent}
use Rattle.store_slots.specs.Damage.{IsBadSlot}
use Rattle.store_slots.specs.Heads.{ShowsHead}
use Rattle.store_slots.specs.Steps.{IsFirst}
use Rattle.store_slots.specs.declared.heads.Head.{Head}
use Rattle.store_slots.proofs.Kept.{content_kept}
use Rattle.store_slots.proofs.OneBody.{whole_slot, closed_slot}
use Rattle.store_slots.proofs.Filling.{written_has}

-- a slot whose head was found isn't bad
pub not_bad : (slot : Area) (found : Option Head) (file : List ℕ) → ShowsHead slot found file → IsBadSlot slot file → ⊥
not_bad slot None file shut = closed_slot slot file shut
not_bad slot (Some head) file is = whole_slot slot file head.generation head.len is

module _ (a b : Area) (body head : List ℕ) (fits : 13 + length body ≤ a.length) (order : a.base + a.length ≤ b.base) (count : length body < 2 ^ 32) (is : head ≡ 165 ∷ head_bytes 1 (length body)) where
  pub is_first : (old one two new : List ℕ) → Written a.base head old one → Written (a.base + 13) body one two → Written b.base (0 ∷ []) two new → IsFirst a b body old new
  is_first old one two new w1 w2 w3 =
      let size : length head ≡ 13 = ap length is in
      let begun : HasAt a.base (165 ∷ head_bytes 1 (length body)) one = subst (λ (l : List ℕ). HasAt a.base l one) is (w1.has (omega (arith, size))) in
      let gate_one : HasAt a.base (165 ∷ []) one = has_left a.base (165 ∷ []) (head_bytes 1 (length body)) one begun in
      let head_one : HasAt (a.base + 1) (head_bytes 1 (length body)) one = has_right a.base (165 ∷ []) (head_bytes 1 (length body)) one begun in
      let gate_two : HasAt a.base (165 ∷ []) two = has_kept (a.base + 13) (length body) a.base (165 ∷ []) one two (inl (omega arith)) w2.keeps gate_one in
      let head_two : HasAt (a.base + 1) (head_bytes 1 (length body)) two =
      has_kept (a.base + 13) (length body) (a.base + 1) (head_bytes 1 (length body)) one two
      (inl (omega arith)) w2.keeps head_one in
      let stands : HasAt (a.base + 13) body two = written_has (a.base + 13) body one two (omega (arith, begun.within, size, is, w2.keeps.no_shorter)) w2 in
      let content : HasContent a 1 body two = record { head = record { head = head_two; room = fits; within = stands.within; number = omega arith; count = count }; stands = stands } in
      record {
        middle = two;
        at_a = keeps_then a.base a.length old one two (keeps_wider a.base (length head) a.base a.length old one (omega arith) (omega (arith, size, fits)) w1.keeps)
            (keeps_wider (a.base + 13) (length body) a.base a.length one two (omega arith) (omega (arith, fits)) w2.keeps);
        at_b = w3.keeps;
        live = record {
          is_open = record {
            gate = has_kept b.base 1 a.base (165 ∷ []) two new (inl (omega (arith, order, fits))) w3.keeps gate_two;
            content = content_kept b.base 1 two new w3.keeps a 1 body (inl order) content;
          };
          behind = inl (closed_now b.base two new w3);
        };
        closed = closed_now b.base two new w3;
      }
