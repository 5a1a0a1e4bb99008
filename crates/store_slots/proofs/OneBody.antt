-- Two slots stand for at most one body.
use Rattle.std.proofs.Common.{◌≡◌, ◌⊎◌, inl, inr, ⊎_elim, ◌<◌, ◌+◌, ◌^◌, ℕ, List, length, refl, sym, ◌∙◌, ap, subst, arith}
use Rattle.std.proofs.lemmas.Nat.{from_le_bytes-to_le_bytes_4, from_le_bytes-to_le_bytes_8}
use Rattle.std.specs.Int.{to_le_bytes, from_le_bytes, w32, w64}
use Rattle.store_disk.specs.Files.{HasAt}
use Rattle.store_disk.specs.Gates.{IsClosedAt}
use Rattle.store_disk.specs.declared.area.Area.{Area}
use Rattle.store_disk.proofs.Bytes.{has_left, has_right, has_same}
use Rattle.store_slots.specs.Bodies.{HasHead, IsOpenWith, IsOlder, IsLive}
use Rattle.store_slots.specs.Damage.{HasBadBodyLength, IsBadSlot, AreSlotsDamagedAt, AreBlank}
use Rattle.store_slots.proofs.Kept.{open_with, not_closed}

count_same : (place n m : ℕ) (file : List ℕ) → n < 2 ^ 32 → m < 2 ^ 32 → HasAt place (to_le_bytes w32 n) file → HasAt place (to_le_bytes w32 m) file → n ≡ m
count_same place n m file n_fits m_fits has_n has_m =
    let one : to_le_bytes w32 n ≡ to_le_bytes w32 m = has_same place (to_le_bytes w32 n) (to_le_bytes w32 m) file refl has_n has_m in
    sym (from_le_bytes-to_le_bytes_4 n n_fits) ∙ ap (λ (l : List ℕ). from_le_bytes w32 l) one ∙ from_le_bytes-to_le_bytes_4 m m_fits

number_same : (place n m : ℕ) (file : List ℕ) → n < 2 ^ 64 → m < 2 ^ 64 → HasAt place (to_le_bytes w64 n) file → HasAt place (to_le_bytes w64 m) file → n ≡ m
number_same place n m file n_fits m_fits has_n has_m =
    let one : to_le_bytes w64 n ≡ to_le_bytes w64 m = has_same place (to_le_bytes w64 n) (to_le_bytes w64 m) file refl has_n has_m in
    sym (from_le_bytes-to_le_bytes_8 n n_fits) ∙ ap (λ (l : List ℕ). from_le_bytes w64 l) one ∙ from_le_bytes-to_le_bytes_8 m m_fits

module _ (slot : Area) (file : List ℕ) where
  -- the length, as it follows the generation
  has_count : (g n : ℕ) → HasHead slot g n file → HasAt (slot.base + 9) (to_le_bytes w32 n) file
  has_count g n is =
      let there : slot.base + 1 + 8 ≡ slot.base + 9 = omega arith in
      subst (λ (k : ℕ). HasAt k (to_le_bytes w32 n) file) there (has_right (slot.base + 1) (to_le_bytes w64 g) (to_le_bytes w32 n) file is.head)

  head_same : (g n h m : ℕ) → HasHead slot g n file → HasHead slot h m file → (g ≡ h) × (n ≡ m)
  head_same g n h m first second = (
    number_same (slot.base + 1) g h file first.number second.number
        (has_left (slot.base + 1) (to_le_bytes w64 g) (to_le_bytes w32 n) file first.head) (has_left (slot.base + 1) (to_le_bytes w64 h) (to_le_bytes w32 m) file second.head),
    count_same (slot.base + 9) n m file first.count second.count (has_count g n first) (has_count h m second),
  )

  -- a slot that is closed, or open with a whole head, isn't bad
  whole_length : (g n : ℕ) → HasHead slot g n file → HasBadBodyLength slot file → ⊥
  whole_length g n is (inl short) = omega (arith, is.within, short)
  whole_length g n is (inr (m, has, fits, wrong)) =
      let same : n ≡ m = count_same (slot.base + 9) n m file is.count fits (has_count g n is) has in
      ⊎_elim (λ (great : slot.length < 13 + m). omega (arith, is.room, same, great)) (λ (short : length file < slot.base + 13 + m). omega (arith, is.within, same, short)) wrong

  pub whole_slot : (g n : ℕ) → IsOpenWith slot g n file → IsBadSlot slot file → ⊥
  whole_slot g n is (inl short) = omega (arith, is.head.within, short)
  whole_slot g n is (inr (gate, bad)) = whole_length g n is.head bad

  pub closed_slot : IsClosedAt slot.base file → IsBadSlot slot file → ⊥
  closed_slot shut (inl short) = omega (arith, shut.within, short)
  closed_slot shut (inr (gate, bad)) = not_closed slot.base file gate shut

  pub behind_slot : (g : ℕ) → IsClosedAt slot.base file ⊎ IsOlder slot g file → IsBadSlot slot file → ⊥
  behind_slot g (inl shut) = closed_slot shut
  behind_slot g (inr (older, n, is, lt)) = whole_slot older n is

module _ (a b : Area) (file : List ℕ) where
  pub one_live : (g h : ℕ) (x y : List ℕ) → IsLive a b g x file → IsLive a b h y file → (g ≡ h) × (x ≡ y)
  one_live g h x y first second =
      let same = head_same a file g (length x) h (length y) first.is_open.content.head second.is_open.content.head in
      (same.0, has_same (a.base + 13) x y file same.1 first.is_open.content.stands second.is_open.content.stands)

  -- the slot other than the live one has a lower generation if it is open
  lower : (g h n : ℕ) (x : List ℕ) → IsLive a b g x file → IsOpenWith b h n file → h < g
  lower g h n x live is = at live.behind
    where
      at : IsClosedAt b.base file ⊎ IsOlder b g file → h < g
      at (inl shut) = absurd (not_closed b.base file is.gate shut)
      at (inr (older, m, with, lt)) = omega (arith, lt, (head_same b file older m h n with.head is.head).0)

  pub not_blank : (g : ℕ) (x : List ℕ) → IsLive a b g x file → AreBlank a b file → ⊥
  not_blank g x live blank = not_closed a.base file live.is_open.gate blank.0

  pub nor_both : (p : ℕ) → AreBlank a b file → AreSlotsDamagedAt a b p file → ⊥
  nor_both p blank (inl (bad, is)) = closed_slot a file blank.0 bad
  nor_both p blank (inr (good, is, inl bad)) = closed_slot b file blank.1 bad
  nor_both p blank (inr (good, is, inr (g, n, m, one, other))) = not_closed a.base file one.gate blank.0

  pub one_place : (p q : ℕ) → AreSlotsDamagedAt a b p file → AreSlotsDamagedAt a b q file → p ≡ q
  one_place p q (inl (bad, is)) (inl (bad', is')) = is ∙ sym is'
  one_place p q (inl (bad, is)) (inr (good, is', rest)) = absurd (good bad)
  one_place p q (inr (good, is, rest)) (inl (bad, is')) = absurd (good bad)
  one_place p q (inr (good, is, rest)) (inr (good', is', rest')) = is ∙ sym is'

  pub not_damaged : (g p : ℕ) (x : List ℕ) → IsLive a b g x file → AreSlotsDamagedAt a b p file → ⊥
  not_damaged g p x live (inl (bad, is)) = whole_slot a file g (length x) (open_with a g x file live.is_open) bad
  not_damaged g p x live (inr (good, is, inl bad)) = behind_slot b file g live.behind bad
  not_damaged g p x live (inr (good, is, inr (h, n, m, one, other))) =
      let same = head_same a file g (length x) h n live.is_open.content.head one.head in
      omega (arith, lower g h m x live other, same.0)

  pub nor_damaged : (g p : ℕ) (x : List ℕ) → IsLive b a g x file → AreSlotsDamagedAt a b p file → ⊥
  nor_damaged g p x live (inl (bad, is)) = behind_slot a file g live.behind bad
  nor_damaged g p x live (inr (good, is, inl bad)) = whole_slot b file g (length x) (open_with b g x file live.is_open) bad
  nor_damaged g p x live (inr (good, is, inr (h, n, m, one, other))) = at live.behind
    where
      at : IsClosedAt a.base file ⊎ IsOlder a g file → ⊥
      at (inl shut) = not_closed a.base file one.gate shut
      at (inr (older, k, with, lt)) =
          omega (arith, lt, (head_same a file older k h n with.head one.head).0, (head_same b file g (length x) h m live.is_open.content.head other.head).0)

pub one_slot : (a b : Area) (g h : ℕ) (x y file : List ℕ) → IsLive a b g x file → IsLive b a h y file → ⊥
one_slot a b g h x y file first second =
    omega (arith, lower a b file g h (length y) x first (open_with b h y file second.is_open), lower b a file h g (length x) y second (open_with a g x file first.is_open))
